-- `add` meets its contract: the line is put behind the others.
use mathlib.Core.Path.{ap, ◌∙◌}
use mathlib.Core.List.{◌++◌}
use native.Mathlib.Omega.{arith}
use lib.ListN.{length}
use Rattle.sequence.proofs.SequenceLaws.{written_behind}
use Rattle.lines.proofs.add.Goals as goal

pub returns-clause-added : goal.returns-clause-added
returns-clause-added o c =
    c.put.ensures
    ∙ written_behind c.args.lines.now c.len-n.result _ _ c.len-n.ensures.value (omega (arith, c.len.ensures.value, ap length c.as_slice.ensures.value))
    ∙ ap (◌++◌ c.args.lines.now.items) c.as_slice.ensures.value

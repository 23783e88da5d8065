-- `extend_from_slice` meets its contract: the items are put behind the others.
use mathlib.Core.Path.{◌∙◌}
use native.Mathlib.Omega.{arith}
use Rattle.sequence.proofs.SequenceLaws.{count_is, written_behind}
use Rattle.sequence.proofs.Sequence.extend_from_slice.Goals as goal

pub returns-clause-items : goal.returns-clause-items
returns-clause-items o c =
    c.put.ensures
    ∙ written_behind c.args.self.now _ c.args.more.now _ (count_is c.self.inside.cells c.self.view_is (omega (arith, c.self.invariant))) (omega arith)

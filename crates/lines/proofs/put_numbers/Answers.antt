-- `put_numbers`: one number more is put.
use Rattle.std.proofs.Common.{rules}
use mathlib.Core.List.{append_assoc}
use Rattle.lines.proofs.LineLaws.{spaced_more}
use Rattle.lines.proofs.put_numbers.Goals as goal

pub loop-n-preserved : goal.loop-n-preserved
loop-n-preserved c = (
  rw (spaced_more c.args.numbers.now c.loop-n.n-index (search rules))
      (simp (c.put_number.ensures.put, c.loop-n.invariant.0, append_assoc)),
  search rules,
)

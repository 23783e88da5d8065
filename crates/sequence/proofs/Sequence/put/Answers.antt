-- `put` meets its contract: the items are copied over the cells from the place on.
use native.Mathlib.Omega.{arith}
use Rattle.sequence.proofs.SequenceLaws.{copied}
use Rattle.sequence.proofs.Sequence.put.Goals as goal

pub returns : goal.returns
returns o c = copied c.self.inside.cells c.self.view_is (omega (arith, c.self.invariant)) _ _ _ _ c.copy_from_slice.ensures.after

-- `reverse` meets its contract: the first cells are turned.
use native.Mathlib.Omega.{arith}
use Rattle.sequence.proofs.SequenceLaws.{turned}
use Rattle.sequence.proofs.Sequence.reverse.Goals as goal

pub returns : goal.returns
returns o c = turned c.self.inside.cells c.self.view_is (omega (arith, c.self.invariant)) _ c.reverse.ensures.after

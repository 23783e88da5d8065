-- `push` meets its contract: the item stands behind the others.
use native.Mathlib.Omega.{arith}
use Rattle.sequence.proofs.SequenceLaws.{count_is, pushed}
use Rattle.sequence.proofs.Sequence.push.Goals as goal

pub returns-clause-items : goal.returns-clause-items
returns-clause-items o c =
    pushed c.self.inside.cells c.self.view_is (omega (arith, c.self.invariant)) c.args.item
    (omega (arith, c.requires, c.self.invariant, count_is c.self.inside.cells c.self.view_is (omega (arith, c.self.invariant))))

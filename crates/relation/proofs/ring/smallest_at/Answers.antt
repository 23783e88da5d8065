-- `ring::smallest_at` meets its contract.
use native.Mathlib.Omega.{arith}
use Rattle.relation.proofs.RingLaws.{smallest_one, smallest_new, smallest_old, smallest_done}
use Rattle.relation.proofs.ring.smallest_at.Goals as goal

pub loop-k-init : goal.loop-k-init
loop-k-init c = smallest_one _

pub bounds-events-m : goal.bounds-events-m
bounds-events-m c = omega (arith, c.loop-k.invariant.inside)

pub loop-k-preserved : goal.loop-k-preserved
loop-k-preserved c =
    elim c.if-events-k.branch [
      | goal.then-events-k w ↦ rw w.m-is (smallest_new _ _ _ c.loop-k.invariant w.if-events-k.true)
      | goal.else-events-k w ↦ rw w.m-is (smallest_old _ _ _ c.loop-k.invariant w.if-events-k.false)
    ]

pub returns : goal.returns
returns c = smallest_done _ _ _ _ (omega arith) c.loop-k.invariant

-- `ring::smallest_at` meets its contract.
use Rattle.relation.specs.Ring.{SmallestAt}
use Rattle.relation.proofs.ring.smallest_at.Given as goal

abbrev pub invariant-loop-k : goal.invariant-loop-k
invariant-loop-k l = SmallestAt l.events l.k l.m

-- `order::order` meets its contract: what is out, followed by the order of what is left, is the order of all.
use Rattle.relation.specs.Rel.{inverse, count}
use Rattle.relation.specs.Bits.{bit, edge}
use Rattle.relation.proofs.OrderLaws.{Out}
use Rattle.relation.proofs.order.order.Given as goal

abbrev pub invariant-loop-k : goal.invariant-loop-k
invariant-loop-k l = Out (inverse (edge l.before)) (bit l.initial.left) l.events.items (bit l.left)

abbrev pub decreases-loop-k : goal.decreases-loop-k
decreases-loop-k l = count 64 (bit l.left)

-- `order::next_of` meets its contract: the members are gone through up to the first ready one.
use Rattle.relation.specs.Rel.{inverse, members}
use Rattle.relation.specs.Bits.{on, bit, edge}
use Rattle.relation.specs.Order.{ready}
use Rattle.relation.proofs.MemberLaws.{Searching}
use Rattle.relation.proofs.order.next_of.Given as goal

abbrev pub invariant-loop-k : goal.invariant-loop-k
invariant-loop-k l =
    (goal.iterator-loop-k).can_next l.k-iterator × (goal.iterator-loop-k).is_finite l.k-iterator
    × Searching (bit l.left) (ready (inverse (edge l.before)) (bit l.left)) (members (on l.k-iterator.rest))

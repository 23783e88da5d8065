-- `grid::reached` meets its contract, member by member.
use Rattle.relation.specs.Rel.{members}
use Rattle.relation.specs.Bits.{on, bit, edge}
use Rattle.relation.proofs.GridLaws.{Reached}
use Rattle.relation.proofs.grid.reached.Given as goal

abbrev pub invariant-loop-i : goal.invariant-loop-i
invariant-loop-i l =
    (goal.iterator-loop-i).can_next l.i-iterator × (goal.iterator-loop-i).is_finite l.i-iterator
    × Reached (bit l.fn.s) (edge l.g) (bit l.r) (members (on l.i-iterator.rest))

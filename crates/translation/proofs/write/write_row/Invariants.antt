-- `write::write_row` meets its contract, source by source.
use Rattle.relation.specs.Rel.{members}
use Rattle.relation.specs.Bits.{on, bit}
use Rattle.translation.proofs.WriteLaws.{RowAt}
use Rattle.translation.proofs.write.write_row.Given as goal

abbrev pub invariant-loop-a : goal.invariant-loop-a
invariant-loop-a l =
    (goal.iterator-loop-a).can_next l.a-iterator × (goal.iterator-loop-a).is_finite l.a-iterator
    × RowAt l.initial.part (bit l.fn.row) l.t l.last l.n (members (on l.a-iterator.rest)) l.m l.part

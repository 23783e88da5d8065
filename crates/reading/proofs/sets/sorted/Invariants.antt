-- `sets::sorted` meets its contract, member by member.
use Prim.Native.Nat.{◌<◌}
use Rattle.relation.specs.Bits.{on, bit}
use Rattle.relation.specs.Rel.{members}
use Rattle.layout.specs.Layout.{Sized}
use Rattle.reading.specs.Sets.{AllRecorded}
use Rattle.reading.proofs.SortLaws.{Sorting}
use Rattle.reading.proofs.sets.sorted.Given as goal

abbrev pub invariant-loop-e : goal.invariant-loop-e
invariant-loop-e l = (goal.iterator-loop-e).can_next l.e-iterator × (goal.iterator-loop-e).is_finite l.e-iterator × Sized l.file × (l.k < 8) × AllRecorded l.file (bit l.fn.row)
    × Sorting l.file (bit l.fn.row) l.k l.rows (members (on l.e-iterator.rest))

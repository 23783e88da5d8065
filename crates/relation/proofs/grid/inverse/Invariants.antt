-- `grid::inverse` meets its contract, pair by pair.
use mathlib.Core.Path.{◌≡◌}
use Prim.Native.Nat.{◌*◌}
use lib.ListN.{length}
use Rattle.relation.specs.Rel.{members}
use Rattle.relation.specs.Bits.{on, edge}
use Rattle.relation.proofs.GridLaws.{turned_below, Turning}
use Rattle.relation.proofs.grid.inverse.Given as goal

abbrev pub invariant-loop-j : goal.invariant-loop-j
invariant-loop-j l =
    (goal.iterator-loop-j).can_next l.j-iterator × (goal.iterator-loop-j).is_finite l.j-iterator
    × Turning l.g l.i l.h (members (on l.j-iterator.rest))

abbrev pub invariant-loop-i : goal.invariant-loop-i
invariant-loop-i l = (edge l.h ≡ turned_below (edge l.g) (64 * l.i)) × (length l.h ≡ 64) × (length l.g ≡ 64)

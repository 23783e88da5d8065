-- `grid::row_by_row` meets its contract: the rows below i are made.
use mathlib.Core.Path.{◌≡◌}
use mathlib.Core.List.{[]}
use Prim.Native.Nat.{ℕ, ◌<◌}
use lib.ListN.{length, get_or}
use Rattle.relation.proofs.grid.row_by_row.Given as goal

abbrev pub invariant-loop-i : goal.invariant-loop-i
invariant-loop-i g l = (length l.h ≡ 64) × ((j : ℕ) → j < l.i → goal.F-post g l.join (get_or l.a j []) (get_or l.b j []) (get_or l.h j []))

-- `grid::passing` meets its contract: the events below i that pass are found.
use mathlib.Core.Path.{◌≡◌}
use mathlib.Core.Bool.{false}
use Prim.Native.Nat.{ℕ, ◌<◌, ◌≤◌}
use Rattle.relation.specs.Bits.{bit}
use Rattle.relation.proofs.grid.passing.Given as goal

abbrev pub invariant-loop-i : goal.invariant-loop-i
invariant-loop-i g l = ((j : ℕ) → l.i ≤ j → bit l.r j ≡ false) × ((j : ℕ) → j < l.i → goal.F-post g l.test j (bit l.r j))

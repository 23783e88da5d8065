-- `link::by_rows` meets its contract: the rows below e are made.
use mathlib.Core.Path.{◌≡◌}
use mathlib.Core.List.{[]}
use Prim.Native.Nat.{ℕ, ◌<◌}
use lib.ListN.{length, get_or}
use Rattle.translation.proofs.link.by_rows.Given as goal

abbrev pub invariant-loop-e : goal.invariant-loop-e
invariant-loop-e g l = (length l.h ≡ 64) × ((j : ℕ) → j < l.e → goal.F-post g l.row j (get_or l.h j []))

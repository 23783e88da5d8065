-- `event::fenced` meets its contract: no number before the one returned is such a write.
use mathlib.Core.Path.{◌≡◌}
use mathlib.Core.Bool.{false, ◌&&◌}
use Prim.Native.Nat.{ℕ, ◌<◌}
use lib.Dec.{eqb}
use Rattle.translation.specs.Contents.{contents}
use Rattle.translation.specs.Translate.{strong, inserted}
use Rattle.translation.proofs.event.fenced.Given as goal

abbrev pub invariant-loop-w : goal.invariant-loop-w
invariant-loop-w l = (v : ℕ) → v < l.w → strong (contents l.file) v && eqb (inserted (contents l.file) v) l.e ≡ false

-- `field::value_of` meets its contract.
use mathlib.Core.Path.{ap₂}
use Prim.Native.Nat.{ℕ, ◌+◌, ◌*◌}
use Rattle.layout.specs.Decode.{decode}
use Rattle.layout.proofs.field.value_of.Goals as goal

pub returns : goal.returns
unfolding decode
returns c = ap₂ (λ (a b : ℕ). a + 256 * b) c.field.ensures.0 c.field-2.ensures.0

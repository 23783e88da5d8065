-- Laws of a call that fills an array that is never too short.
use mathlib.Core.Path.{◌≡◌, refl}
use mathlib.Core.List.{List}
use Prim.Native.Nat.{ℕ, ◌≤◌}
use native.Mathlib.Omega.{arith}
use lib.ListN.{length, take}
use Rattle.std.specs.Prelude.{Result, Ok, Err, IsOk}
use Rattle.refusal.specs.declared.Refusal.{Refusal}
use Rattle.output.specs.Output.{Fills}
use Rattle.output.proofs.FillLaws.{fills_fits, fills_wrote}

-- Where no cause applies the call is not refused.
pub fills_ok : {k : ℕ} {bytes out : List ℕ} {r : Result ℕ Refusal} {left : List ℕ} → Fills k bytes out r left → k ≡ 0 → length bytes ≤ length out → IsOk r
fills_ok {r = Ok n} w p h = refl
fills_ok {k} {bytes} {out} {r = Err e} {left} w p h = absurd (fills_fits k bytes out (Err e) left w p h e refl)

-- n bytes, at most m, were written, and these are the bytes that are asked for.
pub record Written (bytes : List ℕ) (m n : ℕ) (left : List ℕ) : Type 0 where
  pub few : n ≤ m
  pub within : n ≤ length left
  pub begins : take n left ≡ bytes

pub written : {k : ℕ} {bytes out : List ℕ} {r : Result ℕ Refusal} {left : List ℕ} {m : ℕ} → Fills k bytes out r left → length bytes ≤ m → {n : ℕ} → r ≡ Ok n
    → Written bytes m n left
written {k} {bytes} {out} {r} {left} w few {n} p =
    let v = fills_wrote k bytes out r left w n p in
    record { few = omega (arith, v.size); within = v.within; begins = v.begins }

-- Laws of the bits of bytes and of rows.
use mathlib.Core.Path.{◌≡◌, refl, ap, ◌∙◌, fun_ext}
use mathlib.Core.List.{List}
use mathlib.Core.Bool.{Bool, true, false, not, ◌&&◌, ◌||◌, beq, and-false}
use Prim.Native.Nat.{ℕ, zero, suc, ◌/◌, ◌%◌, ◌^◌, ◌<◌, ◌≤◌}
use native.Mathlib.Nat.{zero-div}
use native.Mathlib.Omega.{arith}
use borrow.Author.Tests.{lt-ltb, le-ltb}
use lib.Dec.{eqb, ltb}
use lib.ListN.{get_or, replicate}
use lib.Bits.{bit_and, bit_or, bit_xor, and_shr, or_shr, xor_shr, and_mod, or_mod, xor_mod}
use Rattle.relation.specs.Rel.{empty}
use Rattle.relation.specs.Bits.{on, bit}

-- What holds of the two binary digits holds of every digit, and so of pairs.
pub digits : (P : ℕ → Type 0) → P 0 → P 1 → (u : ℕ) → u < 2 → P u
digits P a b zero p = a
digits P a b (suc zero) p = b
digits P a b (suc (suc u)) p = absurd (omega arith)

pub digit_pairs : (P : ℕ → ℕ → Type 0) → P 0 0 → P 0 1 → P 1 0 → P 1 1 → (u v : ℕ) → u < 2 → v < 2 → P u v
digit_pairs P a b c d u v p q = digits (λ x. P x v) (digits (P 0) a b v q) (digits (P 1) c d v q) u p

-- A bitwise operation f acts on each bit as b.
abbrev pub Bitwise : (ℕ → ℕ → ℕ) → (Bool → Bool → Bool) → Type 0
Bitwise f b = (x y k : ℕ) → on (f x y) k ≡ b (on x k) (on y k)

bitwise : (f : ℕ → ℕ → ℕ) (b : Bool → Bool → Bool) → ((x y k : ℕ) → f x y / 2 ^ k ≡ f (x / 2 ^ k) (y / 2 ^ k))
    → ((x y k : ℕ) → f x y % 2 ^ k ≡ f (x % 2 ^ k) (y % 2 ^ k))
    → ((u v : ℕ) → u < 2 → v < 2 → eqb (f u v) 1 ≡ b (eqb u 1) (eqb v 1)) → Bitwise f b
unfolding on
bitwise f b shr rem table x y k =
    ap (λ (z : ℕ). eqb (z % 2) 1) (shr x y k) ∙ ap (λ (z : ℕ). eqb z 1) (rem (x / 2 ^ k) (y / 2 ^ k) 1)
    ∙ table (x / 2 ^ k % 2) (y / 2 ^ k % 2) (omega arith) (omega arith)

pub on_or : Bitwise bit_or ◌||◌
on_or = bitwise bit_or ◌||◌ or_shr or_mod (digit_pairs (λ u v. eqb (bit_or u v) 1 ≡ eqb u 1 || eqb v 1) refl refl refl refl)

pub on_and : Bitwise bit_and ◌&&◌
on_and = bitwise bit_and ◌&&◌ and_shr and_mod (digit_pairs (λ u v. eqb (bit_and u v) 1 ≡ eqb u 1 && eqb v 1) refl refl refl refl)

-- x without y, as x ^ (x & y)
abbrev pub bit_but : ℕ → ℕ → ℕ
bit_but x y = bit_xor x (bit_and x y)

abbrev pub but : Bool → Bool → Bool
but a b = a && not b

xor_and : (a b : Bool) → not (beq a (a && b)) ≡ but a b
xor_and true true = refl
xor_and true false = refl
xor_and false b = refl

pub on_but : Bitwise bit_but but
on_but x y k =
    bitwise bit_xor (λ a b. not (beq a b)) xor_shr xor_mod
    (digit_pairs (λ u v. eqb (bit_xor u v) 1 ≡ not (beq (eqb u 1) (eqb v 1))) refl refl refl refl) x (bit_and x y) k
    ∙ ap (λ (z : Bool). not (beq (on x k) z)) (on_and x y k) ∙ xor_and (on x k) (on y k)

-- No bit is on in 0.
pub on_zero : (k : ℕ) → on 0 k ≡ false
unfolding on
on_zero k = ap (λ (z : ℕ). eqb (z % 2) 1) (zero-div (2 ^ k))

-- A row holds no number from 64 on.
pub bit_out : (row : List ℕ) (j : ℕ) → 64 ≤ j → bit row j ≡ false
unfolding bit
bit_out row j h = ap (λ (b : Bool). b && on (get_or row (j / 8) 0) (j % 8)) (le-ltb j 64 h)

pub bit_in : (row : List ℕ) (j : ℕ) → j < 64 → bit row j ≡ on (get_or row (j / 8) 0) (j % 8)
unfolding bit
bit_in row j h = ap (λ (b : Bool). b && on (get_or row (j / 8) 0) (j % 8)) (lt-ltb j 64 h)

pub zero_at : (n i : ℕ) → get_or {A = ℕ} (replicate n 0) i 0 ≡ 0
zero_at zero i = refl
zero_at (suc n) zero = refl
zero_at (suc n) (suc i) = zero_at n i

pub bit_none : bit (replicate 8 0) ≡ empty
unfolding bit empty
bit_none =
    fun_ext
    (λ j. ap (λ (x : ℕ). ltb j 64 && on x (j % 8)) (zero_at 8 (j / 8)) ∙ ap (λ (b : Bool). ltb j 64 && b) (on_zero (j % 8))
    ∙ and-false (ltb j 64))

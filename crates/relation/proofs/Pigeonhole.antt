-- Of n + 1 numbers below n two are equal.
use mathlib.Core.Path.{◌≡◌, sym, ap, ◌∙◌}
use mathlib.Core.Logic.{◌⊎◌, inl, inr}
use Prim.Native.Nat.{ℕ, zero, suc, ◌-◌, ◌<◌, ◌≤◌}
use native.Mathlib.Omega.{arith}
use native.Mathlib.Decide.{ℕ_discrete, dec_lt}

-- Two places up to n at which f agrees.
pub record Twice (f : ℕ → ℕ) (n : ℕ) : Type 0 where
  pub first : ℕ
  pub second : ℕ
  pub before : first < second
  pub within : second ≤ n
  pub same : f first ≡ f second

-- Some place below n at which f is v, or none.
seek : (f : ℕ → ℕ) (v n : ℕ) → ((i : ℕ) × (i < n) × (f i ≡ v)) ⊎ ((i : ℕ) → i < n → f i ≡ v → ⊥)
seek f v zero = inr (λ i h e. omega arith)
seek f v (suc n) =
    elim (ℕ_discrete (f n) v) [
      | yes e ↦ inl (n, omega arith, e)
      | no d ↦ elim (seek f v n) [
        | inl w ↦ inl (w.0, omega (arith, w.1), w.2)
        | inr none ↦ inr (λ i h e. elim (ℕ_discrete i n) [ yes p ↦ d (ap f (sym p) ∙ e) | no q ↦ none i (omega (arith, q)) e ])
      ]
    ]

-- f with the value v taken out: what lies above it moves down.
abbrev lower : {P : Type 0} → Dec P → ℕ → ℕ
lower (yes h) x = x - 1
lower (no h) x = x

down : ℕ → ℕ → ℕ
down v x = lower (dec_lt v x) x

down_lt : (v x n : ℕ) → v < suc n → x < suc n → (x ≡ v → ⊥) → down v x < n
unfolding down
down_lt v x n hv hx d = go (dec_lt v x)
  where
    go : (t : Dec (v < x)) → lower t x < n
    go (yes h) = omega arith
    go (no h) = omega (arith, h, d)

down_same : (v x y : ℕ) → (x ≡ v → ⊥) → (y ≡ v → ⊥) → down v x ≡ down v y → x ≡ y
unfolding down
down_same v x y p q = go (dec_lt v x) (dec_lt v y)
  where
    go : (t : Dec (v < x)) (u : Dec (v < y)) → lower t x ≡ lower u y → x ≡ y
    go (yes h) (yes g) e = omega arith
    go (yes h) (no g) e = absurd (omega (arith, g, q))
    go (no h) (yes g) e = absurd (omega (arith, h, p))
    go (no h) (no g) e = e

pub pigeonhole : (n : ℕ) (f : ℕ → ℕ) → ((i : ℕ) → i ≤ n → f i < n) → Twice f n
pigeonhole zero f h = let w = h zero (omega arith) in absurd (omega arith)
pigeonhole (suc n) f h =
    elim (seek f (f (suc n)) (suc n)) [
      | inl w ↦ record { first = w.0; second = suc n; before = w.1; within = omega arith; same = w.2 }
      | inr none ↦ lift none (pigeonhole n (λ i. down (f (suc n)) (f i)) (λ i g. down_lt (f (suc n)) (f i) n (h (suc n) (omega arith)) (h i (omega arith)) (none i (omega arith))))
    ]
  where
    lift : ((i : ℕ) → i < suc n → f i ≡ f (suc n) → ⊥) → Twice (λ i. down (f (suc n)) (f i)) n → Twice f (suc n)
    lift none w =
        record {
          first = w.first;
          second = w.second;
          before = w.before;
          within = omega (arith, w.within);
          same = down_same (f (suc n)) (f w.first) (f w.second) (none w.first (omega (arith, w.before, w.within))) (none w.second (omega (arith, w.within))) w.same;
        }

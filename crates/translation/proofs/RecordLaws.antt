-- Laws of records written one after the other: how long they are, and what stands at each place.
use mathlib.Core.Path.{◌≡◌, refl, sym, ap, ap₂, ◌∙◌}
use mathlib.Core.Bool.{Bool, true, false}
use mathlib.Core.List.{List, [], ◌++◌, append-nil, append_assoc}
use mathlib.Core.Logic.{inl, inr}
use Prim.Native.Nat.{ℕ, zero, suc, ◌+◌, ◌*◌, ◌<◌, ◌≤◌}
use native.Mathlib.Numerals.{add-one}
use native.Mathlib.Omega.{arith}
use native.Mathlib.Decide.{ℕ_discrete}
use native.Mathlib.Nat.{add-zero, add-suc, mul-zero, mul-suc, mul-le-mul_left}
use lib.ListN.{length, get_or, length-append, get_or-append}
use lib.Seq.{get_or-append-add}
use Rattle.relation.specs.Rel.{Set, count}
use Rattle.relation.proofs.SetLaws.{skip_to}
use Rattle.translation.specs.Encode.{records}
use Rattle.relation.proofs.Counting.{count_cases, count_lt}

module _ (record_of : ℕ → List ℕ) (s : Set) where
  pub records_yes : (n : ℕ) → s n ≡ true → records record_of s (suc n) ≡ records record_of s n ++ record_of n
  unfolding records
  records_yes n e = rw (e, records)

  pub records_no : (n : ℕ) → s n ≡ false → records record_of s (suc n) ≡ records record_of s n
  unfolding records
  records_no n e = rw (e, records) (append-nil (records record_of s n))

  -- None is added where the set has no number.
  pub records_none : (m n : ℕ) → m ≤ n → ((k : ℕ) → m ≤ k → k < n → s k ≡ false) → records record_of s n ≡ records record_of s m
  records_none m n h f =
      skip_to s (λ k. records record_of s k ≡ records record_of s m) (λ k e p. ap (records record_of s) (add-one k) ∙ records_no k e ∙ p) m n h f refl

-- Records of z bytes.
module _ (z : ℕ) (record_of : ℕ → List ℕ) (s : Set) (size : (k : ℕ) → length (record_of k) ≡ z) where
  pub records_length : (n : ℕ) → length (records record_of s n) ≡ z * count n s
  unfolding records count
  records_length zero = sym (mul-zero z)
  records_length (suc n) =
      elim (count_cases n s) [
        | inl w ↦ ap length (records_yes record_of s n w.0) ∙ length-append (records record_of s n) (record_of n)
            ∙ omega (arith, records_length n, size n, mul-suc z (count n s), ap (λ (x : ℕ). z * x) w.1)
        | inr w ↦ ap length (records_no record_of s n w.0) ∙ records_length n ∙ ap (λ (x : ℕ). z * x) (sym w.1)
      ]

  pub records_at : (n k j : ℕ) → k < n → s k ≡ true → j < z → get_or (records record_of s n) (z * count k s + j) 0 ≡ get_or (record_of k) j 0
  records_at zero k j h e g = absurd (omega arith)
  records_at (suc n) k j h e g =
      elim (ℕ_discrete k n) [
        | yes p ↦ ap (λ (l : List ℕ). get_or l (z * count k s + j) 0) (records_yes record_of s n (ap s (sym p) ∙ e))
            ∙ ap (λ (x : ℕ). get_or (records record_of s n ++ record_of n) (x + j) 0) (ap (λ (x : ℕ). z * count x s) p ∙ sym (records_length n))
            ∙ get_or-append-add (records record_of s n) (record_of n) j 0 ∙ ap (λ (x : ℕ). get_or (record_of x) j 0) (sym p)
        | no d ↦ elim (count_cases n s) [
          | inl w ↦ ap (λ (l : List ℕ). get_or l (z * count k s + j) 0) (records_yes record_of s n w.0)
              ∙ get_or-append (records record_of s n) (record_of n) 0 (z * count k s + j) (inside d)
              ∙ records_at n k j (omega (arith, d)) e g
          | inr w ↦ ap (λ (l : List ℕ). get_or l (z * count k s + j) 0) (records_no record_of s n w.0) ∙ records_at n k j (omega (arith, d)) e g
        ]
      ]
    where
      inside : (k ≡ n → ⊥) → z * count k s + j < length (records record_of s n)
      inside d =
          let c : suc (count k s) ≤ count n s = count_lt k n s (omega (arith, d)) e in
          omega (arith, records_length n, mul-le-mul_left z c, mul-suc z (count k s))

-- The records of a stretch are those of the set and of the records moved to its start.
pub records_add : (record_of : ℕ → List ℕ) (s : Set) (m n : ℕ)
    → records record_of s (m + n) ≡ records record_of s m ++ records (λ k. record_of (m + k)) (λ k. s (m + k)) n
unfolding records
records_add record_of s m zero = ap (records record_of s) (add-zero m) ∙ sym (append-nil (records record_of s m))
records_add record_of s m (suc n) =
    ap (records record_of s) (add-suc m n)
    ∙ ap (λ (l : List ℕ). l ++ elim (s (m + n)) [ true ↦ record_of (m + n) | false ↦ [] ]) (records_add record_of s m n)
    ∙ append_assoc (records record_of s m) (records (λ k. record_of (m + k)) (λ k. s (m + k)) n) (elim (s (m + n)) [ true ↦ record_of (m + n) | false ↦ [] ])

pub records_same : (r u : ℕ → List ℕ) (s t : Set) (n : ℕ) → ((k : ℕ) → k < n → s k ≡ t k) → ((k : ℕ) → k < n → r k ≡ u k) → records r s n ≡ records u t n
unfolding records
records_same r u s t zero e f = refl
records_same r u s t (suc n) e f =
    ap (λ (l : List ℕ). l ++ elim (s n) [ true ↦ r n | false ↦ [] ]) (records_same r u s t n (λ k h. e k (omega arith)) (λ k h. f k (omega arith)))
    ∙ ap₂ (λ (b : Bool) (l : List ℕ). records u t n ++ elim b [ true ↦ l | false ↦ [] ]) (e n (omega arith)) (f n (omega arith))

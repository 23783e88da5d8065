-- Laws of counting: how many numbers below n are in a set.
use mathlib.Core.Path.{◌≡◌, refl, sym, ap, subst, ◌∙◌}
use mathlib.Core.Bool.{Bool, true, false, and-false, and-true}
use mathlib.Core.Logic.{◌⊎◌, inl, inr}
use Prim.Native.Nat.{ℕ, zero, suc, ◌+◌, ◌*◌, ◌/◌, ◌<◌, ◌≤◌}
use native.Mathlib.Numerals.{add-one}
use native.Mathlib.Omega.{arith}
use native.Mathlib.Nat.{add-suc, add-zero}
use native.Mathlib.Decide.{ℕ_discrete, dec_le, dec_lt}
use borrow.Author.Tests.{eq-eqb, ne_eqb}
use Rattle.relation.specs.Rel.{Set, single, difference, count}
use Rattle.relation.proofs.Pigeonhole.{Twice, pigeonhole}

pub count_yes : (n : ℕ) (s : Set) → s n ≡ true → count (suc n) s ≡ suc (count n s)
unfolding count
count_yes n s e = rw (e, count)

pub count_no : (n : ℕ) (s : Set) → s n ≡ false → count (suc n) s ≡ count n s
unfolding count
count_no n s e = rw (e, count)

-- The same at n + 1, as code has it.
pub count_next_yes : (n : ℕ) (s : Set) → s n ≡ true → count (n + 1) s ≡ count n s + 1
count_next_yes n s e = rw (add-one n, add-one (count n s)) (count_yes n s e)

pub count_next_no : (n : ℕ) (s : Set) → s n ≡ false → count (n + 1) s ≡ count n s
count_next_no n s e = rw (add-one n) (count_no n s e)

-- One number more is one member more, or none.
pub count_cases : (n : ℕ) (s : Set) → ((s n ≡ true) × (count (suc n) s ≡ suc (count n s))) ⊎ ((s n ≡ false) × (count (suc n) s ≡ count n s))
count_cases n s = go (s n) refl
  where
    go : (b : Bool) → s n ≡ b → ((s n ≡ true) × (count (suc n) s ≡ suc (count n s))) ⊎ ((s n ≡ false) × (count (suc n) s ≡ count n s))
    go true e = inl (e, count_yes n s e)
    go false e = inr (e, count_no n s e)

pub count_step : (n : ℕ) (s : Set) → (count n s ≤ count (suc n) s) × (count (suc n) s ≤ suc (count n s))
count_step n s = elim (count_cases n s) [ inl w ↦ omega (arith, w.1) | inr w ↦ omega (arith, w.1) ]

pub count_le : (n : ℕ) (s : Set) → count n s ≤ n
unfolding count
count_le zero s = omega arith
count_le (suc n) s = omega (arith, count_le n s, count_step n s)

pub count_mono : (m n : ℕ) (s : Set) → m ≤ n → count m s ≤ count n s
count_mono m zero s h = (let e : m ≡ 0 = omega arith in omega (arith, ap (λ (x : ℕ). count x s) e))
count_mono m (suc n) s h =
    elim (ℕ_discrete m (suc n)) [
      | yes e ↦ omega (arith, ap (λ (x : ℕ). count x s) e)
      | no d ↦ omega (arith, count_mono m n s (omega arith), count_step n s)
    ]

-- A member adds to the count of what lies above it.
pub count_lt : (k n : ℕ) (s : Set) → k < n → s k ≡ true → count k s < count n s
count_lt k n s h e = omega (arith, count_yes k s e, count_mono (suc k) n s h)

-- Two members with the same count are one.
pub count_injective : (j k : ℕ) (s : Set) → s j ≡ true → s k ≡ true → count j s ≡ count k s → j ≡ k
count_injective j k s p q e =
    elim (dec_lt j k) [
      | yes h ↦ absurd (omega (arith, count_lt j k s h p))
      | no h ↦ elim (dec_lt k j) [ yes g ↦ absurd (omega (arith, count_lt k j s g q)) | no g ↦ omega (arith, h, g) ]
    ]

pub count_same : (n : ℕ) (s t : Set) → ((k : ℕ) → k < n → s k ≡ t k) → count n s ≡ count n t
unfolding count
count_same zero s t f = refl
count_same (suc n) s t f =
    let e = f n (omega arith) in
    let earlier = count_same n s t (λ k h. f k (omega arith)) in
    elim (count_cases n t) [
      | inl w ↦ count_yes n s (e ∙ w.0) ∙ ap suc earlier ∙ sym w.1
      | inr w ↦ count_no n s (e ∙ w.0) ∙ earlier ∙ sym w.1
    ]

-- A set without one of its members counts one less.
pub without_other : (s : Set) (k j : ℕ) → (k ≡ j → ⊥) → difference s (single k) j ≡ s j
unfolding difference single
without_other s k j d = rw (ne_eqb k j d) (and-true (s j))

pub without_self : (s : Set) (k : ℕ) → difference s (single k) k ≡ false
unfolding difference single
without_self s k = rw (eq-eqb k k refl) (and-false (s k))

pub count_without : (n : ℕ) (s : Set) (k : ℕ) → k < n → s k ≡ true → suc (count n (difference s (single k))) ≡ count n s
count_without zero s k h p = absurd (omega arith)
count_without (suc n) s k h p =
    let t : Set = difference s (single k) in
    elim (ℕ_discrete k n) [
      | yes e ↦ ap suc (count_no n t (ap t (sym e) ∙ without_self s k) ∙ count_same n t s (λ j g. without_other s k j (omega arith)))
          ∙ sym (count_yes n s (ap s (sym e) ∙ p))
      | no d ↦ elim (count_cases n s) [
        | inl w ↦ omega (arith, count_yes n t (without_other s k n d ∙ w.0), w.1, count_without n s k (omega (arith, d)) p)
        | inr w ↦ omega (arith, count_no n t (without_other s k n d ∙ w.0), w.1, count_without n s k (omega (arith, d)) p)
      ]
    ]

-- Where a stretch has no member nothing is added.
pub count_none : (m n : ℕ) (s : Set) → m ≤ n → ((k : ℕ) → m ≤ k → k < n → s k ≡ false) → count n s ≡ count m s
count_none m zero s h f = ap (λ (x : ℕ). count x s) (omega arith)
count_none m (suc n) s h f =
    elim (ℕ_discrete m (suc n)) [
      | yes e ↦ ap (λ (x : ℕ). count x s) (sym e)
      | no d ↦ count_no n s (f n (omega (arith, d)) (omega arith)) ∙ count_none m n s (omega (arith, d)) (λ k p q. f k p (omega arith))
    ]

-- The count of a stretch is that of the set moved to its start.
pub count_add : (m n : ℕ) (s : Set) → count (m + n) s ≡ count m s + count n (λ k. s (m + k))
unfolding count
count_add m zero s = rw (add-zero m, add-zero (count m s))
count_add m (suc n) s =
    rw (add-suc m n)
    (elim (count_cases (m + n) s) [
      | inl w ↦ omega (arith, w.1, count_yes n (λ k. s (m + k)) w.0, count_add m n s)
      | inr w ↦ omega (arith, w.1, count_no n (λ k. s (m + k)) w.0, count_add m n s)
    ])

-- The member that m members come before.
pub record Member (s : Set) (n m : ℕ) : Type 0 where
  pub at : ℕ
  pub below : at < n
  pub member : s at ≡ true
  pub place : count at s ≡ m

pub select : (n : ℕ) (s : Set) (m : ℕ) → m < count n s → Member s n m
unfolding count
select zero s m h = absurd (omega arith)
select (suc n) s m h = go (s n) refl (ℕ_discrete (count n s) m) (select n s m)
  where
    wider : Member s n m → Member s (suc n) m
    wider w = record { at = w.at; below = omega (arith, w.below); member = w.member; place = w.place }

    go : (b : Bool) → s n ≡ b → Dec (count n s ≡ m) → (m < count n s → Member s n m) → Member s (suc n) m
    go true e (yes p) earlier = record { at = n; below = omega arith; member = e; place = p }
    go true e (no d) earlier = wider (earlier (omega (arith, count_yes n s e, d)))
    go false e _ earlier = wider (earlier (omega (arith, count_no n s e)))

-- Members that have each a number of their own below m are at most m.
module _ (n m : ℕ) (s : Set) (R : ℕ → ℕ → Type 0)
    (to : (k : ℕ) → k < n → s k ≡ true → (x : ℕ) × (x < m) × R k x)
    (once : (j k x : ℕ) → R j x → R k x → j ≡ k) where
  -- The number of the member that i members come before, where i is at most m.
  pick : m < count n s → (i : ℕ) → Dec (i ≤ m) → ℕ
  pick h i (yes g) = (let w = select n s i (omega arith) in (to w.at w.below w.member).0)
  pick h i (no g) = 0

  picked : (h : m < count n s) (i : ℕ) (d : Dec (i ≤ m)) → i ≤ m → (k : ℕ) × R k (pick h i d) × (count k s ≡ i) × (pick h i d < m)
  unfolding pick
  picked h i (yes g) _ =
      let w = select n s i (omega arith) in
      let x = to w.at w.below w.member in
      (w.at, x.2, w.place, x.1)
  picked h i (no g) q = absurd (g q)

  pub count_inject : count n s ≤ m
  count_inject =
      elim (dec_lt m (count n s)) [
        | no h ↦ omega (arith, h)
        | yes h ↦ absurd (none h (pigeonhole m (λ i. pick h i (dec_le i m)) (λ i g. (picked h i (dec_le i m) g).3)))
      ]
    where
      none : (h : m < count n s) → Twice (λ i. pick h i (dec_le i m)) m → ⊥
      none h w =
          let a = picked h w.first (dec_le w.first m) (omega (arith, w.before, w.within)) in
          let b = picked h w.second (dec_le w.second m) w.within in
          let e = once a.0 b.0 _ (subst (R a.0) w.same a.1) b.1 in
          let p : w.first ≡ w.second = sym a.2 ∙ ap (λ (k : ℕ). count k s) e ∙ b.2 in
          omega (arith, w.before)

-- Each member twice.
pub count_double : (n : ℕ) (s : Set) → count (2 * n) (λ k. s (k / 2)) ≡ 2 * count n s
unfolding count
count_double zero s = refl
count_double (suc n) s =
    let t : Set = λ k. s (k / 2) in
    let two-more : 2 * suc n ≡ suc (suc (2 * n)) = omega arith in
    let odd : suc (2 * n) / 2 ≡ n = omega arith in
    let even : 2 * n / 2 ≡ n = omega arith in
    ap (λ (m : ℕ). count m t) two-more
    ∙ elim (count_cases n s) [
      | inl w ↦ omega (arith, count_yes (suc (2 * n)) t (ap s odd ∙ w.0), count_yes (2 * n) t (ap s even ∙ w.0), w.1, count_double n s)
      | inr w ↦ omega (arith, count_no (suc (2 * n)) t (ap s odd ∙ w.0), count_no (2 * n) t (ap s even ∙ w.0), w.1, count_double n s)
    ]

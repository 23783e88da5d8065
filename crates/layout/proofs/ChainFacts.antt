-- Facts of chains on which nothing is met twice: each stays within the limit, ends, and shares nothing with another.
use mathlib.Core.Path.{◌≡◌, refl, sym, ap, subst, ◌∙◌}
use mathlib.Core.Bool.{Bool, true, false, not, ◌&&◌, ◌||◌, false≢true, or_assoc}
use mathlib.Core.List.{List, [], ◌∷◌, ◌++◌}
use mathlib.Core.Logic.{◌⊎◌, inl, inr}
use Prim.Native.Nat.{ℕ, zero, suc, ◌-◌, ◌<◌, ◌≤◌}
use native.Mathlib.Omega.{arith}
use native.Mathlib.Decide.{ℕ_discrete, dec_lt}
use borrow.Author.Tests.{eq-eqb, eqb-true, leb-true, not-true}
use lib.Dec.{eqb, leb}
use lib.ListN.{length, get_or}
use Rattle.relation.proofs.Truth.{and_left, and_right, or_left, or_right, or_either, or_none}
use Rattle.relation.proofs.Pigeonhole.{Twice, pigeonhole}
use Rattle.layout.specs.Chains.{among, follow, chain, met, fresh, pushed}
use Rattle.layout.proofs.ChainLaws.{follow_end, follow_in, follow_over, fresh_behind, among_pushed}

-- Membership.
pub among_here : (x y : ℕ) (l : List ℕ) → x ≡ y → among x (y ∷ l) ≡ true
unfolding among
among_here x y l e = or_left (eqb x y) (among x l) (eq-eqb x y e)

pub among_there : (x y : ℕ) (l : List ℕ) → among x l ≡ true → among x (y ∷ l) ≡ true
unfolding among
among_there x y l e = or_right (eqb x y) (among x l) e

pub among_cases : (x y : ℕ) (l : List ℕ) → among x (y ∷ l) ≡ true → (x ≡ y) ⊎ (among x l ≡ true)
unfolding among
among_cases x y l e = elim (or_either (eqb x y) (among x l) e) [ inl p ↦ inl (eqb-true x y p) | inr p ↦ inr p ]

pub among_append : (x : ℕ) (k l : List ℕ) → among x (k ++ l) ≡ among x k || among x l
unfolding among
among_append x [] l = refl
among_append x (y ∷ k) l = ap (λ (b : Bool). eqb x y || b) (among_append x k l) ∙ sym (or_assoc (eqb x y) (among x k) (among x l))

pub among_at : (l : List ℕ) (i : ℕ) → i < length l → among (get_or l i 0) l ≡ true
among_at [] i h = absurd (omega arith)
among_at (x ∷ l) zero h = among_here x x l refl
among_at (x ∷ l) (suc i) h = among_there (get_or l i 0) x l (among_at l i (omega arith))

-- A list on which nothing is met twice or was met before.
pub record Fresh (limit : ℕ) (seen : List ℕ) (x : ℕ) (l : List ℕ) : Type 0 where
  pub within : x ≤ limit
  pub new : among x seen ≡ false
  pub rest : fresh limit (x ∷ seen) l ≡ true

pub fresh_cons : (limit : ℕ) (seen : List ℕ) (x : ℕ) (l : List ℕ) → fresh limit seen (x ∷ l) ≡ true → Fresh limit seen x l
unfolding fresh
fresh_cons limit seen x l e =
    let here = leb x limit && not (among x seen) in
    let p = and_left here (fresh limit (x ∷ seen) l) e in
    record {
      within = leb-true x limit (and_left (leb x limit) (not (among x seen)) p);
      new = not-true (among x seen) (and_right (leb x limit) (not (among x seen)) p);
      rest = and_right here (fresh limit (x ∷ seen) l) e;
    }

pub fresh_within : (limit : ℕ) (seen l : List ℕ) (x : ℕ) → fresh limit seen l ≡ true → among x l ≡ true → x ≤ limit
unfolding among
fresh_within limit seen [] x e m = absurd (false≢true m)
fresh_within limit seen (y ∷ l) x e m =
    let w = fresh_cons limit seen y l e in
    elim (among_cases x y l m) [ inl p ↦ omega (arith, p, w.within) | inr p ↦ fresh_within limit (y ∷ seen) l x w.rest p ]

pub fresh_new : (limit : ℕ) (seen l : List ℕ) (x : ℕ) → fresh limit seen l ≡ true → among x l ≡ true → among x seen ≡ false
unfolding among
fresh_new limit seen [] x e m = absurd (false≢true m)
fresh_new limit seen (y ∷ l) x e m =
    let w = fresh_cons limit seen y l e in
    elim (among_cases x y l m) [
      | inl p ↦ ap (λ (z : ℕ). among z seen) p ∙ w.new
      | inr p ↦ (or_none (eqb x y) (among x seen) (fresh_new limit (y ∷ seen) l x w.rest p)).1
    ]

fresh_apart : (limit : ℕ) (seen l : List ℕ) → fresh limit seen l ≡ true → (i j : ℕ) → i < j → j < length l → get_or l i 0 ≡ get_or l j 0 → ⊥
unfolding among
fresh_apart limit seen [] e i j h g p = absurd (omega arith)
fresh_apart limit seen (x ∷ l) e i zero h g p = omega arith
fresh_apart limit seen (x ∷ l) e zero (suc j) h g p =
    let w = fresh_cons limit seen x l e in
    let m : among x l ≡ true = subst (λ (z : ℕ). among z l ≡ true) (sym p) (among_at l j (omega arith)) in
    false≢true (sym (fresh_new limit (x ∷ seen) l x w.rest m) ∙ among_here x x seen refl)
fresh_apart limit seen (x ∷ l) e (suc i) (suc j) h g p = fresh_apart limit (x ∷ seen) l (fresh_cons limit seen x l e).rest i j (omega arith) (omega arith) p

-- It has at most as many numbers as the limit, if 0 is none of them.
pub fresh_length : (limit : ℕ) (seen l : List ℕ) → fresh limit seen l ≡ true → ((x : ℕ) → among x l ≡ true → 1 ≤ x) → length l ≤ limit
fresh_length limit seen l e low =
    elim (dec_lt limit (length l)) [
      | no h ↦ omega (arith, h)
      | yes h ↦ absurd (none h (pigeonhole limit (λ i. get_or l i 0 - 1) (λ i g. smaller i (omega arith))))
    ]
  where
    bounds : (i : ℕ) → i < length l → (1 ≤ get_or l i 0) × (get_or l i 0 ≤ limit)
    bounds i g = (let m = among_at l i g in (low (get_or l i 0) m, fresh_within limit seen l (get_or l i 0) e m))

    smaller : (i : ℕ) → i < length l → get_or l i 0 - 1 < limit
    smaller i g = (let b = bounds i g in omega (arith, b))

    none : limit < length l → Twice (λ i. get_or l i 0 - 1) limit → ⊥
    none h w =
        let a = bounds w.first (omega (arith, w.before, w.within)) in
        let b = bounds w.second (omega (arith, w.within)) in
        fresh_apart limit seen l e w.first w.second w.before (omega (arith, w.within)) (omega (arith, a, b, w.same))

-- A chain that ends: numbers from x on, each within the limit and followed by the next, the last by 0.
pub data Ended (limit : ℕ) (next : ℕ → ℕ) : ℕ → List ℕ → Type 0 where
  end : Ended limit next 0 []
  step : {x : ℕ} {l : List ℕ} → 1 ≤ x → x ≤ limit → Ended limit next (next x) l → Ended limit next x (x ∷ l)

module _ (limit : ℕ) (next : ℕ → ℕ) where
  pub follow_positive : (n y x : ℕ) → among x (follow limit next n y) ≡ true → 1 ≤ x
  unfolding among follow
  follow_positive zero y x m = absurd (false≢true m)
  follow_positive (suc n) y x m =
      elim (ℕ_discrete y 0) [
        | yes e ↦ absurd (false≢true (subst (λ (l : List ℕ). among x l ≡ true) (ap (follow limit next (suc n)) e ∙ follow_end limit next (suc n)) m))
        | no d ↦ elim (dec_lt limit y) [
          | yes h ↦ elim (among_cases x y [] (subst (λ (l : List ℕ). among x l ≡ true) (follow_over limit next n y d h) m)) [
            | inl p ↦ omega (arith, p, d)
            | inr p ↦ absurd (false≢true p)
          ]
          | no h ↦ elim (among_cases x y (follow limit next n (next y)) (subst (λ (l : List ℕ). among x l ≡ true) (follow_in limit next n y d (omega (arith, h))) m)) [
            | inl p ↦ omega (arith, p, d)
            | inr p ↦ follow_positive n (next y) x p
          ]
        ]
      ]

  -- A walk that stays within the limit and stops before its bound has met the end.
  pub walk_ended : (n x : ℕ) → ((y : ℕ) → among y (follow limit next n x) ≡ true → y ≤ limit) → length (follow limit next n x) < n
      → Ended limit next x (follow limit next n x)
  walk_ended zero x within short = absurd (omega arith)
  walk_ended (suc n) x within short =
      elim (ℕ_discrete x 0) [
        | yes e ↦ subst (λ (y : ℕ). Ended limit next y (follow limit next (suc n) y)) (sym e)
            (subst (Ended limit next 0) (sym (follow_end limit next (suc n))) end)
        | no d ↦ elim (dec_lt limit x) [
          | yes h ↦ absurd (let l = within x (subst (λ (l : List ℕ). among x l ≡ true) (sym (follow_over limit next n x d h)) (among_here x x [] refl)) in omega arith)
          | no h ↦ (let e = follow_in limit next n x d (omega (arith, h)) in
              subst (Ended limit next x) (sym e)
              (step (omega (arith, d)) (omega (arith, h))
              (walk_ended n (next x) (λ y m. within y (subst (λ (l : List ℕ). among y l ≡ true) (sym e) (among_there y x _ m)))
              (omega (arith, ap length e)))))
        ]
      ]

  -- And one that ends is what a walk meets that is long enough.
  pub ended_walk : (n : ℕ) {x : ℕ} {l : List ℕ} → Ended limit next x l → length l < n → follow limit next n x ≡ l
  ended_walk zero w h = absurd (omega arith)
  ended_walk (suc n) end h = follow_end limit next (suc n)
  ended_walk (suc n) (step {x = x} p q w) h =
      follow_in limit next n x (λ e. omega arith) q ∙ ap (◌∷◌ x) (ended_walk n w (omega arith))

  pub ended_positive : (y : ℕ) {x : ℕ} {l : List ℕ} → Ended limit next x l → among y l ≡ true → 1 ≤ y
  unfolding among
  ended_positive y end m = absurd (false≢true m)
  ended_positive y (step {x = x} {l = l} p q w) m = elim (among_cases y x l m) [ inl e ↦ omega (arith, e, p) | inr k ↦ ended_positive y w k ]

  -- The number at a place of the chain.
  pub ended_at : (k : ℕ) {x : ℕ} {l : List ℕ} → Ended limit next x l → k < length l → (1 ≤ get_or l k 0) × (get_or l k 0 ≤ limit)
  ended_at k end h = absurd (omega arith)
  ended_at zero (step p q w) h = (p, q)
  ended_at (suc k) (step p q w) h = ended_at k w (omega arith)

  -- A chain from 0 is empty; one from another number goes on from what follows it.
  pub ended_end : {x : ℕ} {k : List ℕ} → Ended limit next x k → x ≡ 0 → k ≡ []
  ended_end end e = refl
  ended_end (step p q w) e = absurd (omega arith)

  pub ended_after : (a : ℕ) {k : List ℕ} → Ended limit next a k → 1 ≤ a → (l : List ℕ) × Ended limit next (next a) l × (k ≡ a ∷ l) × (a ≤ limit)
  ended_after a end h = absurd (omega arith)
  ended_after a (step {l = l} p q w) h = (l, w, refl, q)

  -- The start of a chain is 0 or on the chain.
  pub ended_first : {x : ℕ} {k : List ℕ} → Ended limit next x k → (x ≡ 0) ⊎ (among x k ≡ true)
  ended_first end = inl refl
  ended_first (step {x = x} {l = l} p q w) = inr (among_here x x l refl)

  pub ended_start : {x : ℕ} {l : List ℕ} → Ended limit next x l → x ≤ limit
  ended_start end = omega arith
  ended_start (step a b v) = b

  -- What follows a number of the chain is 0 or on the chain.
  pub ended_next : (y : ℕ) {x : ℕ} {l : List ℕ} → Ended limit next x l → among y l ≡ true → next y ≤ limit
  unfolding among
  ended_next y end m = absurd (false≢true m)
  ended_next y (step {x = x} {l = l} p q w) m =
      elim (among_cases y x l m) [ inl e ↦ subst (λ (z : ℕ). next z ≤ limit) (sym e) (ended_start w) | inr k ↦ ended_next y w k ]

-- Chains from several starts, on which together nothing is met twice.
module _ (limit : ℕ) (next start : ℕ → ℕ) where
  pub chain_fresh : (n j : ℕ) → j < n → fresh limit [] (met limit next start n) ≡ true → (seen : List ℕ) × (fresh limit seen (chain limit next (start j)) ≡ true)
  chain_fresh n j h e = (pushed (met limit next start j) [], fresh_behind limit next start n j h e)

  -- Each chain ends.
  pub chain_ended : (n j : ℕ) → j < n → fresh limit [] (met limit next start n) ≡ true → Ended limit next (start j) (chain limit next (start j))
  chain_ended n j h e =
      let w = chain_fresh n j h e in
      let l = chain limit next (start j) in
      let most = fresh_length limit w.0 l w.1 (λ x m. follow_positive limit next (suc limit) (start j) x m) in
      walk_ended limit next (suc limit) (start j) (λ y m. fresh_within limit w.0 l y w.1 m) (omega arith)

  pub met_cases : (n x : ℕ) → among x (met limit next start n) ≡ true → (j : ℕ) × (j < n) × (among x (chain limit next (start j)) ≡ true)
  unfolding met among
  met_cases zero x m = absurd (false≢true m)
  met_cases (suc n) x m =
      let before = met limit next start n in
      let here = chain limit next (start n) in
      elim (or_either (among x before) (among x here) (sym (among_append x before here) ∙ m)) [
        | inl p ↦ (let w = met_cases n x p in (w.0, omega (arith, w.1), w.2))
        | inr p ↦ (n, omega arith, p)
      ]

  pub met_at : (n j x : ℕ) → j < n → among x (chain limit next (start j)) ≡ true → among x (met limit next start n) ≡ true
  unfolding met
  met_at zero j x h m = absurd (omega arith)
  met_at (suc n) j x h m =
      let before = met limit next start n in
      let here = chain limit next (start n) in
      among_append x before here
      ∙ elim (ℕ_discrete j n) [
        | yes p ↦ or_right (among x before) (among x here) (subst (λ (k : ℕ). among x (chain limit next (start k)) ≡ true) p m)
        | no d ↦ or_left (among x before) (among x here) (met_at n j x (omega (arith, d)) m)
      ]

  -- No number is on two chains.
  later_apart : (n i j x : ℕ) → i < j → j < n → fresh limit [] (met limit next start n) ≡ true → among x (chain limit next (start i)) ≡ true
      → among x (chain limit next (start j)) ≡ true → ⊥
  later_apart n i j x h g e p q =
      let before = met limit next start j in
      let new = fresh_new limit (pushed before []) (chain limit next (start j)) x (fresh_behind limit next start n j g e) q in
      false≢true (sym new ∙ among_pushed x before [] ∙ or_left (among x before) (among x []) (met_at j i x h p))

  pub one_chain : (n i j x : ℕ) → i < n → j < n → fresh limit [] (met limit next start n) ≡ true → among x (chain limit next (start i)) ≡ true
      → among x (chain limit next (start j)) ≡ true → i ≡ j
  one_chain n i j x h g e p q =
      elim (dec_lt i j) [
        | yes l ↦ absurd (later_apart n i j x l g e p q)
        | no l ↦ elim (dec_lt j i) [ yes k ↦ absurd (later_apart n j i x k h e q p) | no k ↦ omega (arith, l, k) ]
      ]

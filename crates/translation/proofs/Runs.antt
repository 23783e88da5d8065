-- Runs of numbers, and the chains that follow them: each number is followed by the next, and the last by 0.
use mathlib.Core.Path.{◌≡◌, refl, sym, ap, ◌∙◌}
use mathlib.Core.Bool.{Bool, true, false, not, ◌||◌, false≢true}
use mathlib.Core.List.{List, [], ◌∷◌, ◌++◌}
use mathlib.Core.Logic.{inl, inr}
use Prim.Native.Nat.{ℕ, zero, suc, ◌+◌, ◌<◌, ◌≤◌}
use native.Mathlib.Omega.{arith}
use native.Mathlib.Nat.{add-zero}
use native.Mathlib.Decide.{ℕ_discrete}
use borrow.Author.Tests.{eq-eqb, ne_eqb, le-leb, lt-ltb, le-ltb}
use lib.Dec.{eqb}
use Rattle.relation.specs.Rel.{Set, some}
use Rattle.relation.proofs.Truth.{and_both, or_left, or_right, or_either}
use Rattle.layout.specs.Chains.{among, follow, fresh, each, all_met, once_each, all_of}
use Rattle.translation.specs.Encode.{chained}

-- The d numbers after lo.
unfoldable pub run : ℕ → ℕ → List ℕ
run lo zero = []
run lo (suc d) = suc lo ∷ run (suc lo) d

pub run_append : (lo d e : ℕ) → run lo (d + e) ≡ run lo d ++ run (lo + d) e
unfolding run
run_append lo zero e = ap (run lo) (zero_add e) ∙ ap (λ (x : ℕ). run x e) (sym (add-zero lo))
  where
    zero_add : (n : ℕ) → 0 + n ≡ n
    zero_add n = omega arith
run_append lo (suc d) e =
    ap (run lo) (suc_add d e) ∙ ap (◌∷◌ (suc lo)) (run_append (suc lo) d e)
    ∙ ap (λ (x : ℕ). suc lo ∷ (run (suc lo) d ++ run x e)) (sym (add_suc_swap lo d))
  where
    suc_add : (m n : ℕ) → suc m + n ≡ suc (m + n)
    suc_add m n = omega arith

    add_suc_swap : (m n : ℕ) → m + suc n ≡ suc m + n
    add_suc_swap m n = omega arith

-- Its members.
pub run_some : (lo d : ℕ) (s : Set) (m : ℕ) → lo < m → m ≤ lo + d → s m ≡ true → some (run lo d) s ≡ true
unfolding run some
run_some lo zero s m h g e = absurd (omega arith)
run_some lo (suc d) s m h g e =
    elim (ℕ_discrete m (suc lo)) [
      | yes p ↦ or_left (s (suc lo)) (some (run (suc lo) d) s) (ap s (sym p) ∙ e)
      | no p ↦ or_right (s (suc lo)) (some (run (suc lo) d) s) (run_some (suc lo) d s m (omega (arith, p)) (omega arith) e)
    ]

pub run_member : (lo d : ℕ) (s : Set) → some (run lo d) s ≡ true → (m : ℕ) × (lo < m) × (m ≤ lo + d) × (s m ≡ true)
unfolding run some
run_member lo zero s p = absurd (false≢true p)
run_member lo (suc d) s p =
    elim (or_either (s (suc lo)) (some (run (suc lo) d) s) p) [
      | inl e ↦ (suc lo, omega arith, omega arith, e)
      | inr e ↦ let w = run_member (suc lo) d s e in (w.0, omega (arith, w.1), omega (arith, w.2), w.3)
    ]

-- `among` is `some`.
pub among_some : (x : ℕ) (l : List ℕ) → among x l ≡ some l (eqb x)
unfolding among some
among_some x [] = refl
among_some x (y ∷ l) = ap (λ (b : Bool). eqb x y || b) (among_some x l)

-- Each number of a run is met once.
run_fresh : (limit lo d : ℕ) (seen : List ℕ) → lo + d ≤ limit → ((x : ℕ) → lo < x → among x seen ≡ false) → fresh limit seen (run lo d) ≡ true
unfolding run fresh among
run_fresh limit lo zero seen h f = refl
run_fresh limit lo (suc d) seen h f =
    let rest = run_fresh limit (suc lo) d (suc lo ∷ seen) (omega arith) later in
    let new = ap not (f (suc lo) (omega arith)) in
    let within : suc lo ≤ limit = omega arith in
    search (and_both, le-leb)
  where
    later : (x : ℕ) → suc lo < x → among x (suc lo ∷ seen) ≡ false
    later x g = ap (λ (b : Bool). b || among x seen) (ne_eqb x (suc lo) (λ e. omega arith)) ∙ f x (omega arith)

all_met_lem : (n m : ℕ) → n ≤ m → all_met n (run 0 m) ≡ true
unfolding each
all_met_lem zero m h = refl
all_met_lem (suc n) m h =
    and_both (all_met n (run 0 m)) (among (suc n) (run 0 m)) (all_met_lem n m (omega arith))
    (among_some (suc n) (run 0 m) ∙ run_some 0 m (eqb (suc n)) (suc n) (omega arith) (omega arith) (eq-eqb (suc n) (suc n) refl))

pub run_once : (m : ℕ) → once_each m (run 0 m) ≡ true
unfolding once_each among
run_once m = and_both (fresh m [] (run 0 m)) (all_met m (run 0 m)) (run_fresh m 0 m [] (omega arith) none) (all_met_lem m m (omega arith))
  where
    none : (x : ℕ) → 0 < x → among x [] ≡ false
    none x h = refl

pub chained_on : (last n : ℕ) → n < last → chained last n ≡ suc n
unfolding chained
chained_on last n h = rw (lt-ltb n last h, chained)

pub chained_end : (last n : ℕ) → last ≤ n → chained last n ≡ 0
unfolding chained
chained_end last n h = rw (le-ltb n last h, chained)

-- The chain from the first number after lo, where each up to lo + d is followed by the next and the last by 0.
pub follow_run : (limit : ℕ) (next : ℕ → ℕ) (last lo d fuel : ℕ) → lo + d ≡ last → last ≤ limit → d < fuel
    → ((m : ℕ) → lo < m → m ≤ last → next m ≡ chained last m) → follow limit next fuel (chained last lo) ≡ run lo d
unfolding follow run
follow_run limit next last lo d zero p h g f = absurd (omega arith)
follow_run limit next last lo zero (suc fuel) p h g f = rw (chained_end last lo (omega arith))
follow_run limit next last lo (suc d) (suc fuel) p h g f =
    rw (chained_on last lo (omega arith))
    (rw (ne_eqb (suc lo) 0 (λ e. omega arith), follow)
    (rw (le-leb (suc lo) limit (omega arith))
    (ap (◌∷◌ (suc lo)) (ap (follow limit next fuel) (f (suc lo) (omega arith) (omega arith))
    ∙ follow_run limit next last (suc lo) d fuel (omega arith) h (omega arith) (λ m a b. f m (omega arith) b)))))

-- A test that holds of each number of a run.
pub run_all : (lo d : ℕ) (p : ℕ → Bool) → ((m : ℕ) → lo < m → m ≤ lo + d → p m ≡ true) → all_of (run lo d) p ≡ true
unfolding run all_of
run_all lo zero p f = refl
run_all lo (suc d) p f =
    and_both (p (suc lo)) (all_of (run (suc lo) d) p) (f (suc lo) (omega arith) (omega arith)) (run_all (suc lo) d p (λ m h g. f m (omega arith) (omega arith)))

-- Laws of the first test that passes, of tests with their numbers.
use mathlib.Core.Path.{◌≡◌, refl, sym, ap, ◌∙◌}
use mathlib.Core.Bool.{Bool, true, false, not, ◌&&◌, ◌||◌, false≢true}
use mathlib.Core.List.{List, [], ◌∷◌, ◌++◌}
use Prim.Native.Nat.{ℕ, zero, suc}
use native.Mathlib.Omega.{arith}
use native.Mathlib.Decide.{ℕ_discrete}
use borrow.Author.Tests.{eq-eqb, ne_eqb}
use lib.Dec.{eqb}
use lib.ListN.{take}
use Rattle.relation.proofs.Truth.{and_left, and_right, or_left, or_right}
use Rattle.models.specs.Rules.{Numbered, first}

-- The test of that number, and false where none has it.
unfoldable pub test_of : List Numbered → ℕ → Bool
test_of [] k = false
test_of ((n, b) ∷ ts) k = elim (eqb n k) [ true ↦ b | false ↦ test_of ts k ]

-- The test at place k, with its number.
unfoldable pub at : List Numbered → ℕ → Numbered
at [] k = (0, false)
at (t ∷ ts) zero = t
at (t ∷ ts) (suc k) = at ts k

-- No number is 0; no number stands twice. Of a list whose numbers are written out both compute.
unfoldable pub positive : List Numbered → Bool
positive [] = true
positive ((zero, b) ∷ ts) = false
positive ((suc n, b) ∷ ts) = positive ts

unfoldable pub named : List Numbered → ℕ → Bool
named [] k = false
named ((n, b) ∷ ts) k = eqb n k || named ts k

unfoldable pub distinct : List Numbered → Bool
distinct [] = true
distinct ((n, b) ∷ ts) = not (named ts n) && distinct ts

-- No test passes.
unfoldable pub NonePass : List Numbered → Type 0
NonePass [] = Unit {0}
NonePass ((n, b) ∷ ts) = (b ≡ false) × NonePass ts

pub none_first : (ts : List Numbered) → NonePass ts → first ts ≡ 0
unfolding NonePass first
none_first [] p = refl
none_first ((n, true) ∷ ts) p = absurd (false≢true (sym p.0))
none_first ((n, false) ∷ ts) p = none_first ts p.1

-- Where the first number is 0, no test passes.
pub first_fails : (ts : List Numbered) → positive ts ≡ true → first ts ≡ 0 → (k : ℕ) → test_of ts k ≡ false
unfolding first positive test_of
first_fails [] p e k = refl
first_fails ((zero, b) ∷ ts) p e k = absurd (false≢true p)
first_fails ((suc n, true) ∷ ts) p e k = absurd (omega (arith, e))
first_fails ((suc n, false) ∷ ts) p e k = here (eqb (suc n) k) (test_of ts k) (first_fails ts p e k)
  where
    here : (b t : Bool) → t ≡ false → ◌≡◌ {A = Bool} (elim b as (λ _. Bool) [ true ↦ false | false ↦ t ]) false
    here true t q = refl
    here false t q = q

-- Where it is another, it is the number of a test, which passes.
first_named : (ts : List Numbered) (k : ℕ) → first ts ≡ suc k → named ts (suc k) ≡ true
unfolding first named
first_named [] k e = absurd (omega (arith, e))
first_named ((n, true) ∷ ts) k e = or_left (eqb n (suc k)) (named ts (suc k)) (eq-eqb n (suc k) e)
first_named ((n, false) ∷ ts) k e = or_right (eqb n (suc k)) (named ts (suc k)) (first_named ts k e)

pub first_passes : (ts : List Numbered) (k : ℕ) → distinct ts ≡ true → first ts ≡ suc k → test_of ts (suc k) ≡ true
unfolding first test_of distinct
first_passes [] k d e = absurd (omega (arith, e))
first_passes ((n, true) ∷ ts) k d e = rw (eq-eqb n (suc k) e, test_of)
first_passes ((n, false) ∷ ts) k d e =
    elim (ℕ_discrete n (suc k)) [
      | yes q ↦ absurd (false≢true (sym (ap not (ap (named ts) q ∙ first_named ts k e)) ∙ and_left (not (named ts n)) (distinct ts) d))
      | no q ↦ rw (ne_eqb n (suc k) q, test_of) (first_passes ts k (and_right (not (named ts n)) (distinct ts) d) e)
    ]

-- The first of two lists, one behind the other: that of the one where it is not 0, else that of the other.
pub first_stops : (ts us : List Numbered) (n : ℕ) → n ≡ first ts → (n ≡ 0 → ⊥) → n ≡ first (ts ++ us)
unfolding first
first_stops [] us n e d = absurd (d e)
first_stops ((k, true) ∷ ts) us n e d = e
first_stops ((k, false) ∷ ts) us n e d = first_stops ts us n e d

pub first_goes_on : (ts us : List Numbered) → positive ts ≡ true → first ts ≡ 0 → first (ts ++ us) ≡ first us
unfolding first positive
first_goes_on [] us p e = refl
first_goes_on ((zero, b) ∷ ts) us p e = absurd (false≢true p)
first_goes_on ((suc k, true) ∷ ts) us p e = absurd (omega (arith, e))
first_goes_on ((suc k, false) ∷ ts) us p e = first_goes_on ts us p e

pub first_front : (ts us : List Numbered) → first (ts ++ us) ≡ 0 → first ts ≡ 0
first_front ts us e =
    elim (ℕ_discrete (first ts) 0) [ yes q ↦ q | no q ↦ first_stops ts us (first ts) refl q ∙ e ]

-- The tests before place k fail: the one at k is the first that passes, or fails too.
pub first_at : (k : ℕ) (ts : List Numbered) → positive ts ≡ true → first (take k ts) ≡ 0 → (at ts k).1 ≡ true → first ts ≡ (at ts k).0
unfolding first positive at
first_at k [] p h q = absurd (false≢true q)
first_at k ((zero, b) ∷ ts) p h q = absurd (false≢true p)
first_at zero ((suc n, true) ∷ ts) p h q = refl
first_at zero ((suc n, false) ∷ ts) p h q = absurd (false≢true q)
first_at (suc k) ((suc n, true) ∷ ts) p h q = absurd (omega (arith, h))
first_at (suc k) ((suc n, false) ∷ ts) p h q = first_at k ts p h q

pub none_more : (k : ℕ) (ts : List Numbered) → positive ts ≡ true → first (take k ts) ≡ 0 → (at ts k).1 ≡ false → first (take (suc k) ts) ≡ 0
unfolding first positive at
none_more k [] p h q = refl
none_more k ((zero, b) ∷ ts) p h q = absurd (false≢true p)
none_more zero ((suc n, true) ∷ ts) p h q = absurd (false≢true (sym q))
none_more zero ((suc n, false) ∷ ts) p h q = refl
none_more (suc k) ((suc n, true) ∷ ts) p h q = absurd (omega (arith, h))
none_more (suc k) ((suc n, false) ∷ ts) p h q = none_more k ts p h q

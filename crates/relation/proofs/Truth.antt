-- Laws of tests: the Boolean operators, and tests that pass, said by an equation and as a type.
use mathlib.Core.Path.{◌≡◌, refl, sym, subst}
use mathlib.Core.Bool.{Bool, true, false, ◌&&◌, ◌||◌, false≢true}
use mathlib.Core.Logic.{◌⊎◌, inl, inr}
use lib.Dec.{T}

pub is_true : (b : Bool) → T b → b ≡ true
is_true true h = refl
is_true false h = absurd h

pub holds : (b : Bool) → b ≡ true → T b
holds b e = subst T (sym e) tt

pub is_false : (b : Bool) → (b ≡ true → ⊥) → b ≡ false
is_false true f = absurd (f refl)
is_false false f = refl

-- A test passes or does not.
pub by_test : (b : Bool) → (b ≡ true) ⊎ (b ≡ false)
by_test true = inl refl
by_test false = inr refl

pub T_cases : (b : Bool) → T b ⊎ ¬ T b
T_cases true = inl tt
T_cases false = inr (λ h. h)

-- Two tests that pass together are equal.
pub same_test : (a b : Bool) → (a ≡ true → b ≡ true) → (b ≡ true → a ≡ true) → a ≡ b
same_test true b f g = sym (f refl)
same_test false true f g = g refl
same_test false false f g = refl

pub T_ext : (a b : Bool) → (T a → T b) → (T b → T a) → a ≡ b
T_ext a b f g = same_test a b (λ e. is_true b (f (holds a e))) (λ e. is_true a (g (holds b e)))

-- Joined tests.
pub and_left : (a b : Bool) → a && b ≡ true → a ≡ true
and_left true b e = refl
and_left false b e = absurd (false≢true e)

pub and_right : (a b : Bool) → a && b ≡ true → b ≡ true
and_right true b e = e
and_right false b e = absurd (false≢true e)

pub and_both : (a b : Bool) → a ≡ true → b ≡ true → a && b ≡ true
and_both true b p q = q
and_both false b p q = p

pub or_either : (a b : Bool) → a || b ≡ true → (a ≡ true) ⊎ (b ≡ true)
or_either true b e = inl refl
or_either false b e = inr e

pub or_left : (a b : Bool) → a ≡ true → a || b ≡ true
or_left true b e = refl
or_left false b e = absurd (false≢true e)

pub or_right : (a b : Bool) → b ≡ true → a || b ≡ true
or_right true b e = refl
or_right false b e = e

pub or_none : (a b : Bool) → a || b ≡ false → (a ≡ false) × (b ≡ false)
or_none true b p = absurd (false≢true (sym p))
or_none false b p = (refl, p)

-- The same of tests as types.
pub T_and : (a b : Bool) → T a → T b → T (a && b)
T_and a b p q = holds (a && b) (and_both a b (is_true a p) (is_true b q))

pub T_and_left : (a b : Bool) → T (a && b) → T a
T_and_left a b p = holds a (and_left a b (is_true (a && b) p))

pub T_and_right : (a b : Bool) → T (a && b) → T b
T_and_right a b p = holds b (and_right a b (is_true (a && b) p))

pub T_or : (a b : Bool) → T (a || b) → T a ⊎ T b
T_or a b p = elim (or_either a b (is_true (a || b) p)) [ inl e ↦ inl (holds a e) | inr e ↦ inr (holds b e) ]

pub T_or_left : (a b : Bool) → T a → T (a || b)
T_or_left a b p = holds (a || b) (or_left a b (is_true a p))

pub T_or_right : (a b : Bool) → T b → T (a || b)
T_or_right a b p = holds (a || b) (or_right a b (is_true b p))

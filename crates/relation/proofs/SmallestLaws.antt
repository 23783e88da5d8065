-- Laws of the smallest member, where there is one, and of "no number is a member".
use mathlib.Core.Path.{◌≡◌, refl, sym, ap, ◌∙◌}
use mathlib.Core.Bool.{Bool, true, false, not, false≢true}
use Rattle.std.specs.Prelude.{Option, Some, None}
use Prim.Native.Nat.{ℕ, ◌<◌, ◌≤◌}
use native.Mathlib.Omega.{arith}
use native.Mathlib.Decide.{dec_lt}
use borrow.Author.Tests.{lt-ltb, le-ltb}
use lib.Dec.{ltb}
use Rattle.relation.specs.Rel.{Set, smallest, least, some, nodes}
use Rattle.relation.proofs.SetLaws.{least_is, least_at, least_none}
use Rattle.relation.proofs.Meaning.{some_least}

-- Where the least number is below 64 it is the smallest member, and otherwise there is none.
pub smallest_below : (s : Set) → least 64 s < 64 → smallest s ≡ Some (least 64 s)
unfolding smallest
smallest_below s h = ap (λ (b : Bool). elim b [ true ↦ Some (least 64 s) | false ↦ None ]) (lt-ltb (least 64 s) 64 h)

pub smallest_above : (s : Set) → 64 ≤ least 64 s → smallest s ≡ None
unfolding smallest
smallest_above s h = ap (λ (b : Bool). elim b [ true ↦ Some (least 64 s) | false ↦ None ]) (le-ltb (least 64 s) 64 h)

abbrev value_of : Option ℕ → ℕ
value_of None = 64
value_of (Some k) = k

abbrev is_some : Option ℕ → Bool
is_some None = false
is_some (Some k) = true

-- The smallest member is the least number.
pub smallest_some : (s : Set) (k : ℕ) → smallest s ≡ Some k → (k ≡ least 64 s) × (k < 64)
smallest_some s k e =
    elim (dec_lt (least 64 s) 64) [
      | yes h ↦ let p : k ≡ least 64 s = sym (ap value_of (sym (smallest_below s h) ∙ e)) in (p, omega arith)
      | no h ↦ absurd (false≢true (ap is_some (sym (smallest_above s (omega (arith, h))) ∙ e)))
    ]

-- Where there is no smallest member the least number is 64.
pub smallest_none : (s : Set) → smallest s ≡ None → least 64 s ≡ 64
smallest_none s e =
    elim (dec_lt (least 64 s) 64) [
      | yes h ↦ absurd (false≢true (ap is_some (sym e ∙ smallest_below s h)))
      | no h ↦ omega (arith, h, (least_is 64 s).bound)
    ]

-- The smallest member is a member, below 64, and no smaller number is one.
pub smallest_member : (s : Set) (k : ℕ) → smallest s ≡ Some k → s k ≡ true
smallest_member s k e = let (p, h) = smallest_some s k e in ap s p ∙ (least_is 64 s).member (omega arith)

pub smallest_before : (s : Set) (k : ℕ) → smallest s ≡ Some k → (m : ℕ) → m < k → s m ≡ false
smallest_before s k e m g = let (p, h) = smallest_some s k e in (least_is 64 s).smaller m (omega arith)

-- Where there is no smallest member no number below 64 is a member.
pub smallest_nothing : (s : Set) → smallest s ≡ None → (m : ℕ) → m < 64 → s m ≡ false
smallest_nothing s e m g = (least_is 64 s).smaller m (omega (arith, smallest_none s e))

-- The smallest member, given by what it is.
pub smallest_at : (s : Set) (k : ℕ) → k < 64 → s k ≡ true → ((m : ℕ) → m < k → s m ≡ false) → smallest s ≡ Some k
smallest_at s k h t f =
    let p : least 64 s ≡ k = least_at 64 s k h t f in
    smallest_below s (omega arith) ∙ ap Some p

pub smallest_not : (s : Set) → ((m : ℕ) → m < 64 → s m ≡ false) → smallest s ≡ None
smallest_not s f = smallest_above s (omega (arith, least_none 64 s f))

-- Whether a set is empty, by its least number.
pub empty_by_least : (s : Set) → least 64 s ≡ 64 → not (some nodes s) ≡ true
empty_by_least s e = ap not (sym (some_least s) ∙ le-ltb (least 64 s) 64 (omega (arith, e)))

pub filled_by_least : (s : Set) → least 64 s < 64 → not (some nodes s) ≡ false
filled_by_least s h = ap not (sym (some_least s) ∙ lt-ltb (least 64 s) 64 h)

pub is_empty_least : (s : Set) → not (some nodes s) ≡ not (ltb (least 64 s) 64)
is_empty_least s = ap not (sym (some_least s))

not_true : (b : Bool) → not b ≡ true → b ≡ false
not_true true e = absurd (false≢true e)
not_true false e = refl

not_false : (b : Bool) → not b ≡ false → b ≡ true
not_false true e = refl
not_false false e = absurd (false≢true (sym e))

pub empty_none : (s : Set) → not (some nodes s) ≡ true → some nodes s ≡ false
empty_none s e = not_true (some nodes s) e

pub empty_some : (s : Set) → not (some nodes s) ≡ false → some nodes s ≡ true
empty_some s e = not_false (some nodes s) e

pub empty_least : (s : Set) → not (some nodes s) ≡ true → least 64 s ≡ 64
empty_least s e =
    elim (dec_lt (least 64 s) 64) [
      | yes h ↦ absurd (false≢true (sym (empty_none s e) ∙ sym (some_least s) ∙ lt-ltb (least 64 s) 64 h))
      | no h ↦ omega (arith, h, (least_is 64 s).bound)
    ]

pub filled_least : (s : Set) → not (some nodes s) ≡ false → least 64 s < 64
filled_least s e =
    elim (dec_lt (least 64 s) 64) [
      | yes h ↦ h
      | no h ↦ absurd (false≢true (sym (le-ltb (least 64 s) 64 (omega (arith, h))) ∙ some_least s ∙ empty_some s e))
    ]

pub empty_nothing : (s : Set) → not (some nodes s) ≡ true → (m : ℕ) → m < 64 → s m ≡ false
empty_nothing s e m g = (least_is 64 s).smaller m (omega (arith, empty_least s e))

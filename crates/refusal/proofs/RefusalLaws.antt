-- Laws of the numbers of refusals: a refusal's number is 1 to 13, and an answer's number is 0 exactly where it is no refusal.
use Rattle.std.proofs.Common.{◌≡◌, refl, ℕ, ◌≤◌, sym, ap, ◌∙◌, arith}
use Rattle.std.specs.Prelude.{Result, Ok, Err, IsErrAnd}
use Rattle.refusal.specs.declared.Refusal.{Refusal}
use Rattle.refusal.specs.declared.Refusal.TheVariants.{TooShort, KindUnknown, OverLimit, WrongLength, BadEvent, BadThreads, BadChains, BadLink, CoRing, Unpaired, OtherSide, NoRoom, LongThread}
use Rattle.refusal.specs.Refusal.{number, number_of}

-- The numbers are 1 to 13.
pub number_positive : (e : Refusal) → 1 ≤ number e
number_positive TooShort = omega arith
number_positive KindUnknown = omega arith
number_positive OverLimit = omega arith
number_positive WrongLength = omega arith
number_positive BadEvent = omega arith
number_positive BadThreads = omega arith
number_positive BadChains = omega arith
number_positive BadLink = omega arith
number_positive CoRing = omega arith
number_positive Unpaired = omega arith
number_positive OtherSide = omega arith
number_positive NoRoom = omega arith
number_positive LongThread = omega arith

pub number_most : (e : Refusal) → number e ≤ 13
number_most TooShort = omega arith
number_most KindUnknown = omega arith
number_most OverLimit = omega arith
number_most WrongLength = omega arith
number_most BadEvent = omega arith
number_most BadThreads = omega arith
number_most BadChains = omega arith
number_most BadLink = omega arith
number_most CoRing = omega arith
number_most Unpaired = omega arith
number_most OtherSide = omega arith
number_most NoRoom = omega arith
number_most LongThread = omega arith

pub number_not_0 : (e : Refusal) → number e ≡ 0 → ⊥
number_not_0 e p = omega (arith, number_positive e)

-- An answer that has the number n, which is that of a cause: no refusal has the number 0, and a refusal that of its cause.
module _ {A : Type 0} {r : Result A Refusal} {n : ℕ} (is : number_of r ≡ n) where
  pub ok_number : {a : A} → r ≡ Ok a → n ≡ 0
  ok_number p = sym is ∙ ap number_of p

  pub err_number : {e : Refusal} → r ≡ Err e → n ≡ number e
  err_number p = sym is ∙ ap number_of p

  pub err_not_0 : {e : Refusal} → r ≡ Err e → n ≡ 0 → ⊥
  err_not_0 {e} p q = number_not_0 e (sym (err_number p) ∙ q)

-- The same where the answer is written out.
pub ok_is_0 : {A : Type 0} (a : A) {n : ℕ} → number_of {A = A} (Ok a) ≡ n → n ≡ 0
ok_is_0 a p = sym p

pub err_is_number : (A : Type 0) (e : Refusal) {n : ℕ} → number_of {A = A} (Err e) ≡ n → n ≡ number e
err_is_number A e p = sym p

pub err_is_not_0 : (A : Type 0) (e : Refusal) {n : ℕ} → number_of {A = A} (Err e) ≡ n → n ≡ 0 → ⊥
err_is_not_0 A e p q = number_not_0 e (p ∙ q)

-- What `?` passes up: the same refusal in an answer of another type.
pub raised : {A : Type 0} (r : Result A Refusal) {e : Refusal} → IsErrAnd r (λ x. x ≡ e) → r ≡ Err e
raised (Ok a) p = absurd p
raised (Err x) p = ap Err p

pub number_raised : {A : Type 0} (r : Result A Refusal) (e : Refusal) → IsErrAnd r (λ x. x ≡ e) → number_of r ≡ number e
number_raised r e p = ap number_of (raised r p)

-- An answer with the number 0 is none.
pub ok_of_0 : {A : Type 0} (r : Result A Refusal) → number_of r ≡ 0 → (a : A) × (r ≡ Ok a)
ok_of_0 (Ok a) p = (a, refl)
ok_of_0 (Err e) p = absurd (number_not_0 e p)

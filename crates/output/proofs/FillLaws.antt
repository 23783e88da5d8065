-- Laws of filling an output: what is answered and left by the cause, and what is known where bytes were written.
use mathlib.Core.Path.{◌≡◌, refl, sym, ap, subst, ◌∙◌}
use mathlib.Core.Bool.{Bool, true, false}
use mathlib.Core.List.{List, ◌++◌}
use Prim.Native.Nat.{ℕ, zero, suc, ◌<◌, ◌≤◌}
use native.Mathlib.Nat.{zero-add}
use native.Mathlib.Omega.{arith}
use borrow.Author.Tests.{lt-ltb, le-ltb}
use lib.ListN.{length, take, drop, length-append}
use lib.Seq.{take-append_seam}
use Rattle.std.specs.Prelude.{Result, Ok, Err, IsErrAnd}
use Rattle.refusal.specs.Refusal.{number}
use Rattle.refusal.specs.declared.Refusal.{Refusal}
use Rattle.refusal.specs.declared.Refusal.TheVariants.{NoRoom}
use Rattle.refusal.proofs.RefusalLaws.{number_not_0, raised}
use Rattle.output.specs.Output.{placed, output_cause, left_of, Fills}

-- The number of the cause.
module _ (bytes : List ℕ) (room : ℕ) where
  cause_short : room < length bytes → output_cause 0 bytes room ≡ 12
  unfolding output_cause
  cause_short h = ap (λ (b : Bool). elim b as (λ _. ℕ) [ true ↦ 12 | false ↦ 0 ]) (lt-ltb room _ (omega arith))

  cause_fits : length bytes ≤ room → output_cause 0 bytes room ≡ 0
  unfolding output_cause
  cause_fits h = ap (λ (b : Bool). elim b as (λ _. ℕ) [ true ↦ 12 | false ↦ 0 ]) (le-ltb room _ (omega arith))

  cause_other : (k : ℕ) → output_cause (suc k) bytes room ≡ suc k
  unfolding output_cause
  cause_other k = refl

  -- Where no cause applies, no other does.
  cause_none : (k : ℕ) → output_cause k bytes room ≡ 0 → k ≡ 0
  unfolding output_cause
  cause_none zero e = refl
  cause_none (suc k) e = absurd (omega arith)

module _ (k : ℕ) (bytes out : List ℕ) where
  -- Refused with the number of the cause that applies.
  refused_by : (e : Refusal) → number e ≡ output_cause k bytes (length out) → Fills k bytes out (Err e) out
  unfolding left_of
  refused_by e p = go (output_cause k bytes (length out)) refl p
    where
      go : (m : ℕ) → output_cause k bytes (length out) ≡ m → number e ≡ m → Fills k bytes out (Err e) out
      go zero q p = absurd (number_not_0 e p)
      go (suc m) q p = record { refused = p ∙ sym q; written = tt; output = sym (rw (q, left_of)) }

  written_by : output_cause k bytes (length out) ≡ 0 → (n : ℕ) → n ≡ length bytes → Fills k bytes out (Ok n) (bytes ++ drop (length bytes) out)
  unfolding left_of
  written_by e n p = record { refused = sym e; written = p; output = sym (rw (e, left_of)) }

-- Refused by another cause.
pub fills_refused : (k : ℕ) (bytes out : List ℕ) (e : Refusal) → number e ≡ k → Fills k bytes out (Err e) out
fills_refused zero bytes out e p = absurd (number_not_0 e p)
fills_refused (suc k) bytes out e p = refused_by (suc k) bytes out e (p ∙ sym (cause_other bytes (length out) k))

-- The same of what `?` passes up.
pub fills_raised : (k : ℕ) (bytes out : List ℕ) (r : Result ℕ Refusal) (e : Refusal) → IsErrAnd r (λ x. x ≡ e) → number e ≡ k → Fills k bytes out r out
fills_raised k bytes out r e q p =
    subst (λ (a : Result ℕ Refusal). Fills k bytes out a out) (sym (raised r q)) (fills_refused k bytes out e p)

-- Refused with 12, or written, where no other cause applies.
module _ (k : ℕ) (bytes out : List ℕ) (none : k ≡ 0) where
  pub fills_short : length out < length bytes → Fills k bytes out (Err NoRoom) out
  fills_short h =
      refused_by k bytes out NoRoom (sym (ap (λ (j : ℕ). output_cause j bytes (length out)) none ∙ cause_short bytes (length out) h))

  pub fills_written : length bytes ≤ length out → (n : ℕ) → n ≡ length bytes → (left : List ℕ) → left ≡ placed out 0 bytes → Fills k bytes out (Ok n) left
  unfolding placed
  fills_written h n p left e =
      let w = written_by k bytes out (ap (λ (j : ℕ). output_cause j bytes (length out)) none ∙ cause_fits bytes (length out) h) n p in
      record { refused = w.refused; written = p; output = e ∙ ap (λ (m : ℕ). bytes ++ drop m out) (zero-add (length bytes)) ∙ w.output }

-- Where no other cause applies, a call does what `fill` does.
pub fills_none : (k : ℕ) (bytes out : List ℕ) (r : Result ℕ Refusal) (left : List ℕ) → k ≡ 0 → Fills 0 bytes out r left → Fills k bytes out r left
fills_none k bytes out r left p w = subst (λ (j : ℕ). Fills j bytes out r left) (sym p) w

-- n bytes were written: no other cause applied, and the output begins with the bytes.
pub record Wrote (k : ℕ) (bytes : List ℕ) (n : ℕ) (left : List ℕ) : Type 0 where
  pub none : k ≡ 0
  pub size : n ≡ length bytes
  pub within : n ≤ length left
  pub begins : take n left ≡ bytes

module _ (k : ℕ) (bytes out : List ℕ) where
  wrote : (n : ℕ) (left : List ℕ) → Fills k bytes out (Ok n) left → Wrote k bytes n left
  unfolding left_of
  wrote n left w =
      let none = sym w.refused in
      let all = w.output ∙ sym (written_by k bytes out none n w.written).output in
      let rest = drop (length bytes) out in
      record {
        none = cause_none bytes (length out) k none;
        size = w.written;
        within = omega (arith, w.written, ap length all, length-append bytes rest);
        begins = ap (λ (j : ℕ). take j left) w.written ∙ ap (take (length bytes)) all ∙ take-append_seam bytes rest;
      }

-- A refusal by another cause does not depend on the bytes.
pub fills_other : {k j n : ℕ} {x y out : List ℕ} {r : Result ℕ Refusal} {left : List ℕ} → k ≡ suc n → j ≡ suc n → Fills k x out r left → Fills j y out r left
fills_other {k} {j} {n} {x} {y} {out} {r} {left} p q w = go r w
  where
    go : (r : Result ℕ Refusal) → Fills k x out r left → Fills j y out r left
    go (Ok m) w = absurd (omega (arith, (wrote k x out m left w).none))
    go (Err e) w =
        let is : output_cause k x (length out) ≡ k = ap (λ (i : ℕ). output_cause i x (length out)) p ∙ cause_other x (length out) n ∙ sym p in
        let a = fills_refused k x out e (w.refused ∙ is) in
        let b = fills_refused j y out e (w.refused ∙ is ∙ p ∙ sym q) in
        record { refused = b.refused; written = tt; output = w.output ∙ sym a.output ∙ b.output }

module _ (k : ℕ) (bytes out : List ℕ) (r : Result ℕ Refusal) (left : List ℕ) (w : Fills k bytes out r left) where
  pub fills_wrote : (n : ℕ) → r ≡ Ok n → Wrote k bytes n left
  fills_wrote n q = wrote k bytes out n left (subst (λ (s : Result ℕ Refusal). Fills k bytes out s left) q w)

  -- At most m bytes were written, where a call that no other cause refuses has at most m.
  pub fills_few : (m : ℕ) → (k ≡ 0 → length bytes ≤ m) → (n : ℕ) → r ≡ Ok n → n ≤ m
  fills_few m few n q = (let v = fills_wrote n q in omega (arith, v.size, few v.none))

  -- A call that no cause applies to is not refused.
  pub fills_fits : k ≡ 0 → length bytes ≤ length out → (e : Refusal) → r ≡ Err e → ⊥
  fills_fits p h e q =
      let v = subst (λ (s : Result ℕ Refusal). Fills k bytes out s left) q w in
      number_not_0 e (v.refused ∙ ap (λ (j : ℕ). output_cause j bytes (length out)) p ∙ cause_fits bytes (length out) h)

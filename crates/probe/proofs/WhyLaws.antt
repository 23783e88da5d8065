-- Laws of the verdict and of its steps as answers, and of the models by number.
use mathlib.Core.Path.{◌≡◌, refl, sym, ap, subst, ◌∙◌}
use mathlib.Core.List.{List, []}
use Prim.Native.Nat.{ℕ, zero, suc}
use native.Mathlib.Omega.{arith}
use Rattle.std.specs.Prelude.{Result, Ok, Err, IfOk, Option, Some, None}
use Rattle.models.specs.Graph.{Base}
use Rattle.models.specs.Rules.{Model}
use Rattle.models.specs.Why.{Clauses, clauses_of}
use Rattle.layout.specs.Layout.{Side}
use Rattle.layout.specs.Decode.{decode}
use Rattle.recording.specs.Causes.{refusal}
use Rattle.recording.specs.Load.{Loads, LoadsAs}
use Rattle.recording.specs.declared.Header.{Header}
use Rattle.recording.proofs.CauseLaws.{cause_goes_on}
use Rattle.refusal.specs.Refusal.{number, number_of}
use Rattle.refusal.specs.declared.Refusal.{Refusal}
use Rattle.refusal.specs.declared.Refusal.TheVariants.{OtherSide}
use Rattle.refusal.proofs.RefusalLaws.{number_not_0, ok_number, err_number}
use Rattle.verdict.specs.Verdict.{Verdict, rule_of, events}
use Rattle.clause.specs.Steps.{ring, Explained}
use Rattle.execution.specs.OnFile.{OnRecording, OnFile}
use Rattle.lines.specs.declared.Model as lines
use Rattle.lines.specs.declared.Model.TheVariants.{Source, Chip, Tso}
use Rattle.verdicts.specs.ByModel.{side_for, model_for, clauses_for, JudgedFor}
use Rattle.probe.specs.Calls.{coded, Stored, Reported, bytes_of, Explains, cause_for_none, number_for, ModelOf, Why}
use Rattle.probe.proofs.ProbeLaws.{stored_refused}

-- What is stored, by equal bytes and rules.
stored_as : {rule n r : ℕ} {bytes wanted out left : List ℕ} → rule ≡ n → bytes ≡ wanted → Stored 0 rule bytes out r left → Stored 0 n wanted out r left
stored_as {n = n} {r} {bytes} {out = out} {left} e p w =
    subst (λ (l : List ℕ). Stored 0 n l out r left) p (subst (λ (j : ℕ). Stored 0 j bytes out r left) e w)

alone : {k n r : ℕ} → n ≡ k → r ≡ coded n 0 0 → r ≡ coded k 0 0
alone p a = a ∙ ap (λ (j : ℕ). coded j 0 0) p

-- The answer of a verdict.
pub shown_as : {v w : Verdict} {rule r : ℕ} {bytes out left : List ℕ} → v ≡ w → rule ≡ rule_of w → bytes ≡ events w → Stored 0 rule bytes out r left
    → Stored 0 (rule_of v) (events v) out r left
shown_as {r = r} {out = out} {left} is e p w =
    subst (λ (u : Verdict). Stored 0 (rule_of u) (events u) out r left) (sym is) (stored_as e p w)

pub reported_ok : {a : Result Verdict Refusal} {v : Verdict} {r : ℕ} {out left : List ℕ} → a ≡ Ok v → Stored 0 (rule_of v) (events v) out r left
    → Reported a out r left
reported_ok {r = r} {out} {left} is w = subst (λ (a : Result Verdict Refusal). Reported a out r left) (sym is) w

pub reported_err : {a : Result Verdict Refusal} {e : Refusal} {n r : ℕ} (out : List ℕ) → a ≡ Err e → n ≡ number e → r ≡ coded n 0 0 → Reported a out r out
reported_err {e = e} {r = r} out is p q =
    subst (λ (a : Result Verdict Refusal). Reported a out r out) (sym is) (stored_refused e refl (alone p q))

-- The answer of a model.
module _ {s : Side} {M : Model} {Judged : Base → Verdict → Type 0} {f : List ℕ} {a : Result Verdict Refusal} (on : OnFile s M Judged f a) where
  pub on_file_loads : {v : Verdict} → a ≡ Ok v → LoadsAs s f × OnRecording M Judged (decode f) v
  on_file_loads is =
      (cause_goes_on s f (ok_number on.refused is), subst (λ (b : Result Verdict Refusal). IfOk b (λ v. OnRecording M Judged (decode f) v)) is on.judged)

  pub explains_refused : {C : Clauses} {e : Refusal} {n r : ℕ} {out : List ℕ} → a ≡ Err e → n ≡ number_of a → r ≡ coded n 0 0 → Explains s M C Judged f out r out
  explains_refused {e = e} is p q =
      record {
        verdict = Err e;
        on_file = subst (OnFile s M Judged f) is on;
        explained = tt;
        refused = stored_refused e refl (alone (p ∙ ap number_of is) q);
      }

  pub explains_loaded : {C : Clauses} {v : Verdict} {steps : List (List ℕ)} {rule r : ℕ} {bytes out left : List ℕ} → a ≡ Ok v
      → Explained (clauses_of C (rule_of v)) (decode f) (ring v) steps → rule ≡ rule_of v → bytes ≡ bytes_of steps → Stored 0 rule bytes out r left
      → Explains s M C Judged f out r left
  explains_loaded {v = v} {steps} is w e p stored =
      record {
        verdict = Ok v;
        on_file = subst (OnFile s M Judged f) is on;
        explained = record { steps = steps; explained = w; stored = stored_as e p stored };
        refused = tt;
      }

-- No model is meant: the number that loading gives, else 11.
module _ {f : List ℕ} {a : Result Header Refusal} (w : Loads f a) where
  pub none_loads : {h : Header} → a ≡ Ok h → {n r : ℕ} → n ≡ 11 → r ≡ coded n 0 0 → (out : List ℕ) → Stored (cause_for_none f) 0 [] out r out
  unfolding cause_for_none
  none_loads is p q out =
      let cause : 11 ≡ cause_for_none f = rw (ok_number w.refused is, cause_for_none) refl in
      stored_refused OtherSide cause (alone (p ∙ cause) q)

  pub none_refused : {e : Refusal} → a ≡ Err e → {n r : ℕ} → n ≡ number e → r ≡ coded n 0 0 → (out : List ℕ) → Stored (cause_for_none f) 0 [] out r out
  unfolding cause_for_none
  none_refused {e} is p q out =
      let cause = go (refusal f) (sym (err_number w.refused is)) in
      stored_refused e cause (alone (p ∙ cause) q)
    where
      go : (n : ℕ) → number e ≡ n → number e ≡ elim n as (λ _. ℕ) [ zero ↦ 11 | suc m ↦ suc m ]
      go zero p = absurd (number_not_0 e p)
      go (suc n) p = p

-- The models by number.
pub known_model : (n : ℕ) (m : lines.Model) → number_for m ≡ n → ModelOf n (Some m)
known_model n m e = record { known = e; unknown = tt }

pub no_model : (n : ℕ) → (n ≡ 1 → ⊥) → (n ≡ 2 → ⊥) → (n ≡ 3 → ⊥) → ModelOf n None
no_model n b c d = record { known = tt; unknown = go }
  where
    go : (m : lines.Model) → number_for m ≡ n → ⊥
    go Source e = b (sym e)
    go Chip e = c (sym e)
    go Tso e = d (sym e)

-- The answer by the number of the model.
module _ {n : ℕ} {o : Option lines.Model} (of : ModelOf n o) {f out left : List ℕ} {r : ℕ} where
  pub why_model : (m : lines.Model) → o ≡ Some m → Explains (side_for m) (model_for m) (clauses_for m) (JudgedFor m) f out r left → Why n f out r left
  why_model m is w = go m (subst (ModelOf n) is of).known w
    where
      go : (m : lines.Model) → number_for m ≡ n → Explains (side_for m) (model_for m) (clauses_for m) (JudgedFor m) f out r left → Why n f out r left
      go Source e w =
          record { imm = λ h. w; armv8 = λ h. absurd (omega (arith, e, h)); tso = λ h. absurd (omega (arith, e, h)); other = λ b c d. absurd (b (sym e)) }
      go Chip e w =
          record { imm = λ h. absurd (omega (arith, e, h)); armv8 = λ h. w; tso = λ h. absurd (omega (arith, e, h)); other = λ b c d. absurd (c (sym e)) }
      go Tso e w =
          record { imm = λ h. absurd (omega (arith, e, h)); armv8 = λ h. absurd (omega (arith, e, h)); tso = λ h. w; other = λ b c d. absurd (d (sym e)) }

  pub why_none : o ≡ None → Stored (cause_for_none f) 0 [] out r left → Why n f out r left
  why_none is w =
      let none = (subst (ModelOf n) is of).unknown in record {
        imm = λ h. absurd (none Source (sym h));
        armv8 = λ h. absurd (none Chip (sym h));
        tso = λ h. absurd (none Tso (sym h));
        other = λ b c d. w;
      }

-- What the verdict's calls answer of files that differ in their numbering.
use mathlib.Core.Path.{◌≡◌, refl, sym, ap, ap₂, ◌∙◌}
use mathlib.Core.Bool.{Bool, not, beq}
use mathlib.Core.List.{List, [], ◌∷◌}
use Prim.Native.Nat.{ℕ, zero, suc, ◌≤◌}
use native.Mathlib.Omega.{arith}
use lib.ListN.{length}
use Rattle.relation.specs.Rel.{nodes}
use Rattle.models.specs.Graph.{Base, base}
use Rattle.models.specs.Rules.{Model, first, verdict}
use Rattle.layout.specs.Layout.{Side, side_of}
use Rattle.layout.specs.Decode.{decode}
use Rattle.recording.specs.Load.{cause_for, other_side}
use Rattle.recording.proofs.CauseLaws.{cause_late}
use Rattle.std.specs.Prelude.{Result, Ok, Err}
use Rattle.refusal.specs.declared.Refusal.{Refusal}
use Rattle.refusal.specs.Refusal.{number}
use Rattle.refusal.proofs.RefusalLaws.{number_not_0}
use Rattle.verdict.specs.Verdict.{Verdict, rule_of, events}
use Rattle.execution.specs.OnFile.{OnFile}
use Rattle.output.specs.Output.{output_cause}
use Rattle.output.proofs.FillLaws.{fills_written, fills_refused}
use Rattle.translation.specs.Contents.{contents}
use Rattle.probe.specs.Calls.{coded, coded_for, Reported, Reports}
use Rattle.numbering.specs.Answers.{SameAnswer, CallAgrees}
use Rattle.numbering.proofs.Decoded.{verdicts_same}

-- The answers to two calls with one cause and one rule, whatever is written.
same_answer : (k rule m n r q : ℕ) → r ≡ coded k rule m → q ≡ coded k rule n → SameAnswer r q
unfolding coded
same_answer k rule m n r q e d = record { refusal = omega arith; rule = omega arith }

-- The rule that is named beside cause k: none where k refuses.
unfoldable named : ℕ → ℕ → ℕ
named zero rule = rule
named (suc k) rule = 0

-- Where the bytes have room, the answer has the rule and no cause.
answer_written : (rule : ℕ) (bytes out : List ℕ) → length bytes ≤ length out
    → coded_for rule (output_cause 0 bytes (length out)) (length bytes) ≡ coded 0 rule (length bytes)
unfolding coded_for
answer_written rule bytes out h =
    ap (λ (k : ℕ). coded_for rule k (length bytes)) (sym (fills_written 0 bytes out refl h (length bytes) refl _ refl).refused)

-- A refusal is answered with its cause and no rule.
answer_refused : (k rule : ℕ) → (k ≡ 0 → ⊥) → coded_for 0 k 0 ≡ coded k (named k rule) 0
unfolding named coded_for
answer_refused zero rule d = absurd (d refl)
answer_refused (suc k) rule d = refl

module _ (s : Side) (M : Model) (Judged : Base → Verdict → Type 0)
    (says : (B : Base) (v : Verdict) → Judged B v → rule_of v ≡ verdict nodes B M) (few : (B : Base) (v : Verdict) → Judged B v → length (events v) ≤ 64) where
  -- A call's answer by the file's cause and verdict, where the output has 64 bytes.
  answer_of_lem : (f out : List ℕ) (r : ℕ) (left : List ℕ) → 64 ≤ length out → Reports s M Judged f out r left
      → (n : ℕ) × (r ≡ coded (cause_for s f) (named (cause_for s f) (verdict nodes (base nodes (decode f)) M)) n)
  unfolding named
  answer_of_lem f out r left room w = go w.verdict w.on_file w.reported
    where
      number_named : ℕ → ℕ
      number_named k = named k (verdict nodes (base nodes (decode f)) M)

      go : (v : Result Verdict Refusal) → OnFile s M Judged f v → Reported v out r left
          → (n : ℕ) × (r ≡ coded (cause_for s f) (number_named (cause_for s f)) n)
      go (Ok v) on told =
          let shown = on.judged.shown in
          let fits : length (events v) ≤ length out = omega (arith, few _ v shown) in (
            length (events v),
            told.answer
                ∙ answer_written (rule_of v) (events v) out fits
                ∙ ap (λ (n : ℕ). coded 0 n (length (events v))) (says _ v shown)
                ∙ ap (λ (k : ℕ). coded k (number_named k) (length (events v))) on.refused,
          )
      go (Err e) on told = (
        0,
        told.answer
            ∙ ap (λ (k : ℕ). coded_for 0 k 0) (sym (fills_refused (number e) [] out e refl).refused)
            ∙ answer_refused (number e) _ (number_not_0 e)
            ∙ ap (λ (k : ℕ). coded k (number_named k) 0) on.refused,
      )

  pub call_agrees : CallAgrees s M Judged
  unfolding contents other_side
  call_agrees f g w out₁ out₂ left₁ left₂ r₁ r₂ room₁ room₂ p q =
      let cause : cause_for s g ≡ cause_for s f = cause_late s g w.loads_too ∙ ap (λ (x : ℕ). first ((11, other x) ∷ [])) w.renumbers.kind ∙ sym (cause_late s f w.loads) in
      let a = answer_of_lem f out₁ r₁ left₁ room₁ p in
      let b = answer_of_lem g out₂ r₂ left₂ room₂ q in
      same_answer _ _ a.0 b.0 r₁ r₂ a.1 (b.1 ∙ ap₂ (λ (k n : ℕ). coded k (named k n) b.0) cause (sym (verdicts_same f g w M)))
    where
      other : ℕ → Bool
      other k = not (beq (side_of k) s)

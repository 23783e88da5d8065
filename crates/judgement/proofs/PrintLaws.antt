-- Laws of what is printed: what the verdicts of the models say of each other, and the text by what loading answers.
use mathlib.Core.Path.{◌≡◌, sym, ap, ap₂, subst, ◌∙◌}
use mathlib.Core.Bool.{false≢true}
use mathlib.Core.List.{List, [], ◌++◌}
use mathlib.Core.Logic.{inl, inr}
use Prim.Native.Nat.{ℕ, suc}
use native.Mathlib.Omega.{arith}
use lib.ListN.{length, take}
use Rattle.layout.specs.Layout as layout
use Rattle.recording.specs.Causes.{refusal}
use Rattle.recording.specs.Load.{Loads, LoadsAs}
use Rattle.recording.specs.Input.{ReadOf}
use Rattle.recording.specs.declared.Header.{Header}
use Rattle.std.specs.Prelude.{Result, Ok, Err, Some, None}
use Rattle.sequence.specs.Items.{Items}
use Rattle.refusal.specs.declared.Refusal.{Refusal}
use Rattle.refusal.specs.Refusal.{number_of}
use Rattle.refusal.proofs.RefusalLaws.{err_not_0}
use Rattle.recording.proofs.Longest.{read_longest, read_of}
use Rattle.verdict.specs.Verdict.{Verdict, number, rule_of}
use Rattle.verdict.specs.declared.Broken.{Broken}
use Rattle.verdict.proofs.ShownLaws.{number_not_0}
use Rattle.translation.specs.Translation.{translation}
use Rattle.lines.specs.Lines.{source, chip, tso, line_by, line_of, refusal_line}
use Rattle.lines.proofs.LineLaws.{line_by_number}
use Rattle.soundness.specs.Soundness.{imm_verdict, armv8_verdict, tso_verdict}
use Rattle.soundness.proofs.Proved.{soundness, tso_soundness}
use Rattle.judgement.specs.Judgement.{OnSource, OnChip, OnTso, line_for, SourceLines, TextOf}

-- Verdicts of which one is allowed where the other is.
allowed_sound : (m n : ℕ) (v w : Verdict) → rule_of v ≡ m → rule_of w ≡ n → (n ≡ 0 → m ≡ 0) → rule_of w ≡ 0 → rule_of v ≡ 0
allowed_sound m n v w p q back h = p ∙ back (sym q ∙ h)

module _ (f : List ℕ) (v w : Verdict) (l : LoadsAs layout.source f) (on : OnSource f v) where
  -- Demand 3, for the verdicts on a source file that loads and on its translation.
  pub chip_sound : OnChip (translation f) w → rule_of w ≡ 0 → rule_of v ≡ 0
  unfolding imm_verdict armv8_verdict
  chip_sound chip-on = allowed_sound _ _ v w on.shown.answer chip-on.shown.answer (soundness f l).allowed_back

  -- Slip 6, for the verdicts of IMM and of x86-TSO on a source file that loads.
  pub tso_sound : OnTso f w → rule_of w ≡ 0 → rule_of v ≡ 0
  unfolding imm_verdict tso_verdict
  tso_sound tso-on = allowed_sound _ _ v w on.shown.answer tso-on.shown.answer (tso_soundness f l)

-- The lines of the three verdicts that `of_source` gives.
pub source_lines : {f text : List ℕ} {v w u : Verdict} → OnSource f v → OnChip (translation f) w → OnTso f u
    → (rule_of w ≡ 0 → rule_of v ≡ 0) → (rule_of u ≡ 0 → rule_of v ≡ 0)
    → text ≡ (line_for source v ++ line_for chip w) ++ line_for tso u → SourceLines f text
source_lines on on_chip on_tso sound also p =
    record { on_source = _; on_chip = _; on_tso = _; judged = on; judged_chip = on_chip; judged_tso = on_tso; sound = sound; tso_sound = also; prints = p }

-- The line of a verdict by its rule.
pub allowed_line : (word : List ℕ) {shown text : List ℕ} {v : Verdict} {all : Items ℕ} → v ≡ Ok all → shown ≡ all.items → text ≡ line_by word None shown → text ≡ line_for word v
unfolding line_of
allowed_line word is e p = p ∙ ap (line_by word None) e ∙ sym (ap (line_for word) is)

pub broken_line : (word : List ℕ) {shown text : List ℕ} {v : Verdict} {b : Broken} {k : ℕ} → v ≡ Err b → k ≡ number b.rule → shown ≡ b.events.items
    → text ≡ line_by word (Some k) shown → text ≡ line_for word v
broken_line word {b = b} is n e p =
    p ∙ ap₂ (λ (k : ℕ) (l : List ℕ). line_by word (Some k) l) n e ∙ line_by_number word (number b.rule) b.events.items (number_not_0 b.rule) ∙ sym (ap (line_for word) is)

-- A line alone.
pub alone : {none line text all : List ℕ} → none ≡ [] → all ≡ none ++ line → line ≡ text → all ≡ text
alone e p q = p ∙ (λ i. e i ++ q i)

-- What is printed where loading is refused.
module _ (Source Chip : List ℕ → List ℕ → Type 0) {f : List ℕ} {r : Result Header Refusal} (w : Loads f r) where
  pub refusal_text : {e : Refusal} {n : ℕ} {text : List ℕ} → r ≡ Err e → n ≡ number_of r → text ≡ refusal_line n → TextOf Source Chip f text
  refusal_text q p prints =
      record {
        refused = λ m z. prints ∙ ap refusal_line (p ∙ w.refused ∙ z);
        on_source = λ l. absurd (err_not_0 w.refused q l.loads);
        on_chip = λ l. absurd (err_not_0 w.refused q l.loads);
      }

-- Of a file that loads, by its side.
module _ (Source Chip : List ℕ → List ℕ → Type 0) (f text : List ℕ) where
  pub source_text : LoadsAs layout.source f → Source f text → TextOf Source Chip f text
  source_text l said =
      record {
        refused = λ n u. absurd (let y : suc n ≡ 0 = sym u ∙ l.loads in omega arith);
        on_source = λ m. said;
        on_chip = λ m. absurd (false≢true (sym m.side_is ∙ l.side_is));
      }

  pub chip_text : LoadsAs layout.chip f → Chip f text → TextOf Source Chip f text
  chip_text l said =
      record {
        refused = λ n u. absurd (let y : suc n ≡ 0 = sym u ∙ l.loads in omega arith);
        on_source = λ m. absurd (false≢true (sym l.side_is ∙ m.side_is));
        on_chip = λ m. said;
      }

-- What is printed of what is read of an input is what is printed of the input.
pub input_text : (Source Chip : List ℕ → List ℕ → Type 0) (start text : List ℕ) (n : ℕ) → length start ≡ 1413 → TextOf Source Chip (take n start) text
    → (input : List ℕ) → ReadOf input start n → TextOf Source Chip input text
input_text Source Chip start text n long w input r =
    let read = read_longest input start n long r in
    elim (read_of input) [
      | inl e ↦ subst (λ (f : List ℕ). TextOf Source Chip f text) (read ∙ e) w
      | inr (k, all, part) ↦ record {
        refused = λ m z. w.refused m (ap refusal read ∙ part ∙ sym all ∙ z);
        on_source = λ l. absurd (not_loaded k all l.loads);
        on_chip = λ l. absurd (not_loaded k all l.loads);
      }
    ]
  where
    not_loaded : (n : ℕ) → refusal input ≡ suc n → refusal input ≡ 0 → ⊥
    not_loaded n all z = (let y : suc n ≡ 0 = sym all ∙ z in omega arith)

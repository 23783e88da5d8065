-- What is printed of files that differ in their numbering.
use mathlib.Core.Path.{◌≡◌, sym, ap, ◌∙◌}
use mathlib.Core.List.{List, ◌++◌}
use Prim.Native.Nat.{ℕ}
use Rattle.models.specs.Rules.{IMM, ARMv8, TSO}
use Rattle.layout.specs.Layout as layout
use Rattle.layout.specs.Layout.{side, side_of}
use Rattle.recording.specs.Load.{LoadsAs}
use Rattle.verdict.specs.Verdict.{events}
use Rattle.translation.specs.Contents.{contents}
use Rattle.soundness.specs.Soundness.{imm_verdict, armv8_verdict, tso_verdict}
use Rattle.lines.specs.Lines.{source, chip, tso, line_of}
use Rattle.judgement.specs.Judgement.{Prints}
use Rattle.numbering.specs.Numbering.{Renumbered}
use Rattle.numbering.specs.Answers.{SourceText, ChipText, LinesAgree}
use Rattle.numbering.proofs.Decoded.{verdicts_same}
use Rattle.numbering.proofs.Equivalence.{equivalence}
use Rattle.numbering.proofs.Files.{translations_renumbered}

-- What is printed of g has the answers of f.
module _ (f g : List ℕ) (w : Renumbered f g) (text : List ℕ) (p : Prints g text) where
  loads_as : (s : layout.Side) → side f ≡ s → LoadsAs s g
  unfolding contents
  loads_as s e = record { loads = w.loads_too; side_is = ap side_of w.renumbers.kind ∙ e }

  source_text : side f ≡ layout.source → SourceText f text
  unfolding imm_verdict armv8_verdict tso_verdict
  source_text e =
      let b = p.on_source (loads_as layout.source e) in
      let imm = b.judged.shown.answer ∙ sym (verdicts_same f g w IMM) in
      let armv8 = b.judged_chip.shown.answer ∙ sym (verdicts_same _ _ (translations_renumbered f g w e) ARMv8) in
      let x86 = b.judged_tso.shown.answer ∙ sym (verdicts_same f g w TSO) in
      let x = events b.on_source in
      let y = events b.on_chip in
      let z = events b.on_tso in
      (x, y, z, b.prints ∙ (λ i. (line_of source (imm i) x ++ line_of chip (armv8 i) y) ++ line_of tso (x86 i) z))

  chip_text : side f ≡ layout.chip → ChipText f text
  unfolding armv8_verdict
  chip_text e =
      let b = p.on_chip (loads_as layout.chip e) in
      let armv8 = b.judged_chip.shown.answer ∙ sym (verdicts_same f g w ARMv8) in
      (events b.on_chip, b.prints ∙ ap (λ (n : ℕ). line_of chip n (events b.on_chip)) armv8)

pub lines_agree : LinesAgree
lines_agree = record {
  on_source = λ f g w s text₁ text₂ p q. (source_text f f (equivalence.reflexive f w.loads) text₁ p s, source_text f g w text₂ q s);
  on_chip = λ f g w s text₁ text₂ p q. (chip_text f f (equivalence.reflexive f w.loads) text₁ p s, chip_text f g w text₂ q s);
}

-- What the program why prints of a file: the judge's lines, and under each line with a ring a line a step.
use Rattle.std.specs.Prelude.{◌≡◌, List, ◌++◌, ℕ}
use Rattle.models.specs.Why.{Clauses, clauses_of, imm_rings, armv8_rings, tso_rings}
use Rattle.layout.specs.Decode.{decode}
use Rattle.verdict.specs.Verdict.{Verdict, rule_of}
use Rattle.clause.specs.Steps.{ring, Explained}
use Rattle.translation.specs.Translation.{translation}
use Rattle.lines.specs.Lines as lines
use Rattle.explanation.specs.StepLine.{step_lines}
use Rattle.judgement.specs.Judgement.{OnSource, OnChip, OnTso, line_for, SourceLines, TextOf}

-- The text is the line of a verdict on the file f, as the judge prints it, and under it the lines of the steps of its ring: none where it shows
-- no ring. Each step has the first clause of C that relates its two events.
pub record Reasoned (On : List ℕ → Verdict → Type 0) (C : Clauses) (word f text : List ℕ) : Type 0 where
  pub verdict : Verdict
  pub judged : On f verdict
  pub steps : List (List ℕ)
  pub explained : Explained (clauses_of C (rule_of verdict)) (decode f) (ring verdict) steps
  pub prints : text ≡ line_for word verdict ++ step_lines word (clauses_of C (rule_of verdict)) steps

-- Of a source recording, in the order of the judge's lines.
pub record SourceWhy (f text : List ℕ) : Type 0 where
  pub on_source : List ℕ
  pub on_chip : List ℕ
  pub on_tso : List ℕ
  pub source : Reasoned OnSource imm_rings lines.source f on_source
  pub chip : Reasoned OnChip armv8_rings lines.chip (translation f) on_chip
  pub tso : Reasoned OnTso tso_rings lines.tso f on_tso
  pub prints : text ≡ (on_source ++ on_chip) ++ on_tso
  -- Without the steps it is what the judge may print.
  pub judges : SourceLines f ((line_for lines.source source.verdict ++ line_for lines.chip chip.verdict) ++ line_for lines.tso tso.verdict)

-- The text is what the program why prints of the file f. Which of several shortest rings is shown is free; all else is fixed.
abbrev pub PrintsWhy : List ℕ → List ℕ → Type 0
PrintsWhy = TextOf SourceWhy (Reasoned OnChip armv8_rings lines.chip)

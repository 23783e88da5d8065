-- What the calls answer and the judge prints of files that differ in their numbering: the same refusal, verdict and rule (02, slip 7).
-- The events that are shown may differ. `proofs/Proved.antt` proves it.
use Rattle.std.specs.Prelude.{◌≡◌, List, ◌++◌, ℕ, ◌≤◌, ◌/◌, ◌%◌, length}
use Rattle.models.specs.Graph.{Base}
use Rattle.models.specs.Rules.{Model, IMM, ARMv8, TSO}
use Rattle.layout.specs.Layout.{Side, source, chip, side}
use Rattle.verdict.specs.Verdict.{Verdict}
use Rattle.imm.specs.Judged as imm
use Rattle.armv8.specs.Judged as armv8
use Rattle.tso.specs.Judged as tso
use Rattle.translation.specs.Translation.{translation}
use Rattle.soundness.specs.Soundness.{imm_verdict, armv8_verdict, tso_verdict}
use Rattle.lines.specs.Lines as lines
use Rattle.lines.specs.Lines.{line_of}
use Rattle.judgement.specs.Judgement.{Prints}
use Rattle.probe.specs.Calls.{Reports}
use Rattle.numbering.specs.Numbering.{Renumbered}

-- Two answers of calls (`coded`) with one refusal, the lowest byte, and one broken rule, the next byte.
pub record SameAnswer (r q : ℕ) : Type 0 where
  pub refusal : r % 256 ≡ q % 256
  pub rule : r / 256 % 256 ≡ q / 256 % 256

-- The call of a model, whose files are of side s, answers so on both files. Each output has room for all events: 64 bytes or more.
abbrev pub CallAgrees : Side → Model → (Base → Verdict → Type 0) → Type 0
CallAgrees s M Judged =
    (f g : List ℕ) → Renumbered f g → (out₁ out₂ left₁ left₂ : List ℕ) (r₁ r₂ : ℕ) → 64 ≤ length out₁ → 64 ≤ length out₂
    → Reports s M Judged f out₁ r₁ left₁ → Reports s M Judged g out₂ r₂ left₂ → SameAnswer r₁ r₂

-- The same of the calls: what `probe_imm`, `probe_armv8` and `probe_tso` promise to answer.
pub record CallsAgree : Type 0 where
  pub imm : CallAgrees source IMM imm.Judged
  pub armv8 : CallAgrees chip ARMv8 armv8.Judged
  pub tso : CallAgrees source TSO tso.Judged

-- The same of what the judge prints. The text has the lines of f's answers, whatever events x, y and z they show.
abbrev pub SourceText : List ℕ → List ℕ → Type 0
SourceText f text =
    (x y z : List ℕ)
    × (text
    ≡ (line_of lines.source (imm_verdict f) x ++ line_of lines.chip (armv8_verdict (translation f)) y)
    ++ line_of lines.tso (tso_verdict f) z)

abbrev pub ChipText : List ℕ → List ℕ → Type 0
ChipText f text = (x : List ℕ) × (text ≡ line_of lines.chip (armv8_verdict f) x)

-- What is printed of f, and what is printed of g, has these answers.
pub record LinesAgree : Type 0 where
  pub on_source : (f g : List ℕ) → Renumbered f g → side f ≡ source → (text₁ text₂ : List ℕ) → Prints f text₁ → Prints g text₂
      → SourceText f text₁ × SourceText f text₂
  pub on_chip : (f g : List ℕ) → Renumbered f g → side f ≡ chip → (text₁ text₂ : List ℕ) → Prints f text₁ → Prints g text₂
      → ChipText f text₁ × ChipText f text₂

-- What is said of a file as a whole: the verdicts and the lines that are printed (01, "What is shown"; 02, slip 6), and the printed page
-- (02, slip 2).
use Rattle.std.specs.Prelude.{◌≡◌, List, [], ◌++◌, ℕ, suc, Ok, Err}
use Rattle.models.specs.Rules.{IMM, ARMv8, TSO}
use Rattle.layout.specs.Layout as layout
use Rattle.layout.specs.Decode.{decode}
use Rattle.recording.specs.Causes.{refusal}
use Rattle.recording.specs.Load.{LoadsAs}
use Rattle.verdict.specs.Verdict.{Verdict, rule_of, events}
use Rattle.execution.specs.OnFile.{OnRecording}
use Rattle.imm.specs.Judged as imm
use Rattle.armv8.specs.Judged as armv8
use Rattle.tso.specs.Judged as tso
use Rattle.translation.specs.Translation.{translation}
use Rattle.lines.specs.Lines.{source, chip, line_of, refusal_line}
use Rattle.lines.specs.Lines as lines
use Rattle.printout.specs.Page.{page}

-- v is the IMM verdict, the ARMv8 verdict, or the x86-TSO verdict, on the recording of a file that loads.
abbrev pub OnSource : List ℕ → Verdict → Type 0
OnSource f v = OnRecording IMM imm.Judged (decode f) v

abbrev pub OnChip : List ℕ → Verdict → Type 0
OnChip f v = OnRecording ARMv8 armv8.Judged (decode f) v

abbrev pub OnTso : List ℕ → Verdict → Type 0
OnTso f v = OnRecording TSO tso.Judged (decode f) v

-- The line of a verdict.
abbrev pub line_for : List ℕ → Verdict → List ℕ
line_for word v = line_of word (rule_of v) (events v)

-- What a program prints of the file f: "A refusal prints `refused` and its number", without a model's word; of a recording that loads, what it
-- prints of a source or of a chip recording.
pub record TextOf (Source Chip : List ℕ → List ℕ → Type 0) (f text : List ℕ) : Type 0 where
  pub refused : (n : ℕ) → refusal f ≡ suc n → text ≡ refusal_line (suc n)
  pub on_source : LoadsAs layout.source f → Source f text
  pub on_chip : LoadsAs layout.chip f → Chip f text

-- "Kind 1 prints a source line, then a chip line": that of its translation. "For a source recording the judge gains a last line beginning
-- `tso`" (02, slip 6). Where the translation is allowed, so is the source (demand 3); where x86-TSO allows the source, so does IMM.
pub record SourceLines (f text : List ℕ) : Type 0 where
  pub on_source : Verdict
  pub on_chip : Verdict
  pub on_tso : Verdict
  pub judged : OnSource f on_source
  pub judged_chip : OnChip (translation f) on_chip
  pub judged_tso : OnTso f on_tso
  pub sound : rule_of on_chip ≡ 0 → rule_of on_source ≡ 0
  pub tso_sound : rule_of on_tso ≡ 0 → rule_of on_source ≡ 0
  pub prints : text ≡ (line_for source on_source ++ line_for chip on_chip) ++ line_for lines.tso on_tso

-- "kind 2 a chip line"
pub record ChipLine (f text : List ℕ) : Type 0 where
  pub on_chip : Verdict
  pub judged_chip : OnChip f on_chip
  pub prints : text ≡ line_for chip on_chip

-- The text is what the judge prints of the file f. Which of several shortest rings is shown is free; all else is fixed.
abbrev pub Prints : List ℕ → List ℕ → Type 0
Prints = TextOf SourceLines ChipLine

-- The ring of the page that is printed: "the events of a broken IMM (source) or ARMv8 (chip) verdict, empty if allowed".
abbrev pub ring_of : Verdict → List ℕ
ring_of (Ok all) = []
ring_of (Err broken) = broken.events.items

-- The text is the page of the file f with the ring of a verdict on it.
pub record OwnPage (On : List ℕ → Verdict → Type 0) (f text : List ℕ) : Type 0 where
  pub verdict : Verdict
  pub judged : On f verdict
  pub prints : text ≡ page f (ring_of verdict)

-- The text is what the program page prints of the file f: "A program prints it, or the judge's line for a refusal". Which of several
-- shortest rings a verdict shows is free; all else is fixed.
abbrev pub PrintsPage : List ℕ → List ℕ → Type 0
PrintsPage = TextOf (OwnPage OnSource) (OwnPage OnChip)

-- What the calls answer, as numbers, and what they leave of an output.
use Rattle.std.specs.Prelude.{◌≡◌, List, [], ◌∷◌, ℕ, zero, suc, ◌+◌, ◌*◌, length, get_or, Option, IfSome, IfNone, Result, Ok, Err, IfOk, IfErr}
use Rattle.models.specs.Graph.{Base}
use Rattle.models.specs.Rules.{Model, IMM, ARMv8, TSO}
use Rattle.models.specs.Why.{Clauses, clauses_of, imm_rings, armv8_rings, tso_rings}
use Rattle.layout.specs.Layout.{Side, source, chip}
use Rattle.layout.specs.Decode.{decode}
use Rattle.recording.specs.Causes.{refusal}
use Rattle.refusal.specs.declared.Refusal.{Refusal}
use Rattle.refusal.specs.Refusal.{number}
use Rattle.verdict.specs.Verdict.{Verdict, rule_of, events}
use Rattle.clause.specs.Steps.{ring, Explained}
use Rattle.execution.specs.OnFile.{OnFile}
use Rattle.imm.specs.Judged as imm
use Rattle.armv8.specs.Judged as armv8
use Rattle.tso.specs.Judged as tso
use Rattle.output.specs.Output.{output_cause, left_of}
use Rattle.lines.specs.declared.Model as lines
use Rattle.lines.specs.declared.Model.TheVariants.{Source, Chip, Tso}
use Rattle.judgement.specs.Judgement.{Prints}

-- One coding of every answer: the number of the refusal in the lowest byte, 0 where there is none; the number of the broken rule in the
-- next byte, 0 where none is broken; above them how many bytes were written.
unfoldable pub coded : ℕ → ℕ → ℕ → ℕ
coded cause rule written = cause + 256 * rule + 65536 * written

-- The answer of a call that fills an output, by the number of its refusal: the refusal alone, or where there is none the number of the broken
-- rule and the length written.
unfoldable pub coded_for : ℕ → ℕ → ℕ → ℕ
coded_for rule zero written = coded 0 rule written
coded_for rule (suc k) written = coded (suc k) 0 0

-- Bytes go to the output, and it is left as `left`. k is the number of the first cause of refusal other than 12, and rule that of the broken
-- rule; each is 0 where there is none.
pub record Stored (k rule : ℕ) (bytes out : List ℕ) (r : ℕ) (left : List ℕ) : Type 0 where
  pub answer : r ≡ coded_for rule (output_cause k bytes (length out)) (length bytes)
  pub output : left ≡ left_of k bytes out

-- The events that a verdict shows go to the output, with the number of its broken rule, or the number of a refusal.
abbrev pub Reported : Result Verdict Refusal → List ℕ → ℕ → List ℕ → Type 0
Reported (Ok v) out r left = Stored 0 (rule_of v) (events v) out r left
Reported (Err k) out r left = Stored (number k) 0 [] out r left

-- The verdict of the model M, whose files are of side s, on the file f goes to the output.
pub record Reports (s : Side) (M : Model) (Judged : Base → Verdict → Type 0) (f out : List ℕ) (r : ℕ) (left : List ℕ) : Type 0 where
  pub verdict : Result Verdict Refusal
  pub on_file : OnFile s M Judged f verdict
  pub reported : Reported verdict out r left

-- What the judge prints of the file f goes to the output.
pub record Printed (f out : List ℕ) (r : ℕ) (left : List ℕ) : Type 0 where
  pub text : List ℕ
  pub prints : Prints f text
  pub stored : Stored 0 0 text out r left

-- The three numbers of each step, one step behind the other.
abbrev pub bytes_of : List (List ℕ) → List ℕ
bytes_of [] = []
bytes_of (s ∷ steps) = get_or s 0 0 ∷ get_or s 1 0 ∷ get_or s 2 0 ∷ bytes_of steps

-- The steps of the ring that the verdict v on the file f shows, three bytes each, go to the output: an event, the one after it, and the number of
-- the first clause of C, for the broken rule, that relates the two. Where rule 3 or 5 is not broken there is no step.
pub record Steps (C : Clauses) (f : List ℕ) (v : Verdict) (out : List ℕ) (r : ℕ) (left : List ℕ) : Type 0 where
  pub steps : List (List ℕ)
  pub explained : Explained (clauses_of C (rule_of v)) (decode f) (ring v) steps
  pub stored : Stored 0 (rule_of v) (bytes_of steps) out r left

-- The steps of the verdict of the model M on the file f go to the output, or the call is refused as the verdict is.
pub record Explains (s : Side) (M : Model) (C : Clauses) (Judged : Base → Verdict → Type 0) (f out : List ℕ) (r : ℕ) (left : List ℕ) : Type 0 where
  pub verdict : Result Verdict Refusal
  pub on_file : OnFile s M Judged f verdict
  pub explained : IfOk verdict (λ v. Steps C f v out r left)
  pub refused : IfErr verdict (λ k. Stored (number k) 0 [] out r left)

-- The number of the refusal where no model is meant: as loading gives it, and 11 for a file that loads.
unfoldable pub cause_for_none : List ℕ → ℕ
cause_for_none f = elim (refusal f) [ zero ↦ 11 | suc n ↦ suc n ]

-- The models by number.
abbrev pub number_for : lines.Model → ℕ
number_for Source = 1
number_for Chip = 2
number_for Tso = 3

-- m is the model of the number n, and None where no model has it.
pub record ModelOf (n : ℕ) (m : Option lines.Model) : Type 0 where
  pub known : IfSome m (λ m. number_for m ≡ n)
  pub unknown : IfNone m ((m : lines.Model) → number_for m ≡ n → ⊥)

-- By the number of the model: 1 IMM, 2 ARMv8, 3 x86-TSO.
pub record Why (model : ℕ) (f out : List ℕ) (r : ℕ) (left : List ℕ) : Type 0 where
  pub imm : model ≡ 1 → Explains source IMM imm_rings imm.Judged f out r left
  pub armv8 : model ≡ 2 → Explains chip ARMv8 armv8_rings armv8.Judged f out r left
  pub tso : model ≡ 3 → Explains source TSO tso_rings tso.Judged f out r left
  pub other : (model ≡ 1 → ⊥) → (model ≡ 2 → ⊥) → (model ≡ 3 → ⊥) → Stored (cause_for_none f) 0 [] out r left

-- What loading answers (01, "Causes of refusal"): the number of the first cause, or the header.
use Rattle.std.specs.Prelude.{◌≡◌, Bool, not, List, [], ◌∷◌, ◌++◌, ℕ, Result, IfOk}
use Rattle.std.specs.Bool.{beq}
use Rattle.models.specs.Rules.{first}
use Rattle.layout.specs.Layout.{Side, side, events, locations, links}
use Rattle.recording.specs.Causes.{causes, refusal}
use Rattle.recording.specs.declared.Header.{Header}
use Rattle.refusal.specs.declared.Refusal.{Refusal}
use Rattle.refusal.specs.Refusal.{number_of}

-- What a file's header says.
abbrev pub header_of : List ℕ → Header
header_of f = record { source = side f; events = events f; locations = locations f; links = links f }

-- What loading answers: the refusal with the number of the first cause that applies, and the header where none does.
pub record Loads (f : List ℕ) (r : Result Header Refusal) : Type 0 where
  pub refused : number_of r ≡ refusal f
  pub loaded : IfOk r (λ h. h ≡ header_of f)

-- The file loads, and is of that side.
pub record LoadsAs (s : Side) (f : List ℕ) : Type 0 where
  pub loads : refusal f ≡ 0
  pub side_is : side f ≡ s

-- 11: a call meant for the other side.
unfoldable pub other_side : Side → List ℕ → Bool
other_side s f = not (beq (side f) s)

-- The number that a call meant for side s gives. It is 0, and the call goes on, exactly where the file loads as s (`cause_own`,
-- `cause_goes_on` of proofs/CauseLaws.antt).
unfoldable pub cause_for : Side → List ℕ → ℕ
cause_for s f = first (causes f ++ ((11, other_side s f) ∷ []))

-- What a verdict says and shows (01, "What is shown"), for any model.
use Rattle.std.specs.Prelude.{◌≡◌, true, [], ◌∷◌, ℕ, ◌<◌, ◌≤◌, length, take, Option, IfSome, IfNone, Result, Err, IfOk, IfErr}
use Rattle.relation.specs.Rel.{Rel, some, least, nodes}
use Rattle.relation.specs.Ring.{ShortestRing, closed}
use Rattle.relation.specs.Order.{order}
use Rattle.models.specs.Graph.{Base}
use Rattle.models.specs.Term.{eval}
use Rattle.models.specs.Rules.{Model, broken_pair, first, unread, unordered, failures, verdict}
use Rattle.verdict.specs.declared.Broken.{Broken}
use Rattle.verdict.specs.declared.rules.Pair.{Pair}
use Rattle.verdict.specs.Verdict.{Verdict, rule_of, events}

-- "the pair with smallest first, then second": 64 for the first where r has no pair.
unfoldable pub first_of : Rel → ℕ
first_of r = least 64 (λ a. some nodes (r a))

unfoldable pub second_of : Rel → ℕ
second_of r = least 64 (r (first_of r))

-- v is a verdict of the model M over the base B, and shows what 01 asks for.
-- steps and closing are the relations of rule 3's ring: of its steps, and of the step that closes it.
pub record Shown (steps closing : Rel) (M : Model) (B : Base) (v : Verdict) : Type 0 where
  -- Broken when one of the model's five rules fails, the first one named, and allowed when none does.
  pub answer : rule_of v ≡ verdict nodes B M
  pub bound : length (events v) ≤ 64
  -- "Allowed: all events ordered by ar or ob, always taking next the smallest number whose predecessors are out."
  pub allowed : verdict nodes B M ≡ 0 → events v ≡ order 64 (eval nodes M.order B) B.E
  -- "Broken 1: the smallest such read."
  pub broken1 : verdict nodes B M ≡ 1 → events v ≡ least 64 (unread nodes B) ∷ []
  -- "2: the pair with smallest first, then second."
  pub broken2 : verdict nodes B M ≡ 2 → events v ≡ first_of (unordered nodes B) ∷ second_of (unordered nodes B) ∷ []
  -- "4: the pair with smallest read, read then write."
  pub broken4 : verdict nodes B M ≡ 4 → events v ≡ first_of (eval nodes broken_pair B) ∷ second_of (eval nodes broken_pair B) ∷ []
  -- "3 and 5: a ring of distinct events, smallest first [..]. Each step, last to first included, is of the rule's relation";
  -- "every other ring that may be shown has at least as many [..]. Which of several shortest rings is shown stays free" (02, slip 5).
  pub broken3 : verdict nodes B M ≡ 3 → ShortestRing steps closing (events v)
  pub broken5 : verdict nodes B M ≡ 5 → ShortestRing (eval nodes M.order B) (eval nodes M.order B) (events v)

-- The rest says what the parts of a verdict do.

-- p is the first pair of r, and None where it has none.
pub record FirstPair (r : Rel) (p : Option Pair) : Type 0 where
  pub none : IfNone p (first_of r ≡ 64)
  pub pair : IfSome p (λ p. (p.first ≡ first_of r) × (p.second ≡ second_of r) × (p.first < 64) × (p.second < 64))

-- Rules 1 to k of the model M hold over B.
abbrev pub Hold : ℕ → Model → Base → Type 0
Hold k M B = first (take k (failures nodes B M)) ≡ 0

-- r is what is found where rules up to k are tried: the verdict where one is broken; else they hold.
pub record Tried {A : Type 0} (k : ℕ) (steps closing : Rel) (M : Model) (B : Base) (r : Result A Broken) : Type 0 where
  pub broken : IfErr r (λ b. Shown steps closing M B (Err b))
  pub holds : IfOk r (λ _. Hold k M B)

-- Wherever rule 3 is broken, steps and a closing step come back to an event.
abbrev pub Around : Model → Base → Rel → Rel → Type 0
Around M B steps closing = (x : ℕ) → eval nodes M.coherent B x x ≡ true → (y : ℕ) × (closed steps closing y y ≡ true)

-- The steps of a ring that a verdict shows, each with the number of its clause, and the arrays that hold clauses.
use Rattle.std.specs.Prelude.{true, false, ◌||◌, ◌≡◌, List, [], ◌∷◌, ◌++◌, map, ℕ, zero, suc, ◌<◌, eqb, length, get_or}
use Rattle.relation.specs.Rel.{nodes}
use Rattle.relation.specs.Bits.{edge}
use Rattle.relation.specs.Ring.{after}
use Rattle.models.specs.Recording.{Recording}
use Rattle.models.specs.Graph.{Base, graph}
use Rattle.models.specs.Clause.{Clause, First, tested, number_from}
use Rattle.verdict.specs.Verdict.{Verdict, rule_of, events}

-- The ring that a verdict shows: its events where rule 3 or 5 is broken, and none otherwise.
unfoldable pub ring : Verdict → List ℕ
ring v = elim (eqb (rule_of v) 3 || eqb (rule_of v) 5) [ true ↦ events v | false ↦ [] ]

-- The first n steps of the ring l: each is an event, the one after it, and the number that the two have.
unfoldable pub steps_to : (ℕ → ℕ → ℕ) → List ℕ → ℕ → List (List ℕ)
steps_to number l zero = []
steps_to number l (suc n) = (let a = get_or l n zero in let b = after l n in steps_to number l n ++ ((a ∷ b ∷ number a b ∷ []) ∷ []))

-- All its steps, last to first included.
abbrev pub steps_of : (ℕ → ℕ → ℕ) → List ℕ → List (List ℕ)
steps_of number l = steps_to number l (length l)

-- Lists, one behind the other.
abbrev pub joined : List (List ℕ) → List ℕ
joined [] = []
joined (l ∷ ls) = l ++ joined ls

-- The steps of the ring l, each with the number of the first clause of the list that relates its two events in the execution graph of r.
pub record Explained (cs : List Clause) (r : Recording ℕ) (l : List ℕ) (steps : List (List ℕ)) : Type 0 where
  pub number : ℕ → ℕ → ℕ
  pub first : (k : ℕ) → k < length l → First (graph r) (get_or l k zero) (after l k) cs (number (get_or l k zero) (after l k))
  pub are : steps ≡ steps_of number l

-- The rest says what the parts do. The steps are those of the ring of a verdict, by the tests of the clauses over the base B.
abbrev pub StepsBy : List Clause → Base → Verdict → List (List ℕ) → Type 0
StepsBy cs B v steps = steps ≡ steps_of (number_from 1 (tested nodes B cs)) (ring v)

-- The grids are the clauses of the base B.
pub record Held (cs : List Clause) (B : Base) (grids : List (List (List ℕ))) : Type 0 where
  pub clauses : map edge grids ≡ tested nodes B cs

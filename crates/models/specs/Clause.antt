-- Clauses: the parts of a relation by name, by which a step of a ring is explained. 003, and 02 for x86-TSO, give each relation as a union; where
-- a part has no name of its own, its name is its formula in ASCII: ; is "then", | is union, ? is "optionally", [S] is the identity on the set S,
-- and xe, xi are x external and internal.
use Rattle.std.specs.Prelude.{true, false, List, [], ◌∷◌, map, ℕ, suc}
use Prim.Native.String.{String}
use Rattle.relation.specs.Rel.{Rel, none, either}
use Rattle.models.specs.Graph.{Graph, Base}
use Rattle.models.specs.Term.{Term, ⟦◌⟧, eval}

infix 68 ◌≔◌
pub data Clause : Type 0 where
  ◌≔◌ : String → Term → Clause

abbrev pub name : Clause → String
name (s ≔ t) = s

abbrev pub term : Clause → Term
term (s ≔ t) = t

-- n is the number of the first clause of the list that relates a and b in the graph G, from 1 on.
pub data First {E : Type 0} (G : Graph E) (a b : E) : List Clause → ℕ → Type 0 where
  here : {c : Clause} {cs : List Clause} → ⟦ term c ⟧ G a b → First G a b (c ∷ cs) 1
  later : {c : Clause} {cs : List Clause} {n : ℕ} → ¬ ⟦ term c ⟧ G a b → First G a b cs n → First G a b (c ∷ cs) (suc n)

-- The rest says how the first clause is found by tests, over the list es. The tests of the clauses:
abbrev pub tested : List ℕ → Base → List Clause → List Rel
tested es B cs = map (λ c. eval es (term c) B) cs

-- The number of the first of the relations that has the pair, counted from n on, and 0 where none has it.
unfoldable pub number_from : ℕ → List Rel → ℕ → ℕ → ℕ
number_from n [] a b = 0
number_from n (r ∷ rs) a b = elim (r a b) [ true ↦ n | false ↦ number_from (suc n) rs a b ]

-- The union of the relations.
unfoldable pub unions : List Rel → Rel
unions [] = none
unions (r ∷ rs) = either r (unions rs)

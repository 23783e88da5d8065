-- x86-TSO (02, slip 6), which judges a source recording: the relation of rule 5, in the order of 02's words.
-- Below a relation of whose steps a ring is made are its clauses by name, in the same order.
use Rattle.std.specs.Prelude.{List, [], ◌∷◌, ◌++◌}
use Rattle.models.specs.Recording.{R, W, Fsc}
use Rattle.models.specs.Term.{Term, po, co, rmw, ⟨◌⟩, ⟨codom◌⟩, ◌⨾◌, ◌∪◌, ◌⁻¹, fr, rfₑ}
use Rattle.models.specs.Clause.{Clause, ◌≔◌}

-- preserved program order: "po between reads and writes except from a write to a read"
abbrev pub ppo : Term
ppo = ⟨ R ⟩ ⨾ po ⨾ (⟨ R ⟩ ∪ ⟨ W ⟩) ∪ ⟨ W ⟩ ⨾ po ⨾ ⟨ W ⟩

abbrev pub ppo_clauses : List Clause
ppo_clauses = "[R];po;([R]|[W])" ≔ ⟨ R ⟩ ⨾ po ⨾ (⟨ R ⟩ ∪ ⟨ W ⟩) ∷ "[W];po;[W]" ≔ ⟨ W ⟩ ⨾ po ⨾ ⟨ W ⟩ ∷ []

-- "an SC fence or an event of an rmw pair": its read, in dom(rmw) = codom(rmw⁻¹), or its write, in codom(rmw)
abbrev pub full : Term
full = ⟨ Fsc ⟩ ∪ ⟨codom (rmw ⁻¹) ⟩ ∪ ⟨codom rmw ⟩

-- What has steps: "Fences of modes 1 to 3 have no step here, not even to or from a pair."
abbrev pub node : Term
node = ⟨ R ⟩ ∪ ⟨ W ⟩ ∪ ⟨ Fsc ⟩

-- "po into or out of an SC fence or an event of an rmw pair"
abbrev pub fenced : Term
fenced = node ⨾ po ⨾ full ∪ full ⨾ po ⨾ node

abbrev pub fenced_clauses : List Clause
fenced_clauses = "node;po;full" ≔ node ⨾ po ⨾ full ∷ "full;po;node" ≔ full ⨾ po ⨾ node ∷ []

-- "Rule 5 forbids rings of: [the two above]; rfe, co, fr."
abbrev pub tso : Term
tso = ppo ∪ fenced ∪ rfₑ ∪ co ∪ fr

abbrev pub tso_clauses : List Clause
tso_clauses = ppo_clauses ++ fenced_clauses ++ ("rfe" ≔ rfₑ ∷ "co" ≔ co ∷ "fr" ≔ fr ∷ [])

-- By which clauses a step of a ring is explained, for each model and rule.
use Rattle.std.specs.Prelude.{true, false, List, [], ◌++◌, ℕ, eqb}
use Rattle.models.specs.Clause.{Clause}
use Rattle.models.specs.Imm.{step_clauses, eco_clauses, ar_clauses}
use Rattle.models.specs.Armv8.{sc_per_loc_clauses, ob_clauses}
use Rattle.models.specs.Tso.{tso_clauses}

-- The clauses of the rings of a model, which its rules 3 and 5 show.
pub record Clauses : Type 0 where
  pub rule3 : List Clause
  pub rule5 : List Clause

-- Those of a rule by its number; the other rules show no ring.
unfoldable pub clauses_of : Clauses → ℕ → List Clause
clauses_of C n = elim (eqb n 3) [ true ↦ C.rule3 | false ↦ elim (eqb n 5) [ true ↦ C.rule5 | false ↦ [] ] ]

-- Under IMM's rule 3 each step is of po ∪ sw, but for the one that closes the ring, which may be of eco.
abbrev pub imm_rings : Clauses
imm_rings = record { rule3 = step_clauses ++ eco_clauses; rule5 = ar_clauses }

abbrev pub armv8_rings : Clauses
armv8_rings = record { rule3 = sc_per_loc_clauses; rule5 = ob_clauses }

abbrev pub tso_rings : Clauses
tso_rings = record { rule3 = sc_per_loc_clauses; rule5 = tso_clauses }

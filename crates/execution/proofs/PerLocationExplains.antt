-- Each step of a ring that a verdict shows has a clause, in a model whose rule 3 is SC-per-location (ARMv8, x86-TSO).
use mathlib.Core.Path.{◌≡◌, sym, ap, ◌∙◌}
use mathlib.Core.List.{List}
use Prim.Native.Nat.{ℕ}
use Rattle.relation.specs.Rel.{Rel, nodes}
use Rattle.models.specs.Recording.{Recording}
use Rattle.models.specs.Graph.{base, Within}
use Rattle.models.specs.Term.{Term, eval}
use Rattle.models.specs.Armv8.{sc_per_loc, sc_per_loc_clauses}
use Rattle.models.specs.Rules.{per_location}
use Rattle.models.specs.Clause.{Clause, tested, unions}
use Rattle.models.specs.Why.{Clauses, clauses_of}
use Rattle.models.proofs.ClauseLaws.{sc_per_loc_opened}
use Rattle.verdict.specs.Verdict.{Verdict, rule_of}
use Rattle.verdict.specs.PerLocation.{PerLocation}
use Rattle.clause.specs.Steps.{ring, Explained, StepsBy}
use Rattle.clause.proofs.StepMeaning.{Covers, verdict_explained}

-- cs are the clauses of t, the relation of rule 5.
module _ (r : Recording ℕ) (within : Within nodes r) (t : Term) (cs : List Clause) (opened : eval nodes t (base nodes r) ≡ unions (tested nodes (base nodes r) cs)) where
  abbrev own : Clauses
  own = record { rule3 = sc_per_loc_clauses; rule5 = cs }

  covers : Covers r within sc_per_loc_clauses (eval nodes sc_per_loc (base nodes r))
  covers a b h = sym (ap (λ (s : Rel). s a b) (sc_per_loc_opened nodes (base nodes r))) ∙ h

  pub per_location_explains : (v : Verdict) → PerLocation t (base nodes r) v → (found : List (List ℕ))
      → StepsBy (clauses_of own (rule_of v)) (base nodes r) v found → Explained (clauses_of own (rule_of v)) r (ring v) found
  per_location_explains v w =
      verdict_explained r within own (per_location t) (eval nodes sc_per_loc (base nodes r)) (eval nodes sc_per_loc (base nodes r)) covers covers
      (λ a b h. sym (ap (λ (s : Rel). s a b) opened) ∙ h) v w

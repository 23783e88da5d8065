-- Each step of a ring that an x86-TSO verdict shows has a clause: rule 3's are po-loc, rf, fr and co, rule 5's are those of tso.
use mathlib.Core.List.{List}
use Prim.Native.Nat.{ℕ}
use Rattle.relation.specs.Rel.{nodes}
use Rattle.models.specs.Recording.{Recording}
use Rattle.models.specs.Graph.{base, Within}
use Rattle.models.specs.Tso.{tso, tso_clauses}
use Rattle.models.specs.Why.{clauses_of, tso_rings}
use Rattle.models.proofs.ClauseLaws.{tso_opened}
use Rattle.verdict.specs.Verdict.{Verdict, rule_of}
use Rattle.clause.specs.Steps.{ring, Explained, StepsBy}
use Rattle.execution.proofs.PerLocationExplains.{per_location_explains}
use Rattle.tso.specs.Judged.{Judged}

pub tso_explains : (r : Recording ℕ) → Within nodes r → (v : Verdict) → Judged (base nodes r) v → (found : List (List ℕ))
    → StepsBy (clauses_of tso_rings (rule_of v)) (base nodes r) v found
    → Explained (clauses_of tso_rings (rule_of v)) r (ring v) found
tso_explains r within = per_location_explains r within tso tso_clauses (tso_opened nodes (base nodes r))

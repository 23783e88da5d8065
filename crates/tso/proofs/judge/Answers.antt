-- `judge` meets its contract: its relations are those of the model, rule by rule.
use mathlib.Core.Path.{refl}
use Rattle.relation.specs.Rel.{nodes}
use Rattle.models.specs.Graph.{Base}
use Rattle.models.specs.Tso.{tso, tso_clauses}
use Rattle.models.proofs.ClauseLaws.{tso_opened}
use Rattle.verdict.specs.Base.{base_of}
use Rattle.clause.proofs.StepLaws.{held_union}
use Rattle.tso.proofs.judge.Goals as goal

-- Rules 1 to 4 hold, and rule 5 is of tso.
pub returns : goal.returns
unfolding base_of
returns c =
    let B : Base = base_of c.args.b.now in
    c.acyclicity.ensures _ B _ _ (c.in_ok-tried.ensures c.fr-fr.ensures tso).holds
    (held_union tso_clauses B _ (c.clauses.ensures c.fr-fr.ensures) tso (tso_opened nodes B) _ c.union-tso.ensures) refl

-- `judge` meets its contract: its relations are those of the model, rule by rule.
use mathlib.Core.Path.{refl}
use Rattle.relation.specs.Rel.{nodes}
use Rattle.models.specs.Graph.{Base}
use Rattle.models.specs.Term.{eval, frₑ}
use Rattle.models.specs.Armv8.{ob, ob_clauses}
use Rattle.models.proofs.ClauseLaws.{ob_opened}
use Rattle.verdict.specs.Base.{base_of}
use Rattle.verdict.proofs.TermLaws.{holds, given, is_minus}
use Rattle.clause.proofs.StepLaws.{held_union}
use Rattle.armv8.proofs.judge.Goals as goal

-- Rules 1 to 4 hold, and rule 5 is of ob.
pub returns : goal.returns
unfolding eval base_of
returns c =
    let B : Base = base_of c.args.b.now in
    let fre = holds B frₑ (is_minus c.minus.ensures (given c.fr-fr.ensures) (given refl)) in
    c.acyclicity.ensures _ B _ _ (c.in_ok-tried.ensures c.fr-fr.ensures ob).holds
    (held_union ob_clauses B _ (c.clauses.ensures fre) ob (ob_opened nodes B) _ c.union-ob.ensures) refl

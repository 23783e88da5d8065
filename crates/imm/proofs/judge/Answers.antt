-- `judge` meets its contract: its relations are those of the model, rule by rule, and a broken rule 3 has a ring.
use mathlib.Core.Path.{◌≡◌, refl, ap, ap₂, subst, ◌∙◌}
use Rattle.relation.specs.Rel.{either, diagonal, nodes}
use Rattle.relation.specs.Bits.{bit, edge}
use Rattle.relation.proofs.GridLaws.{returning_by}
use Rattle.relation.proofs.Walks.{Inside, edge_inside}
use Rattle.models.specs.Graph.{Base}
use Rattle.models.specs.Term.{eval, frₑ}
use Rattle.models.specs.Imm.{hb, eco, ar, ar_clauses}
use Rattle.models.specs.Rules.{IMM}
use Rattle.models.proofs.ClauseLaws.{ar_opened}
use Rattle.verdict.specs.Base.{base_of}
use Rattle.verdict.specs.Shown.{Tried}
use Rattle.verdict.proofs.TermLaws.{holds, given, is_minus, is_then, is_opt, is_plus}
use Rattle.clause.proofs.StepLaws.{held_union}
use Rattle.imm.specs.Judged.{apart, steps, closing}
use Rattle.imm.proofs.Around.{apart_is, around}
use Rattle.std.proofs.lemmas.Result.{err_from_is_err_and}
use borrow.Author.Rules.{rules}
use Rattle.imm.proofs.judge.Goals.{After-coherence, After-atomicity}
use Rattle.imm.proofs.judge.Goals as goal

-- Rule 3, where rules 1 and 2 hold.
steps_is : (c : After-coherence) → edge c.steps-steps.result ≡ steps (base_of c.args.b.now)
unfolding steps
steps_is c = c.steps-steps.ensures

inside : (c : After-coherence) → Inside (steps (base_of c.args.b.now))
inside c = subst Inside (steps_is c) (edge_inside _ (search rules))

hb_is : (c : After-coherence) → edge c.closure-hb.result ≡ eval nodes hb (base_of c.args.b.now)
unfolding steps
hb_is c = holds (base_of c.args.b.now) hb (is_plus c.closure-hb.ensures (given (steps_is c)))

eco_is : (c : After-coherence) → edge c.eco-eco.result ≡ eval nodes eco (base_of c.args.b.now)
eco_is c = c.eco-eco.ensures c.fr-fr.ensures

inside_eco : (c : After-coherence) → Inside (edge c.eco-eco.result)
inside_eco c = edge_inside _ (search rules)

returning_is : (c : After-coherence) → bit c.returning-returning.result ≡ diagonal (eval nodes IMM.coherent (base_of c.args.b.now))
unfolding base_of
returning_is c =
    c.returning-returning.ensures
    ∙ returning_by _ _ _ c.inverse.ensures
    ∙ ap diagonal
    (holds (base_of c.args.b.now) IMM.coherent
    (is_then refl (given (hb_is c)) (is_opt c.optional.ensures refl (given (eco_is c)))))

closing_is : (c : After-coherence) → edge c.or-closing.result ≡ closing (base_of c.args.b.now)
unfolding closing
closing_is c =
    let eco_apart = apart_is _ _ _ _ (inside_eco c) c.all.ensures c.identity.ensures c.minus.ensures in
    c.or-closing.ensures ∙ ap₂ either (steps_is c) (eco_apart ∙ ap apart (eco_is c))

third : (c : After-coherence) → let B = base_of c.args.b.now in Tried 3 (steps B) (closing B) IMM B c.coherence.result
third c =
    let B : Base = base_of c.args.b.now in
    c.coherence.ensures IMM B (steps B) (closing B) (c.in_ok-completeness.ensures IMM (steps B) (closing B)).holds
    (returning_is c) (steps_is c) (closing_is c) (around _ (inside c))

-- Rule 4, where rule 3 holds too.
fourth : (c : After-atomicity) → (let B = base_of c.args.b.now in Tried 3 (steps B) (closing B) IMM B c.coherence.result → Tried 4 (steps B) (closing B) IMM B c.atomicity.result)
unfolding eval base_of
fourth c w =
    let B : Base = base_of c.args.b.now in
    let fre = holds B frₑ (is_minus c.minus-2.ensures (given c.fr-fr.ensures) (given refl)) in
    c.atomicity.ensures IMM B (steps B) (closing B) (rw c.in_ok-coherence.was at w.holds) refl fre c.coe.ensures

pub returns-in_err-completeness : goal.returns-in_err-completeness
returns-in_err-completeness c =
    let p = err_from_is_err_and c.from_residual.result c.from_residual.ensures.1 in
    rw (p.1, p.2) (c.in_err-completeness.ensures IMM _ _).broken

pub returns-in_err-coherence : goal.returns-in_err-coherence
returns-in_err-coherence c =
    let p = err_from_is_err_and c.from_residual-in_err-coherence.result c.from_residual-in_err-coherence.ensures.1 in
    rw (p.1, p.2) (rw c.in_err-coherence.was at (third (goal.at.returns-in_err-coherence c).After-coherence).broken)

pub returns-in_err-atomicity : goal.returns-in_err-atomicity
returns-in_err-atomicity c =
    let p = err_from_is_err_and c.from_residual-in_err-atomicity.result c.from_residual-in_err-atomicity.ensures.1 in
    let at = goal.at.returns-in_err-atomicity c in
    rw (p.1, p.2) (rw c.in_err-atomicity.was at (fourth at.After-atomicity (third at.After-coherence)).broken)

-- Rule 5.
pub returns : goal.returns
unfolding eval base_of
returns c =
    let at = goal.at.returns c in
    let B : Base = base_of c.args.b.now in
    let held = c.clauses.ensures (hb_is at.After-coherence) (eco_is at.After-coherence) in
    let rules_1_to_4 = rw c.in_ok-atomicity.was at (fourth at.After-atomicity (third at.After-coherence)).holds in
    c.acyclicity.ensures IMM B (steps B) (closing B) rules_1_to_4 (held_union ar_clauses B _ held ar (ar_opened nodes B) _ c.union-ar.ensures) refl

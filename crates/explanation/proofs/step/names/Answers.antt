-- `step::names` meets its contract, by the rule.
use mathlib.Core.Path.{sym, subst}
use Prim.Native.Nat.{ℕ}
use native.Mathlib.Omega.{arith}
use Rattle.models.specs.Why.{clauses_of}
use Rattle.verdicts.specs.ByModel.{clauses_for}
use Rattle.explanation.specs.StepLine.{Names}
use Rattle.explanation.proofs.NameLaws.{no_names}
use Rattle.explanation.proofs.step.names.Goals as goal

pub returns-in-3 : goal.returns-in-3
unfolding clauses_of
returns-in-3 c =
    subst (λ (r : ℕ). Names (clauses_of (clauses_for c.args.model) r) c.coherence_names.result.now) (sym c.in-3.is) c.coherence_names.ensures

pub returns-in-5 : goal.returns-in-5
unfolding clauses_of
returns-in-5 c = subst (λ (r : ℕ). Names (clauses_of (clauses_for c.args.model) r) c.order_names.result.now) (sym c.in-5.is) c.order_names.ensures

pub returns-in_default : goal.returns-in_default
returns-in_default c = no_names (clauses_for c.args.model) c.args.rule (λ e. omega arith) (λ e. omega arith)

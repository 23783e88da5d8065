-- `number` meets its contract: n of the clauses are passed.
use mathlib.Core.Path.{sym, ◌∙◌}
use Rattle.clause.proofs.StepLaws.{passed_more, passed_here, passed_all}
use Rattle.clause.proofs.number.Goals as goal

pub returns-then-holds : goal.returns-then-holds
returns-then-holds c =
    passed_here _ _ _ _ c.loop-n-test.true c.loop-n.invariant (sym c.holds.ensures ∙ c.if-holds.true)

pub loop-n-preserved : goal.loop-n-preserved
loop-n-preserved c =
    passed_more _ _ _ _ c.loop-n-test.true c.loop-n.invariant (sym c.holds.ensures ∙ c.if-holds.false)

pub returns : goal.returns
returns c = passed_all _ _ _ _ c.loop-n-test.false c.loop-n.invariant

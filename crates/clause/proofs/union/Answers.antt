-- `union` meets its contract: the clauses before the index are joined.
use Rattle.clause.proofs.StepLaws.{joined_none, joined_more, joined_all}
use Rattle.clause.proofs.union.Goals as goal

pub loop-clause-init : goal.loop-clause-init
loop-clause-init c = joined_none _ _ c.empty-all.ensures

pub loop-clause-preserved : goal.loop-clause-preserved
loop-clause-preserved c = joined_more _ _ _ _ c.loop-clause-test.true c.loop-clause.invariant c.or-more.ensures

pub returns : goal.returns
returns c = joined_all _ _ _ c.loop-clause-test.false c.loop-clause.invariant

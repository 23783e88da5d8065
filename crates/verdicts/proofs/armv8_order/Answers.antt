-- `armv8_order` meets its contract: the clauses are those of the relation.
use Rattle.verdicts.proofs.armv8_order.Goals as goal

pub returns : goal.returns
returns c = c.explained.ensures _ _ c.order.ensures

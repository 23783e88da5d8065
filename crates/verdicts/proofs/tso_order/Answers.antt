-- `tso_order` meets its contract: the clauses are those of the relation.
use Rattle.verdicts.proofs.tso_order.Goals as goal

pub returns : goal.returns
returns c = c.explained.ensures _ _ c.order.ensures

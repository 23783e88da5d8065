-- `per_location` meets its contract: the clauses are those of the relation.
use Rattle.verdicts.proofs.per_location.Goals as goal

pub returns : goal.returns
returns c = c.explained.ensures _ _ c.per_location.ensures

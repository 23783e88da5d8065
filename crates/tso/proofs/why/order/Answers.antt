-- `why::order` meets its contract: the clauses of tso, by fr.
use Rattle.tso.proofs.why.order.Goals as goal

pub returns : goal.returns
returns c = c.clauses.ensures c.fr.ensures

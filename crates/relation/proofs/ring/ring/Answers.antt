-- `ring::ring` meets its contract: no way is closed, or the shortest one comes round.
use Rattle.relation.proofs.Walks.{edge_inside}
use Rattle.relation.proofs.RingLaws.{ring_none, ring_some}
use borrow.Author.Rules.{rules}
use Rattle.relation.proofs.ring.ring.Goals as goal

pub returns-in_default-clause-ring : goal.returns-in_default-clause-ring
returns-in_default-clause-ring c =
    ring_none (edge_inside _ (search rules)) (edge_inside _ (search rules)) c.in_default.ensures.none c.new.ensures

pub returns-clause-ring : goal.returns-clause-ring
returns-clause-ring c =
    ring_some (edge_inside _ (search rules)) (edge_inside _ (search rules)) c.in-Some.ensures.found c.way.ensures c.turned.ensures

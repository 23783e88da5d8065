-- `ring::steps_back` meets its contract: each event but the last leads to the one after it.
use Rattle.relation.specs.Bits.{edge}
use Rattle.relation.proofs.RingLaws.{Back}
use Rattle.relation.proofs.ring.steps_back.Given as goal

abbrev pub invariant-loop-k : goal.invariant-loop-k
invariant-loop-k l = Back (edge l.h) (edge l.b) l.n l.x l.k l.y l.events.items

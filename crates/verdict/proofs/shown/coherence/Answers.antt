-- `shown::coherence` meets its contract: a ring where an event is forbidden, else none is.
use mathlib.Core.Path.{ap}
use Rattle.models.specs.Rules.{failures}
use Rattle.models.proofs.FirstLaws.{at}
use Rattle.verdict.specs.Verdict.{number}
use Rattle.verdict.proofs.ShownLaws.{event_none, event_found, ring_same, next_rule, tried_broken, tried_holds, shown_3}
use Rattle.verdict.proofs.shown.coherence.Goals as goal

pub returns-then-is_empty : goal.returns-then-is_empty
unfolding failures at
returns-then-is_empty c =
    λ M B s e hold is p q around. tried_holds (next_rule M B 2 hold (event_none _ c.is_empty.ensures is c.if-is_empty.true))

pub returns : goal.returns
returns c =
    λ M B s e hold is p q around. let found = c.broken_ring.ensures in
    tried_broken
    (shown_3 M B s e _ hold (event_found _ c.is_empty.ensures is c.if-is_empty.false) around (ap number found.rule) found.bounded (ring_same p q found.ring))

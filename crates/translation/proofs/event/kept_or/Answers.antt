-- `event::kept_or` meets its contract.
use native.Mathlib.Omega.{arith}
use Rattle.translation.proofs.SourceFacts.{sized}
use Rattle.translation.proofs.EventLaws.{fence_has, event_keeps}
use Rattle.translation.proofs.event.kept_or.Goals as goal

pub events-requires : goal.events-requires
events-requires c = sized _ c.requires.0

pub returns-then-events-e : goal.returns-then-events-e
returns-then-events-e c = (fence_has _ _ _ _ _ c.events.ensures.0 c.if-events-e.true, c.requires.3)

pub event_byte-requires : goal.event_byte-requires
event_byte-requires c =
    (sized _ c.requires.0, c.requires.1, omega (arith, c.if-events-e.false, c.events.ensures.0), c.requires.2)

pub returns : goal.returns
returns c =
    (event_keeps _ _ _ _ _ _ c.events.ensures.0 c.if-events-e.false c.event_byte.ensures.0, c.event_byte.ensures.1)

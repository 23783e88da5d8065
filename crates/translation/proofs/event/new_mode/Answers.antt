-- `event::new_mode` meets its contract, by the class and the mode.
use native.Mathlib.Omega.{arith}
use Rattle.translation.proofs.SourceFacts.{sized}
use Rattle.translation.proofs.EventLaws.{fence_has, event_keeps, mode_stays, mode_five, mode_six}
use borrow.Author.Rules.{rules}
use Rattle.translation.proofs.event.new_mode.Goals as goal

pub events-requires : goal.events-requires
events-requires c = sized _ c.requires.0

pub returns-then-events-e : goal.returns-then-events-e
returns-then-events-e c = (fence_has _ _ _ _ _ c.events.ensures.0 c.if-events-e.true, search rules)

pub event_byte-mode-requires : goal.event_byte-mode-requires
event_byte-mode-requires c =
    (sized _ c.requires.0, c.requires.1, omega (arith, c.if-events-e.false, c.events.ensures.0), search rules)

pub event_byte-requires : goal.event_byte-requires
event_byte-requires c =
    (sized _ c.requires.0, c.requires.1, omega (arith, c.if-events-e.false, c.events.ensures.0), search rules)

pub returns-then-event_byte-ne3 : goal.returns-then-event_byte-ne3
returns-then-event_byte-ne3 c =
    let byte = c.event_byte-mode.ensures in
    ((event_keeps _ _ _ _ _ _ c.events.ensures.0 c.if-events-e.false) (mode_stays _ _ _ _ byte.0 c.event_byte.ensures.0 c.if-event_byte-ne3.true), byte.1)

pub returns-then-mode-eq1 : goal.returns-then-mode-eq1
returns-then-mode-eq1 c =
    ((event_keeps _ _ _ _ _ 5 c.events.ensures.0 c.if-events-e.false) (mode_five _ _ _ _ c.event_byte-mode.ensures.0 c.event_byte.ensures.0 c.if-event_byte-ne3.false c.if-mode-eq1.true), search rules)

pub returns : goal.returns
returns c =
    ((event_keeps _ _ _ _ _ 6 c.events.ensures.0 c.if-events-e.false) (mode_six _ _ _ _ c.event_byte-mode.ensures.0 c.event_byte.ensures.0 c.if-event_byte-ne3.false c.if-mode-eq1.false), search rules)

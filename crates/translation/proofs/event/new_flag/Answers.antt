-- `event::new_flag` meets its contract.
use native.Mathlib.Omega.{arith}
use Rattle.translation.proofs.SourceFacts.{sized}
use Rattle.translation.proofs.EventLaws.{fence_has, event_keeps, flag_falls, flag_stays}
use borrow.Author.Rules.{rules}
use Rattle.translation.proofs.event.new_flag.Goals as goal

pub events-requires : goal.events-requires
events-requires c = sized _ c.requires.0

pub returns-then-events-e : goal.returns-then-events-e
returns-then-events-e c = (fence_has _ _ _ _ _ c.events.ensures.0 c.if-events-e.true, search rules)

pub is_flagged-requires : goal.is_flagged-requires
is_flagged-requires c = sized _ c.requires.0

pub returns-then-is_flagged : goal.returns-then-is_flagged
returns-then-is_flagged c = (
  event_keeps _ _ _ _ _ 0 c.events.ensures.0 c.if-events-e.false
      (flag_falls _ c.requires.0 _ _ c.is_flagged.ensures c.if-is_flagged.true),
  search rules,
)

pub event_byte-requires : goal.event_byte-requires
event_byte-requires c =
    (sized _ c.requires.0, c.requires.1, omega (arith, c.if-events-e.false, c.events.ensures.0), search rules)

pub returns : goal.returns
returns c = (
  event_keeps _ _ _ _ _ _ c.events.ensures.0 c.if-events-e.false
      (flag_stays _ c.requires.0 _ _ _ c.is_flagged.ensures c.if-is_flagged.false c.event_byte.ensures.0),
  c.event_byte.ensures.1,
)

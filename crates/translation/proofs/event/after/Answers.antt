-- `event::after` meets its contract: after an inserted fence, after a strong write, after any other event.
use native.Mathlib.Omega.{arith}
use Rattle.translation.proofs.SourceFacts.{sized}
use Rattle.translation.proofs.EventLaws.{some_below, some_is, fenced_event, after_fence, after_write, after_other}
use borrow.Author.Rules.{rules}
use Rattle.translation.proofs.event.after.Goals as goal

pub events-n-requires : goal.events-n-requires
events-n-requires c = sized _ c.requires.0

pub unwrap-requires : goal.unwrap-requires
unwrap-requires c =
    let w = fenced_event _ c.requires.0 _ c.requires.1 (omega (arith, c.if-n-e.true, c.events-n.ensures.0)) in
    some_below _ c.fenced.ensures.value (omega (arith, w))

pub event_byte-requires : goal.event_byte-requires
event_byte-requires c =
    let w = fenced_event _ c.requires.0 _ c.requires.1 (omega (arith, c.if-n-e.true, c.events-n.ensures.0)) in
    let is = some_is 64 c.unwrap.ensures c.fenced.ensures.value in
    (sized _ c.requires.0, omega (arith, w, is), omega (arith, w, is), search rules)

pub returns-then-n-e : goal.returns-then-n-e
returns-then-n-e c =
    after_fence _ c.requires.0 _ _ _ c.requires.1 (omega (arith, c.if-n-e.true, c.events-n.ensures.0))
    (some_is 64 c.unwrap.ensures c.fenced.ensures.value) c.event_byte.ensures.0

pub is_flagged-requires : goal.is_flagged-requires
is_flagged-requires c = sized _ c.requires.0

pub returns-then-is_flagged : goal.returns-then-is_flagged
returns-then-is_flagged c = after_write _ c.requires.0 _ _ _ c.is_flagged.ensures c.if-is_flagged.true c.inserted.ensures

pub event_byte-requires-2 : goal.event_byte-requires-2
event_byte-requires-2 c =
    (sized _ c.requires.0, c.requires.1.low, omega (arith, c.if-n-e.false, c.events-n.ensures.0), search rules)

pub returns : goal.returns
returns c =
    after_other _ c.requires.0 _ _ _ c.requires.1.low (omega (arith, c.if-n-e.false, c.events-n.ensures.0))
    c.is_flagged.ensures c.if-is_flagged.false c.event_byte-2.ensures.0

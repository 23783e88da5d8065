-- `graph::program_order` meets its contract: from the end of the line on, the row of each event.
use mathlib.Core.Path.{refl, ap, ◌∙◌}
use Prim.Native.Nat.{ℕ}
use Rattle.std.proofs.Common.{Iter}
use Rattle.std.specs.declared.iter.Rev.{Rev}
use Rattle.std.specs.Iterator.Adapters.{rev_source}
use Rattle.std.specs.Slice.Iter.{iter_rest}
use native.Mathlib.Omega.{arith}
use Rattle.reading.proofs.ThreadLaws.{backward_start, placed, backward_keep, backward_with, backward_all}
use borrow.Author.Rules.{rules}
use Rattle.reading.proofs.graph.program_order.Goals as goal

pub loop-event-init : goal.loop-event-init
loop-event-init c =
    let pre = c.requires in
    let all = ap (λ (s : Rev (Iter ℕ)). iter_rest (rev_source s)) c.into_iter-event-iterator.ensures.into_iter_gives
    ∙ ap iter_rest c.rev-event-items.ensures.source ∙ c.iter.ensures.rest ∙ c.as_slice.ensures.value in
    (tt, tt, backward_start _ pre.0 pre.1 c.line-line.ensures all (search rules) c.initial.ensures c.recorded.ensures c.product-h.ensures)

pub event_byte-b-requires : goal.event_byte-b-requires
event_byte-b-requires c =
    let inv = c.loop-event.invariant.2 in
    let event = placed inv _ _ c.in-Some.ensures.steps refl in
    (inv.sized, event.low, event.high, omega arith)

pub bounds-h-b : goal.bounds-h-b
bounds-h-b c = let event = placed c.loop-event.invariant.2 _ _ c.in-Some.ensures.steps c.event_byte-b.ensures.0 in omega arith

pub with-requires : goal.with-requires
with-requires c = let event = placed c.loop-event.invariant.2 _ _ c.in-Some.ensures.steps c.event_byte-b.ensures.0 in omega arith

pub bounds-h-e : goal.bounds-h-e
bounds-h-e c = let event = placed c.loop-event.invariant.2 _ _ c.in-Some.ensures.steps c.event_byte-b.ensures.0 in omega arith

pub loop-event-preserved-then-b-ne0 : goal.loop-event-preserved-then-b-ne0
loop-event-preserved-then-b-ne0 c =
    let inv = c.loop-event.invariant.2 in
    let event = placed inv _ _ c.in-Some.ensures.steps c.event_byte-b.ensures.0 in
    (tt, tt, backward_with inv _ _ c.in-Some.ensures.steps event c.if-b-ne0.true _ c.with.ensures)

pub loop-event-preserved : goal.loop-event-preserved
loop-event-preserved c =
    let inv = c.loop-event.invariant.2 in
    let event = placed inv _ _ c.in-Some.ensures.steps c.event_byte-b.ensures.0 in
    (tt, tt, backward_keep inv _ _ c.in-Some.ensures.steps event c.if-b-ne0.false)

pub returns : goal.returns
returns c = backward_all c.in-None.ensures.steps.0 c.loop-event.invariant.2

-- `write::write_events` meets its contract, event by event.
use mathlib.Core.Path.{ap, ap₂, ◌∙◌}
use native.Mathlib.Omega.{arith}
use lib.ListN.{length}
use Rattle.translation.specs.Encode.{chained}
use Rattle.translation.proofs.Bounds.{most_events_lem}
use Rattle.translation.proofs.EncodeLaws.{event_size_lem}
use Rattle.translation.proofs.LinkRows.{event_counted, ends_few}
use Rattle.translation.proofs.WriteLaws.{events_none, event_room, event_written, written_all}
use Rattle.translation.proofs.write.write_events.Goals as goal

pub loop-e-init : goal.loop-e-init
loop-e-init c = let pre = c.requires in (omega arith, events_none pre.0 pre.2 pre.3)

pub bounds-ends-e : goal.bounds-ends-e
bounds-ends-e c = omega (arith, c.loop-e-test.true, c.requires.2, most_events_lem _ c.requires.0)

pub record-record-requires : goal.record-record-requires
record-record-requires c =
    let w = c.loop-e.invariant.1.counted in
    let pre = c.requires in
    (pre.0, event_counted _ _ _ _ w c.loop-e-test.true, omega (arith, c.chained.ensures.1, ends_few _ _ pre.0 _ _ pre.1 c.loop-e-test.true), c.chained.ensures.0 ∙ ap₂ chained (pre.1.upto _ c.loop-e-test.true) w.same)

pub overflow_mul-e : goal.overflow_mul-e
overflow_mul-e c = omega (arith, c.loop-e-test.true, c.requires.2, most_events_lem _ c.requires.0)

pub put-requires : goal.put-requires
put-requires c =
    let size = ap length c.record-record.ensures ∙ event_size_lem _ _ in
    omega (arith, event_room c.loop-e.invariant.1 c.loop-e-test.true, size)

pub overflow_step-e : goal.overflow_step-e
overflow_step-e c = omega (arith, c.loop-e-test.true, c.requires.2, most_events_lem _ c.requires.0)

pub loop-e-preserved : goal.loop-e-preserved
loop-e-preserved c = (
  omega arith,
  event_written c.loop-e.invariant.1 c.loop-e-test.true (c.requires.1.upto _ c.loop-e-test.true) c.record-record.ensures c.put.ensures,
)

pub returns : goal.returns
returns c = written_all c.loop-e.invariant.1 (omega arith)

pub returns-2 : goal.returns-2
returns-2 c =
    written_all
    (event_written c.loop-e.invariant.1 c.loop-e-test.true (c.requires.1.upto _ c.loop-e-test.true) c.record-record.ensures c.put.ensures)
    (omega (arith, c.loop-e-test.true, c.if-e-n.false))

-- `write::write_links` meets its contract, event by event.
use native.Mathlib.Omega.{arith}
use Rattle.translation.proofs.Bounds.{most_events_lem}
use Rattle.translation.proofs.LinkRows.{event_counted}
use Rattle.translation.proofs.WriteLaws.{links_none, links_room, links_written, written_all}
use Rattle.translation.proofs.write.write_links.Goals as goal

pub loop-b-init : goal.loop-b-init
loop-b-init c = let pre = c.requires in (omega arith, links_none pre.1.source pre.2 pre.3)

pub bounds-ends-b : goal.bounds-ends-b
bounds-ends-b c = omega (arith, c.loop-b-test.true, c.requires.2, most_events_lem _ c.requires.1.source)

pub write_into-m-requires : goal.write_into-m-requires
write_into-m-requires c =
    let w = c.loop-b.invariant.1.counted in
    let pre = c.requires in
    (pre.0.upto _ c.loop-b-test.true, pre.1, event_counted _ _ _ _ w c.loop-b-test.true, w.same, links_room c.loop-b.invariant.1 c.loop-b-test.true)

pub overflow_step-b : goal.overflow_step-b
overflow_step-b c = omega (arith, c.loop-b-test.true, c.requires.2, most_events_lem _ c.requires.1.source)

pub loop-b-preserved : goal.loop-b-preserved
loop-b-preserved c =
    let made = c.write_into-m.ensures in (omega arith, links_written c.loop-b.invariant.1 c.loop-b-test.true made.0 made.1)

pub returns : goal.returns
returns c = written_all c.loop-b.invariant.1 (omega arith)

pub returns-2 : goal.returns-2
returns-2 c =
    let made = c.write_into-m.ensures in
    written_all (links_written c.loop-b.invariant.1 c.loop-b-test.true made.0 made.1) (omega (arith, c.loop-b-test.true, c.if-b-n.false))

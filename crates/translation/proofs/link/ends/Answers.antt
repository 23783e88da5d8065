-- `link::ends` meets its contract, event by event.
use native.Mathlib.Omega.{arith}
use Rattle.translation.proofs.Bounds.{most_events_lem}
use Rattle.translation.proofs.LinkRows.{ending_start, ending_more, ending_all, event_counted}
use Rattle.translation.proofs.link.ends.Goals as goal

pub loop-b-init : goal.loop-b-init
loop-b-init c = let pre = c.requires in ending_start _ _ pre.0.source pre.1

pub links_up_to-m-requires : goal.links_up_to-m-requires
links_up_to-m-requires c =
    let w = c.loop-b.invariant.counted in (c.requires.0, event_counted _ _ _ _ w (omega (arith, c.loop-b-test.true)), w.same)

pub bounds-at-b : goal.bounds-at-b
bounds-at-b c = omega (arith, c.loop-b-test.true, c.requires.1, most_events_lem _ c.requires.0.source)

pub overflow_step-b : goal.overflow_step-b
overflow_step-b c = omega (arith, c.loop-b-test.true, c.requires.1, most_events_lem _ c.requires.0.source)

pub loop-b-preserved : goal.loop-b-preserved
loop-b-preserved c =
    ending_more _ _ _ _ _ _ c.loop-b.invariant (omega (arith, c.loop-b-test.true, c.requires.1, most_events_lem _ c.requires.0.source))
    c.links_up_to-m.ensures.0

pub returns : goal.returns
returns c = ending_all _ _ _ _ _ c.loop-b.invariant (omega (arith, c.loop-b-test.false))

pub returns-2 : goal.returns-2
returns-2 c =
    let all = ending_more _ _ _ _ _ _ c.loop-b.invariant (omega (arith, c.loop-b-test.true, c.requires.1, most_events_lem _ c.requires.0.source))
    c.links_up_to-m.ensures.0 in
    ending_all _ _ _ _ _ all (omega arith)

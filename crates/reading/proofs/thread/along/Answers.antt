-- `thread::along` meets its contract: what is in the line and what is left of the chain are all.
use Rattle.reading.proofs.ThreadLaws.{partway_start, partway_more}
use Rattle.reading.proofs.thread.along.Goals as goal

pub loop-cursor-init : goal.loop-cursor-init
loop-cursor-init c =
    let pre = c.requires in (pre.0, partway_start _ pre.0 pre.1 _ _ _ pre.2 pre.3 c.start-cursor.ensures.0)

pub loop-cursor-preserved : goal.loop-cursor-preserved
loop-cursor-preserved c =
    let inv = c.loop-cursor.invariant in
    (inv.0, partway_more _ _ _ _ inv.1 c.loop-cursor-test.true _ c.moved-cursor.ensures.0 _ c.push.ensures.items)

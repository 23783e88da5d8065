-- `link::links_up_to` meets its contract, type by type.
use native.Mathlib.Omega.{arith}
use Rattle.translation.proofs.LinkRows.{links_start, links_more, links_few, links_all}
use Rattle.translation.proofs.link.links_up_to.Goals as goal

pub loop-row-init : goal.loop-row-init
loop-row-init c = let pre = c.requires in links_start _ _ pre.0.source _ pre.2

pub overflow_add-m : goal.overflow_add-m
overflow_add-m c =
    let more = links_more _ _ _ _ _ _ c.loop-row.invariant c.loop-row-test.true (c.rows-row-items.ensures.row _ c.loop-row-test.true) c.size-m.ensures in
    omega (arith, links_few _ _ _ _ more (omega (arith, c.loop-row-test.true)))

pub loop-row-preserved : goal.loop-row-preserved
loop-row-preserved c =
    links_more _ _ _ _ _ _ c.loop-row.invariant c.loop-row-test.true (c.rows-row-items.ensures.row _ c.loop-row-test.true) c.size-m.ensures

pub returns : goal.returns
returns c = links_all _ _ _ _ c.loop-row.invariant (omega arith)

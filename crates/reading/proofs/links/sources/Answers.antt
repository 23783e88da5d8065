-- `links::sources` meets its contract: those taken and those left are all.
use mathlib.Core.Path.{◌∙◌}
use native.Mathlib.Omega.{arith}
use Rattle.reading.proofs.LinkLaws.{readable_le, readable_lt, all_within, ahead_start, ahead_here, ahead_on, taken_start, taken_with, taken_keep, taken_done}
use Rattle.reading.proofs.links.sources.Goals as goal

pub into-m-items-requires : goal.into-m-items-requires
into-m-items-requires c = let pre = c.requires in (pre.0, pre.1, pre.2, all_within _ _ pre.3)

pub loop-m-init : goal.loop-m-init
loop-m-init c =
    let pre = c.requires in
    let all = c.into_iter-m-iterator.ensures.into_iter_gives ∙ c.into-m-items.ensures in
    (ahead_start pre.0 pre.1 pre.2 pre.3 all, taken_start c.none-row.ensures all)

pub link_byte-requires : goal.link_byte-requires
link_byte-requires c =
    let steps = c.in-Some.ensures.steps in
    let ahead = c.loop-m.invariant.0 in
    (ahead.sized, steps.1, readable_le _ _ (ahead_here ahead steps.0), omega arith)

pub link_byte-requires-then-link_byte-t : goal.link_byte-requires-then-link_byte-t
link_byte-requires-then-link_byte-t c =
    let steps = c.in-Some.ensures.steps in
    let ahead = c.loop-m.invariant.0 in
    (ahead.sized, steps.1, readable_le _ _ (ahead_here ahead steps.0), omega arith)

pub with-more-requires : goal.with-more-requires
with-more-requires c = omega (arith, readable_lt _ _ (ahead_here c.loop-m.invariant.0 c.in-Some.ensures.steps.0), c.link_byte-then-link_byte-t.ensures.0)

pub loop-m-preserved-then-link_byte-t : goal.loop-m-preserved-then-link_byte-t
loop-m-preserved-then-link_byte-t c =
    let inv = c.loop-m.invariant in
    let steps = c.in-Some.ensures.steps in
    (ahead_on inv.0 steps.0, taken_with inv.1 steps.0 c.link_byte.ensures.0 c.if-link_byte-t.true c.link_byte-then-link_byte-t.ensures.0 c.with-more.ensures)

pub loop-m-preserved : goal.loop-m-preserved
loop-m-preserved c =
    let inv = c.loop-m.invariant in
    let steps = c.in-Some.ensures.steps in
    (ahead_on inv.0 steps.0, taken_keep inv.1 steps.0 c.link_byte.ensures.0 c.if-link_byte-t.false)

pub returns : goal.returns
returns c = let inv = c.loop-m.invariant in taken_done inv.1 c.in-None.ensures.steps.0.0 inv.0.low inv.0.high

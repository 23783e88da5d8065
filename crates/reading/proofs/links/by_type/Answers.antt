-- `links::by_type` meets its contract: those sorted and those left are all.
use mathlib.Core.Path.{◌∙◌}
use native.Mathlib.Omega.{arith}
use Rattle.reading.proofs.LinkLaws.{readable_le, readable_lt, all_within, ahead_start, ahead_here, ahead_on, sorted_start, sorted_with, sorted_keep, sorted_done}
use Rattle.reading.proofs.links.by_type.Goals as goal

pub into-m-items-requires : goal.into-m-items-requires
into-m-items-requires c = let pre = c.requires in (pre.0, pre.1, pre.2, all_within _ _ pre.3)

pub loop-m-init : goal.loop-m-init
loop-m-init c =
    let pre = c.requires in
    let all = c.into_iter-m-iterator.ensures.into_iter_gives ∙ c.into-m-items.ensures in
    (ahead_start pre.0 pre.1 pre.2 pre.3 all, sorted_start _ c.none-rows.ensures all)

pub link_byte-t-requires : goal.link_byte-t-requires
link_byte-t-requires c =
    let steps = c.in-Some.ensures.steps in
    let ahead = c.loop-m.invariant.0 in
    (ahead.sized, steps.1, readable_le _ _ (ahead_here ahead steps.0), omega arith)

pub link_byte-requires : goal.link_byte-requires
link_byte-requires c =
    let steps = c.in-Some.ensures.steps in
    let ahead = c.loop-m.invariant.0 in
    (ahead.sized, steps.1, readable_le _ _ (ahead_here ahead steps.0), omega arith)

pub with-requires : goal.with-requires
with-requires c = omega (arith, readable_lt _ _ (ahead_here c.loop-m.invariant.0 c.in-Some.ensures.steps.0), c.link_byte.ensures.0)

pub loop-m-preserved-then-t-lt8 : goal.loop-m-preserved-then-t-lt8
loop-m-preserved-then-t-lt8 c =
    let inv = c.loop-m.invariant in
    let steps = c.in-Some.ensures.steps in
    (ahead_on inv.0 steps.0, sorted_with inv.1 steps.0 c.link_byte-t.ensures.0 _ c.if-t-lt8.true c.link_byte.ensures.0 c.with.ensures)

pub loop-m-preserved : goal.loop-m-preserved
loop-m-preserved c =
    let inv = c.loop-m.invariant in
    let steps = c.in-Some.ensures.steps in
    (ahead_on inv.0 steps.0, sorted_keep inv.1 steps.0 c.link_byte-t.ensures.0 c.if-t-lt8.false)

pub returns : goal.returns
returns c = let inv = c.loop-m.invariant in sorted_done inv.1 c.in-None.ensures.steps.0.0 inv.0.low inv.0.high

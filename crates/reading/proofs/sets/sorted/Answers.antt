-- `sets::sorted` meets its contract, member by member.
use mathlib.Core.Path.{ap}
use Rattle.relation.specs.Rel.{members}
use Rattle.reading.proofs.SortLaws.{sorting_start, sorting_recorded, sorting_with, sorting_keep, sorting_all}
use Rattle.reading.proofs.sets.sorted.Goals as goal

pub loop-e-init : goal.loop-e-init
loop-e-init c =
    let pre = c.requires in
    (tt, tt, pre.0, pre.1, pre.2, sorting_start _ _ _ _ c.none-rows.ensures (rw c.into_iter-e-iterator.ensures.into_iter_gives (ap members c.members-e-items.ensures)))

pub event_byte-v-requires : goal.event_byte-v-requires
event_byte-v-requires c =
    let inv = c.loop-e.invariant in
    let bounds = sorting_recorded _ _ inv.5 c.in-Some.ensures.steps.0 inv.4 in
    (inv.2, bounds.0, bounds.1, inv.3)

pub loop-e-preserved-then-v-lt8 : goal.loop-e-preserved-then-v-lt8
loop-e-preserved-then-v-lt8 c =
    let inv = c.loop-e.invariant in
    (tt, tt, inv.2, inv.3, inv.4, sorting_with _ _ inv.5 c.in-Some.ensures.steps.0 c.event_byte-v.ensures.0 _ c.if-v-lt8.true c.with.ensures)

pub loop-e-preserved : goal.loop-e-preserved
loop-e-preserved c =
    let inv = c.loop-e.invariant in
    (tt, tt, inv.2, inv.3, inv.4, sorting_keep _ _ inv.5 c.in-Some.ensures.steps.0 c.event_byte-v.ensures.0 c.if-v-lt8.false)

pub returns : goal.returns
returns c = sorting_all _ c.in-None.ensures.steps.0.0 c.loop-e.invariant.5

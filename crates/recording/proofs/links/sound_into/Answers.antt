-- `links::sound_into` meets its contract: what is left decides what all the links do, and the rf sources taken and left are all.
use mathlib.Core.Path.{sym, ap, ◌∙◌}
use mathlib.Core.Bool.{Bool, ◌&&◌}
use native.Mathlib.Omega.{arith}
use Rattle.reading.proofs.LinkLaws.{within_le, readable_lt, ahead_start, ahead_here, ahead_on, taken_start, taken_with, taken_keep, taken_done}
use Rattle.recording.proofs.CauseLaws.{sound_readable}
use Rattle.recording.proofs.IntoLaws.{along_start, along_done, along_fails, along_on}
use Rattle.layout.specs.Decode.{decode}
use Rattle.recording.specs.Causes.{one_source, links_sound_at}
use Rattle.recording.proofs.links.sound_into.Goals as goal

pub into-m-items-requires : goal.into-m-items-requires
into-m-items-requires c = let pre = c.requires in (pre.0.sized, pre.2, pre.3, pre.0.chains _ pre.2 pre.3)

pub loop-m-init : goal.loop-m-init
loop-m-init c =
    let pre = c.requires in
    let all = c.into_iter-m-iterator.ensures.into_iter_gives ∙ c.into-m-items.ensures in
    (pre.1, ahead_start pre.0.sized pre.2 pre.3 (pre.0.chains _ pre.2 pre.3) all, along_start all, taken_start c.none-sources.ensures all)

pub sound-requires : goal.sound-requires
sound-requires c =
    let inv = c.loop-m.invariant in
    let steps = c.in-Some.ensures.steps in
    (inv.1.sized, inv.0, steps.1, within_le _ _ (ahead_here inv.1 steps.0), omega (arith, inv.1.sized.most_events, inv.1.high))

pub returns-then-not-sound : goal.returns-then-not-sound
unfolding links_sound_at
returns-then-not-sound c =
    let fails = along_fails c.loop-m.invariant.2 c.in-Some.ensures.steps.0 (sym c.sound.ensures ∙ c.if-not-sound.true) in
    sym (ap (λ (x : Bool). x && one_source (decode c.args.file.now) c.args.b) fails)

pub link_byte-requires : goal.link_byte-requires
link_byte-requires c =
    let ahead = c.loop-m.invariant.1 in
    let steps = c.in-Some.ensures.steps in
    (ahead.sized, steps.1, within_le _ _ (ahead_here ahead steps.0), omega arith)

pub link_byte-requires-then-link_byte-eq1 : goal.link_byte-requires-then-link_byte-eq1
link_byte-requires-then-link_byte-eq1 c =
    let ahead = c.loop-m.invariant.1 in
    let steps = c.in-Some.ensures.steps in
    (ahead.sized, steps.1, within_le _ _ (ahead_here ahead steps.0), omega arith)

pub with-more-requires : goal.with-more-requires
with-more-requires c =
    let ahead = c.loop-m.invariant.1 in
    let sound = sound_readable _ _ _ ahead.sized (ahead_here ahead c.in-Some.ensures.steps.0) (sym c.sound.ensures ∙ c.if-not-sound.false) in
    omega (arith, readable_lt _ _ sound, c.link_byte-then-link_byte-eq1.ensures.0)

pub loop-m-preserved-then-link_byte-eq1 : goal.loop-m-preserved-then-link_byte-eq1
loop-m-preserved-then-link_byte-eq1 c =
    let inv = c.loop-m.invariant in
    let steps = c.in-Some.ensures.steps.0 in (
      inv.0,
      ahead_on inv.1 steps,
      along_on inv.2 steps (sym c.sound.ensures ∙ c.if-not-sound.false),
      taken_with inv.3 steps c.link_byte.ensures.0 c.if-link_byte-eq1.true c.link_byte-then-link_byte-eq1.ensures.0 c.with-more.ensures,
    )

pub loop-m-preserved : goal.loop-m-preserved
loop-m-preserved c =
    let inv = c.loop-m.invariant in
    let steps = c.in-Some.ensures.steps.0 in (
      inv.0,
      ahead_on inv.1 steps,
      along_on inv.2 steps (sym c.sound.ensures ∙ c.if-not-sound.false),
      taken_keep inv.3 steps c.link_byte.ensures.0 c.if-link_byte-eq1.false,
    )

pub returns : goal.returns
unfolding links_sound_at
returns c =
    let inv = c.loop-m.invariant in
    let none = c.in-None.ensures.steps.0.0 in
    c.one_source.ensures _ _ (taken_done inv.3 none inv.1.low inv.1.high) ∙ sym (ap (λ (x : Bool). x && one_source (decode c.args.file.now) c.args.b) (along_done inv.2 none))

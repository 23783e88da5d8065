-- `write::block_at` meets its contract: blank where the thread has no such event, else the block of the event.
use mathlib.Core.Path.{sym, ap, ◌∙◌}
use native.Mathlib.Omega.{arith}
use Rattle.printout.specs.Page.{block}
use Rattle.printout.proofs.TableLaws.{event_at, start_few, absent, present, in_line, event_is}
use Rattle.printout.proofs.PageLaws.{block_present, block_absent}
use Rattle.printout.proofs.write.block_at.Goals as goal

pub overflow_add-i : goal.overflow_add-i
overflow_add-i c = let pre = c.requires in omega (arith, start_few _ _ _ pre.0 pre.1 _ pre.2, pre.3)

pub returns-then-starts-t : goal.returns-then-starts-t
returns-then-starts-t c =
    let pre = c.requires in
    λ ring w. sym (block_absent _ ring _ _ (absent _ _ _ pre.0 pre.1 _ pre.2 _ c.if-starts-t.true))

pub bounds-at-i : goal.bounds-at-i
bounds-at-i c = let pre = c.requires in omega (arith, in_line _ _ _ pre.0 pre.1 _ pre.2 _ c.if-starts-t.false)

pub block-requires : goal.block-requires
block-requires c =
    let pre = c.requires in
    let is = event_is _ _ _ pre.0 pre.1 _ pre.2 _ c.if-starts-t.false in
    let within = event_at _ pre.0 _ _ pre.2 (present _ _ _ pre.0 pre.1 _ pre.2 _ c.if-starts-t.false) in
    (pre.0, omega (arith, is, within.0), omega (arith, is, within.1))

pub returns : goal.returns
returns c =
    let pre = c.requires in
    let here = c.if-starts-t.false in
    λ ring w. c.block.ensures ring w ∙ ap (block _ ring) (event_is _ _ _ pre.0 pre.1 _ pre.2 _ here)
    ∙ sym (block_present _ ring _ _ (present _ _ _ pre.0 pre.1 _ pre.2 _ here))

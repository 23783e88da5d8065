-- `block::block` meets its contract, column by column.
use mathlib.Core.Path.{ap, ◌∙◌}
use native.Mathlib.Omega.{arith}
use Rattle.recording.proofs.Accepted.{sized}
use Rattle.printout.specs.Page.{letter}
use Rattle.printout.proofs.BlockLaws.{digits_of, block_is}
use Rattle.printout.proofs.block.block.Goals as goal

pub class_of-requires : goal.class_of-requires
class_of-requires c = sized _ c.requires.0

pub mode_of-requires : goal.mode_of-requires
mode_of-requires c = sized _ c.requires.0

pub flag_of-requires : goal.flag_of-requires
flag_of-requires c = sized _ c.requires.0

pub star-requires : goal.star-requires
star-requires c =
    let pre = c.requires in
    omega (arith, pre.2, (sized _ pre.0).most_events)

pub overflow_add-block : goal.overflow_add-block
overflow_add-block c =
    let pre = c.requires in
    omega (arith, c.mode_of.ensures.0, (digits_of _ _ pre.0 pre.1 pre.2).few_modes)

pub overflow_add-block-2 : goal.overflow_add-block-2
overflow_add-block-2 c =
    let pre = c.requires in
    omega (arith, c.flag_of.ensures.0, (digits_of _ _ pre.0 pre.1 pre.2).few_flags)

pub returns : goal.returns
returns c =
    let pre = c.requires in
    λ ring w. block_is _ _ ring (omega (arith, pre.2, (sized _ pre.0).most_events)) c.aligned-number.ensures
    c.copy_from_slice-2.ensures.after (c.copy_from_slice.ensures.after ∙ c.place-place.ensures)
    (c.letter.ensures ∙ ap letter c.class_of.ensures.0) c.mode_of.ensures.0 c.flag_of.ensures.0 (c.star.ensures ring w)

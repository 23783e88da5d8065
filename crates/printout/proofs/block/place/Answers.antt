-- `block::place` meets its contract: spaces for a fence, else the location and the value.
use mathlib.Core.Path.{sym, ap, ◌∙◌}
use native.Mathlib.Omega.{arith}
use Rattle.recording.proofs.Accepted.{sized}
use Rattle.decimal.specs.Decimal.{aligned}
use Rattle.printout.proofs.BlockLaws.{digits_of, place_fence, place_access}
use Rattle.printout.proofs.block.place.Goals as goal

pub class_of-requires : goal.class_of-requires
class_of-requires c = sized _ c.requires.0

pub returns-then-class_of-eq3 : goal.returns-then-class_of-eq3
returns-then-class_of-eq3 c = place_fence _ _ (sym c.class_of.ensures.0 ∙ c.if-class_of-eq3.true)

pub location_of-requires : goal.location_of-requires
location_of-requires c = sized _ c.requires.0

pub value_of-requires : goal.value_of-requires
value_of-requires c = sized _ c.requires.0

pub overflow_cast-place : goal.overflow_cast-place
overflow_cast-place c = let pre = c.requires in omega (arith, c.location_of.ensures, (digits_of _ _ pre.0 pre.1 pre.2).few_locations)

pub overflow_add-place : goal.overflow_add-place
overflow_add-place c = let pre = c.requires in omega (arith, c.location_of.ensures, (digits_of _ _ pre.0 pre.1 pre.2).few_locations)

pub returns : goal.returns
returns c =
    place_access _ _ (λ e. c.if-class_of-eq3.false (c.class_of.ensures.0 ∙ e)) _
    (c.copy_from_slice.ensures.after ∙ c.aligned-value.ensures ∙ ap (aligned 5) c.value_of.ensures) _ c.location_of.ensures

-- `write::write_row` meets its contract, source by source.
use mathlib.Core.Path.{ap, ◌∙◌}
use native.Mathlib.Omega.{arith}
use Rattle.relation.specs.Rel.{members}
use Rattle.relation.specs.Bits.{on}
use Rattle.translation.proofs.WriteLaws.{row_first, row_room, row_next, row_all}
use borrow.Author.Rules.{rules}
use Rattle.translation.proofs.write.write_row.Goals as goal

pub loop-a-init : goal.loop-a-init
loop-a-init c =
    (search rules, search rules, row_first c.requires (ap (λ s. members (on s.rest)) c.into_iter-a-iterator.ensures.into_iter_gives ∙ ap members c.members-a-items.ensures))

pub overflow_add-m : goal.overflow_add-m
overflow_add-m c = omega (arith, row_room c.requires c.loop-a.invariant.2 c.in-Some.ensures.steps.0)

pub overflow_mul-m : goal.overflow_mul-m
overflow_mul-m c = omega (arith, row_room c.requires c.loop-a.invariant.2 c.in-Some.ensures.steps.0)

pub put-requires : goal.put-requires
put-requires c = (row_room c.requires c.loop-a.invariant.2 c.in-Some.ensures.steps.0).0

pub overflow_add-m-in-loop-a : goal.overflow_add-m-in-loop-a
overflow_add-m-in-loop-a c = omega (arith, row_room c.requires c.loop-a.invariant.2 c.in-Some.ensures.steps.0)

pub loop-a-preserved : goal.loop-a-preserved
loop-a-preserved c =
    (search rules, search rules, row_next c.requires c.loop-a.invariant.2 c.in-Some.ensures.steps.0 c.chained.ensures.0 c.put.ensures)

pub returns : goal.returns
returns c = row_all c.requires c.loop-a.invariant.2 c.in-None.ensures.steps.0.0

-- `grid::inverse` meets its contract, pair by pair.
use mathlib.Core.Path.{ap, ◌∙◌}
use native.Mathlib.Omega.{arith}
use Rattle.relation.specs.Rel.{members}
use Rattle.relation.specs.Bits.{on, edge}
use Rattle.relation.proofs.GridLaws.{turned_none, turned_all, turning_first, turning_next, turning_all}
use borrow.Author.Rules.{rules}
use Rattle.relation.proofs.grid.inverse.Goals as goal

pub loop-i-init : goal.loop-i-init
loop-i-init c = (c.empty-h.ensures ∙ turned_none _ (search rules), search rules, search rules)

pub loop-j-init : goal.loop-j-init
unfolding edge
loop-j-init c =
    let inv = c.loop-i.invariant in (
      search rules,
      search rules,
      turning_first inv.2 inv.1 inv.0 (ap (λ s. members (on s.rest)) c.into_iter-j-iterator.ensures.into_iter_gives ∙ ap members c.members-j-items.ensures),
    )

pub loop-j-preserved : goal.loop-j-preserved
loop-j-preserved c = (search rules, search rules, turning_next c.loop-j.invariant.2 c.in-Some.ensures.steps.0 _ c.with.ensures)

pub loop-i-preserved : goal.loop-i-preserved
loop-i-preserved c = let inv = c.loop-j.invariant.2 in (turning_all inv c.in-None.ensures.steps.0.0, inv.long, inv.given)

pub returns : goal.returns
returns c = let inv = c.loop-i.invariant in inv.0 ∙ turned_all _ inv.2 _ (omega (arith, c.loop-i-test.false))

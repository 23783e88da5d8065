-- `order::next_of` meets its contract: the members are gone through up to the first ready one.
use mathlib.Core.Path.{sym, ap, ◌∙◌}
use Rattle.relation.specs.Rel.{members}
use Rattle.relation.specs.Bits.{on, edge}
use Rattle.relation.proofs.MemberLaws.{searching_start, searching_next, searching_found, searching_none, searching_member}
use Rattle.relation.proofs.OrderLaws.{not_ready, preceded_not_ready, unpreceded_ready}
use borrow.Author.Rules.{rules}
use Rattle.relation.proofs.order.next_of.Goals as goal

pub loop-k-init : goal.loop-k-init
loop-k-init c = (
  search rules,
  search rules,
  searching_start (not_ready _ _) (ap (λ s. members (on s.rest)) c.into_iter-k-iterator.ensures.into_iter_gives ∙ ap members c.members-k-items.ensures),
)

pub returns-then-is_empty : goal.returns-then-is_empty
unfolding edge
returns-then-is_empty c =
    let w = c.loop-k.invariant.2 in
    let next = c.in-Some.ensures.steps.0 in
    sym
    (searching_found (not_ready _ _) w next
    (unpreceded_ready _ _ _ _ c.and.ensures (sym c.is_empty.ensures ∙ c.if-is_empty.true) (searching_member (not_ready _ _) w next)))

pub loop-k-preserved : goal.loop-k-preserved
unfolding edge
loop-k-preserved c = (
  search rules,
  search rules,
  searching_next (not_ready _ _) c.loop-k.invariant.2 c.in-Some.ensures.steps.0
      (preceded_not_ready _ _ _ _ c.and.ensures (sym c.is_empty.ensures ∙ c.if-is_empty.false)),
)

pub returns : goal.returns
returns c = sym (searching_none (not_ready _ _) c.loop-k.invariant.2 c.in-None.ensures.steps.0.0)

-- `grid::reached` meets its contract, member by member.
use mathlib.Core.Path.{ap, ◌∙◌}
use Rattle.relation.specs.Rel.{members}
use Rattle.relation.specs.Bits.{on, edge}
use Rattle.relation.proofs.GridLaws.{reached_first, reached_next, reached_all}
use borrow.Author.Rules.{rules}
use Rattle.relation.proofs.grid.reached.Goals as goal

pub loop-i-init : goal.loop-i-init
loop-i-init c =
    (search rules, search rules, reached_first c.none-r.ensures (ap (λ s. members (on s.rest)) c.into_iter-i-iterator.ensures.into_iter_gives ∙ ap members c.members-i-items.ensures))

pub loop-i-preserved : goal.loop-i-preserved
unfolding edge
loop-i-preserved c =
    (search rules, search rules, reached_next c.loop-i.invariant.2 c.in-Some.ensures.steps.0 c.or-more.ensures)

pub returns : goal.returns
returns c = reached_all c.loop-i.invariant.2 c.in-None.ensures.steps.0.0

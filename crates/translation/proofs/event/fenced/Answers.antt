-- `event::fenced` meets its contract: no number before the one returned is such a write.
use mathlib.Core.Path.{sym, ◌∙◌}
use native.Mathlib.Omega.{arith}
use borrow.Author.Count.{below_more}
use Rattle.translation.specs.Translate.{fenced}
use Rattle.relation.proofs.SetLaws.{least_at, least_none}
use Rattle.translation.proofs.event.fenced.Goals as goal

pub loop-w-init : goal.loop-w-init
loop-w-init c = λ v h. absurd (omega arith)

pub returns-then-is_fence_of-clause-value : goal.returns-then-is_fence_of-clause-value
unfolding fenced
returns-then-is_fence_of-clause-value c =
    sym (least_at 64 _ _ (omega arith) (sym c.is_fence_of.ensures ∙ c.if-is_fence_of.true) c.loop-w.invariant)

pub loop-w-preserved : goal.loop-w-preserved
loop-w-preserved c = below_more _ _ c.loop-w.invariant (sym c.is_fence_of.ensures ∙ c.if-is_fence_of.false)

pub returns-clause-value : goal.returns-clause-value
unfolding fenced
returns-clause-value c = sym (least_none 64 _ (λ v h. c.loop-w.invariant v (omega arith)))

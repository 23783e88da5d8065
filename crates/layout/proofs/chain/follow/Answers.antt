-- `chain::follow` meets its contract: what is left of the chain decides what the whole does.
use mathlib.Core.Path.{ap, ◌∙◌}
use mathlib.Core.Bool.{true}
use Prim.Native.Nat.{◌-◌}
use native.Mathlib.Omega.{arith}
use lib.ListN.{length-set}
use Rattle.layout.specs.Chains.{follow}
use Rattle.layout.proofs.ChainLaws.{going_done, going_over, going_twice, going_on, follow_end, follow_none}
use Rattle.layout.proofs.chain.follow.Goals as goal

pub returns-then-x-eq0 : goal.returns-then-x-eq0
returns-then-x-eq0 c =
    let inv = c.loop.invariant in
    λ l w. going_done (inv.3 l w) (ap (follow _ _ _) c.if-x-eq0.true ∙ follow_end _ _ _)

pub returns-then-limit-x : goal.returns-then-limit-x
returns-then-limit-x c =
    let inv = c.loop.invariant in
    λ l w. going_over (inv.3 l w) (c.args.limit - c.loop.counter) (omega (arith, c.loop.auto)) c.if-x-eq0.false c.if-limit-x.true

pub returns-then-met_before : goal.returns-then-met_before
returns-then-met_before c =
    let inv = c.loop.invariant in
    λ l w. going_twice (inv.3 l w) (c.args.limit - c.loop.counter) (omega (arith, c.loop.auto)) c.if-x-eq0.false c.if-limit-x.false inv.1 c.if-met_before.true

pub loop-preserved : goal.loop-preserved
loop-preserved c =
    let inv = c.loop.invariant in (
      inv.0,
      c.moved-cursor.ensures.1,
      length-set c.loop.marks c.loop.cursor.at true ∙ inv.2,
      λ l w. going_on (inv.3 l w) _ _ (omega (arith, c.loop.auto)) c.if-x-eq0.false c.if-limit-x.false inv.1 c.if-met_before.false c.moved-cursor.ensures.0,
    )

pub returns-else-met_before : goal.returns-else-met_before
returns-else-met_before c =
    let inv = c.loop.invariant in
    λ l w.
    let last = going_on (inv.3 l w) (c.args.limit - c.loop.counter) _ (omega (arith, c.loop.auto)) c.if-x-eq0.false c.if-limit-x.false inv.1 c.if-met_before.false c.moved-cursor.ensures.0 in
    going_done last (follow_none _ _ _ _ (omega arith))

-- `chain::once_each` meets its contract, chain by chain.
use native.Mathlib.Omega.{arith}
use Rattle.layout.proofs.ChainLaws.{walked_none, walked_more, walked_fails, walked_all}
use Rattle.layout.proofs.chain.once_each.Goals as goal

pub loop-j-init : goal.loop-j-init
loop-j-init c = (c.requires, walked_none _ _ _)

pub returns-then-not-follow : goal.returns-then-not-follow
returns-then-not-follow c =
    walked_fails c.start-start.ensures.0 c.loop-j.invariant.1 c.follow.ensures c.loop-j-test.true c.if-not-follow.true

pub loop-j-preserved : goal.loop-j-preserved
loop-j-preserved c =
    let inv = c.loop-j.invariant in
    (inv.0, walked_more c.start-start.ensures.0 inv.1 c.follow.ensures c.if-not-follow.false)

pub returns : goal.returns
returns c = walked_all (omega arith) c.loop-j.invariant.1 c.all_marked.ensures

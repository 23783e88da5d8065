-- `chain::count` meets its contract: what was met, and what is left to follow.
use native.Mathlib.Omega.{arith}
use Rattle.layout.proofs.ChainLaws.{count_end, count_over, count_on, count_done}
use Rattle.layout.proofs.chain.count.Goals as goal

pub returns-then-x-eq0 : goal.returns-then-x-eq0
returns-then-x-eq0 c = count_end c.loop-met.invariant.1 c.if-x-eq0.true

pub returns-then-limit-x : goal.returns-then-limit-x
returns-then-limit-x c = count_over c.loop-met.invariant.1 c.loop-met.auto.met-end c.if-x-eq0.false c.if-limit-x.true

pub loop-met-preserved : goal.loop-met-preserved
loop-met-preserved c =
    let inv = c.loop-met.invariant in
    (inv.0, count_on inv.1 _ c.loop-met.auto.met-end c.if-x-eq0.false c.if-limit-x.false c.moved-cursor.ensures.0)

pub returns : goal.returns
returns c =
    let inv = c.loop-met.invariant in
    elim c.loop-met-test.branch [
      | goal.else-loop-met-test w ↦ absurd (omega (arith, w.loop-met-test.false, c.loop-met.auto.met-end))
      | goal.then-loop-met-test+else-x-eq0+else-limit-x+else-met-limit w ↦
          omega (arith, count_done (count_on inv.1 _ c.loop-met.auto.met-end w.if-x-eq0.false w.if-limit-x.false w.moved-cursor.ensures.0) (omega arith))
    ]

-- `why::flat`: the three bytes of one step more are put.
use native.Mathlib.Omega.{arith}
use Rattle.probe.proofs.ProbeLaws.{bytes_more}
use borrow.Author.Rules.{rules}
use Rattle.probe.proofs.why.flat.Goals as goal

pub loop-step-preserved : goal.loop-step-preserved
loop-step-preserved c = (
  bytes_more c.args.steps.now c.loop-step.step-index (search rules) c.loop-step.invariant.0 c.push.ensures.items
      c.push-in-loop-step.ensures.items c.push-in-loop-step-2.ensures.items,
  omega (arith, c.push.ensures.len, c.push-in-loop-step.ensures.len, c.push-in-loop-step-2.ensures.len, c.loop-step.invariant.1),
)

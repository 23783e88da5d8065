-- `steps` meets its contract: k of the steps are made.
use mathlib.Core.Path.{◌≡◌, ap, ◌∙◌}
use native.Mathlib.Omega.{arith}
use lib.ListN.{length}
use Rattle.relation.specs.Ring.{after}
use Rattle.clause.specs.Steps.{steps_to}
use Rattle.clause.proofs.StepLaws.{after_next, after_last, made_more}
use Rattle.clause.proofs.steps.Goals.{then-k-ring, else-k-ring}
use Rattle.clause.proofs.steps.Goals as goal

pub loop-k-init : goal.loop-k-init
unfolding steps_to
loop-k-init c = (c.new-steps.ensures, ap length c.new-steps.ensures)

pub loop-k-preserved : goal.loop-k-preserved
loop-k-preserved c =
    let b : c.if-k-ring.b ≡ after c.args.ring.now c.loop-k.k = elim c.if-k-ring.branch [
      | then-k-ring w ↦ w.b-is ∙ after_next _ _ w.if-k-ring.true
      | else-k-ring w ↦ w.b-is ∙ after_last _ _ w.if-k-ring.false
    ] in
    (made_more _ _ _ c.loop-k.invariant.0 b c.number.ensures c.push.ensures.items, omega (arith, c.push.ensures.len, c.loop-k.invariant.1))

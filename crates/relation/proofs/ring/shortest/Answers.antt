-- `ring::shortest` meets its contract: fewer steps are tried first.
use mathlib.Core.Path.{sym}
use borrow.Author.Count.{below_none}
use Rattle.relation.proofs.ByteLaws.{bit_out}
use Rattle.relation.proofs.RingLaws.{power_identity, power_then, round_found, round_none}
use Rattle.relation.proofs.ring.shortest.Goals as goal

pub loop-steps-init : goal.loop-steps-init
loop-steps-init c = (power_identity _ _ _ c.all.ensures c.identity-p.ensures, below_none _)

pub loop-steps-preserved : goal.loop-steps-preserved
loop-steps-preserved c =
    let inv = c.loop-steps.invariant in (
      power_then _ _ _ _ inv.0 c.then-next.ensures,
      round_none _ _ _ _ _ _ c.inverse-back.ensures inv.0 c.returning.ensures (bit_out _) (sym c.in_default.ensures) inv.1,
    )

pub returns-in-Some-clause-found : goal.returns-in-Some-clause-found
returns-in-Some-clause-found c =
    let inv = c.loop-steps.invariant in
    round_found _ _ _ _ _ _ c.inverse-back.ensures inv.0 c.returning.ensures (sym c.in-Some.ensures) c.loop-steps-test.true inv.1

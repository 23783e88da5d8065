-- `ring::levels` meets its contract: each row is what one more step reaches.
use native.Mathlib.Omega.{arith}
use Rattle.relation.specs.Bits.{edge}
use Rattle.relation.proofs.GridLaws.{rows_none_of, rows_set}
use Rattle.relation.proofs.RingLaws.{power_zero, power_suc}
use borrow.Author.Rules.{rules}
use Rattle.relation.proofs.ring.levels.Goals as goal

pub loop-k-init : goal.loop-k-init
loop-k-init c = (rows_none_of _ _ _ (search rules) c.empty-h.ensures, power_zero _ _ _ _ c.requires c.none.ensures c.with-x.ensures)

pub loop-k-preserved : goal.loop-k-preserved
loop-k-preserved c =
    let inv = c.loop-k.invariant in
    (rows_set _ _ _ _ _ inv.0 c.loop-k-test.true inv.1, power_suc _ _ _ _ _ inv.1 c.image-next.ensures)

pub returns : goal.returns
unfolding edge
returns c = λ k h. c.loop-k.invariant.0.done k (omega (arith, c.loop-k-test.false))

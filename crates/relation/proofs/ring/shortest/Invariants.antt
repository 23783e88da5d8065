-- `ring::shortest` meets its contract: fewer steps are tried first.
use mathlib.Core.Path.{◌≡◌}
use Rattle.relation.specs.Bits.{edge}
use Rattle.relation.specs.Ring.{power, NoneBelow}
use Rattle.relation.proofs.ring.shortest.Given as goal

abbrev pub invariant-loop-steps : goal.invariant-loop-steps
invariant-loop-steps l = (edge l.p ≡ power l.steps (edge l.g)) × NoneBelow l.steps (edge l.g) (edge l.fn.e)

-- `ring::levels` meets its contract: each row is what one more step reaches.
use mathlib.Core.Path.{◌≡◌}
use Rattle.relation.specs.Rel.{none}
use Rattle.relation.specs.Bits.{bit, edge}
use Rattle.relation.specs.Ring.{power}
use Rattle.relation.proofs.GridLaws.{Rows}
use Rattle.relation.proofs.ring.levels.Given as goal

abbrev pub invariant-loop-k : goal.invariant-loop-k
invariant-loop-k l = Rows (λ m. power m (edge l.g) l.s) none l.h l.k × (bit l.x ≡ power l.k (edge l.g) l.s)

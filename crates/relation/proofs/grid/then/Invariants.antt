-- `grid::then` meets its contract, row by row.
use Rattle.relation.specs.Rel.{image, nodes}
use Rattle.relation.specs.Bits.{edge}
use Rattle.relation.proofs.GridLaws.{Mapped}
use Rattle.relation.proofs.grid.then.Given as goal

abbrev pub invariant-loop-i : goal.invariant-loop-i
invariant-loop-i l = Mapped (λ m s. image nodes s (edge l.b)) l.a l.h l.i

-- `grid::product` meets its contract, row by row.
use Rattle.relation.specs.Bits.{bit}
use Rattle.relation.proofs.GridLaws.{Chosen}
use Rattle.relation.proofs.grid.product.Given as goal

abbrev pub invariant-loop-i : goal.invariant-loop-i
invariant-loop-i l = Chosen l.s (λ i. bit l.t) l.h l.i

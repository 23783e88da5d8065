-- `grid::from` meets its contract, row by row.
use Rattle.relation.specs.Bits.{edge}
use Rattle.relation.proofs.GridLaws.{Chosen}
use Rattle.relation.proofs.grid.from.Given as goal

abbrev pub invariant-loop-i : goal.invariant-loop-i
invariant-loop-i l = Chosen l.s (edge l.g) l.h l.i

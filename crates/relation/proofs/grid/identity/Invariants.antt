-- `grid::identity` meets its contract, row by row.
use Rattle.relation.specs.Rel.{single}
use Rattle.relation.proofs.GridLaws.{Chosen}
use Rattle.relation.proofs.grid.identity.Given as goal

abbrev pub invariant-loop-i : goal.invariant-loop-i
invariant-loop-i l = Chosen l.s single l.h l.i

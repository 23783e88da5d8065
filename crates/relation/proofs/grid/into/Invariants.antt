-- `grid::into` meets its contract, row by row.
use Rattle.relation.specs.Rel.{intersection}
use Rattle.relation.specs.Bits.{bit}
use Rattle.relation.proofs.GridLaws.{Mapped}
use Rattle.relation.proofs.grid.into.Given as goal

abbrev pub invariant-loop-i : goal.invariant-loop-i
invariant-loop-i l = Mapped (λ m t. intersection t (bit l.s)) l.g l.h l.i

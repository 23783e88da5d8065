-- `grid::closure` meets its contract: one round for each event, row by row.
use mathlib.Core.Path.{◌≡◌}
use lib.ListN.{length}
use Rattle.relation.specs.Rel.{union, given, plus, below}
use Rattle.relation.specs.Bits.{bit, edge}
use Rattle.relation.proofs.GridLaws.{Mapped}
use Rattle.relation.proofs.grid.closure.Given as goal

abbrev pub invariant-loop-i : goal.invariant-loop-i
invariant-loop-i l = Mapped (λ m s. union s (given (s l.k) (bit l.y))) l.initial.h l.h l.i × (bit l.y ≡ edge l.initial.h l.k)

abbrev pub invariant-loop-k : goal.invariant-loop-k
invariant-loop-k l = (edge l.h ≡ plus (below l.k) (edge l.initial.h)) × (length l.h ≡ 64)

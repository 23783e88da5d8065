-- `union` meets its contract: the clauses before the index are joined.
use Rattle.relation.specs.Bits.{edge}
use Rattle.clause.proofs.StepLaws.{Joined}
use Rattle.clause.proofs.union.Given as goal

abbrev pub invariant-loop-clause : goal.invariant-loop-clause
invariant-loop-clause l = Joined l.clauses l.clause-index (edge l.all)

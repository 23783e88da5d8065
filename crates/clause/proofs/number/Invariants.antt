-- `number` meets its contract: n of the clauses are passed.
use Rattle.clause.proofs.StepLaws.{Passed}
use Rattle.clause.proofs.number.Given as goal

abbrev pub invariant-loop-n : goal.invariant-loop-n
invariant-loop-n l = Passed l.clauses l.a l.b l.n

-- `chain::once_each` meets its contract, chain by chain.
use Rattle.layout.specs.Chains.{next_of, start_of, Linked}
use Rattle.layout.proofs.ChainLaws.{Walked}
use Rattle.layout.proofs.chain.once_each.Given as goal

abbrev pub invariant-loop-j : goal.invariant-loop-j
invariant-loop-j l = Linked l.file l.first l.step l.count l.from l.size l.limit × Walked l.limit (next_of l.file l.from l.size) (start_of l.file l.first l.step) l.j l.marks

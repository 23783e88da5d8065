-- `chain::count` meets its contract: what was met, and what is left to follow.
use Rattle.layout.specs.Chains.{next_of, chain, Linked}
use Rattle.layout.proofs.ChainLaws.{Counted}
use Rattle.layout.proofs.chain.count.Given as goal

abbrev pub invariant-loop-met : goal.invariant-loop-met
invariant-loop-met l = Linked l.file 0 0 0 l.from l.size l.limit × Counted l.limit (next_of l.file l.from l.size) (chain l.limit (next_of l.file l.from l.size) l.initial.cursor.at) l.met l.cursor.at

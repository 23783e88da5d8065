-- `table::starts` meets its contract, thread by thread.
use Rattle.printout.proofs.TableLaws.{Started}
use Rattle.printout.proofs.table.starts.Given as goal

abbrev pub invariant-loop-t : goal.invariant-loop-t
invariant-loop-t l = Started l.file l.r l.n l.t

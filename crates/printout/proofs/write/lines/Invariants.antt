-- `write::lines` meets its contract, line by line.
use Rattle.printout.proofs.PageLaws.{LinesWritten}
use Rattle.printout.proofs.write.lines.Given as goal

abbrev pub invariant-loop-k : goal.invariant-loop-k
invariant-loop-k l = LinesWritten l.file l.stars l.initial.out l.n l.k l.out

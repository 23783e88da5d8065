-- `write::line` meets its contract: block by block, then the line feed.
use Rattle.printout.proofs.PageLaws.{BlocksWritten}
use Rattle.printout.proofs.write.line.Given as goal

abbrev pub invariant-loop-t : goal.invariant-loop-t
invariant-loop-t l = BlocksWritten l.file l.stars l.initial.out l.k l.t l.out

-- `link::ends` meets its contract, event by event.
use Rattle.translation.proofs.LinkRows.{Ending}
use Rattle.translation.proofs.link.ends.Given as goal

abbrev pub invariant-loop-b : goal.invariant-loop-b
invariant-loop-b l = Ending l.file l.n l.b l.m l.at

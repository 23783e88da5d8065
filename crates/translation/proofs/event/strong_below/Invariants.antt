-- `event::strong_below` meets its contract: the count grows with each strong write passed.
use Rattle.translation.proofs.EventLaws.{Counted}
use Rattle.translation.proofs.event.strong_below.Given as goal

abbrev pub invariant-loop-w : goal.invariant-loop-w
invariant-loop-w l = Counted l.file l.w l.n

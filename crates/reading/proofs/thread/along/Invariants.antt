-- `thread::along` meets its contract: what is in the line and what is left of the chain are all.
use Prim.Native.Nat.{◌-◌}
use lib.ListN.{length}
use Rattle.layout.specs.Layout.{Sized}
use Rattle.reading.proofs.ThreadLaws.{Partway}
use Rattle.reading.proofs.thread.along.Given as goal

abbrev pub invariant-loop-cursor : goal.invariant-loop-cursor
invariant-loop-cursor l = Sized l.file × Partway l.file l.t l.cursor.at l.line.items

abbrev pub decreases-loop-cursor : goal.decreases-loop-cursor
decreases-loop-cursor l = 64 - length l.line.items

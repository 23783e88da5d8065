-- `thread::line` meets its contract, thread by thread.
use mathlib.Core.Path.{◌≡◌}
use mathlib.Core.Bool.{true}
use Rattle.layout.specs.Layout.{Sized}
use Rattle.layout.specs.Chains.{threads_sound}
use Rattle.reading.specs.Sets.{Line}
use Rattle.reading.proofs.thread.line.Given as goal

abbrev pub invariant-loop-t : goal.invariant-loop-t
invariant-loop-t l = Sized l.file × (threads_sound l.file ≡ true) × Line l.file l.t l.line.items

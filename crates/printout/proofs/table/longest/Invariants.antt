-- `table::longest` meets its contract, thread by thread.
use mathlib.Core.Path.{◌≡◌}
use Prim.Native.Nat.{◌≤◌}
use Rattle.printout.specs.Page.{longest, thread_lists}
use Rattle.printout.proofs.table.longest.Given as goal

abbrev pub invariant-loop-t : goal.invariant-loop-t
invariant-loop-t l = (l.r ≤ 18) × (l.r ≡ longest (thread_lists l.file l.t))

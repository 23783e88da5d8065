-- `read`: at most the array's length was read.
use Rattle.std.proofs.Common.{◌-◌, ◌≤◌}
use Rattle.console.proofs.read.Given as goal

abbrev pub invariant-loop-n : goal.invariant-loop-n
invariant-loop-n g l = l.n ≤ 1413

abbrev pub decreases-loop-n : goal.decreases-loop-n
decreases-loop-n g l = 1413 - l.n

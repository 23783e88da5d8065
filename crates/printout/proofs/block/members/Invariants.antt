-- `block::members` meets its contract: the members of the part gone over are in the row.
use lib.ListN.{take}
use Rattle.printout.specs.Table.{Members}
use Rattle.printout.proofs.block.members.Given as goal

abbrev pub invariant-loop-e : goal.invariant-loop-e
invariant-loop-e l = Members (take l.e-index l.ring) l.r

-- `table::starts` meets its contract, thread by thread.
use mathlib.Core.Path.{refl}
use native.Mathlib.Omega.{arith}
use Rattle.recording.proofs.Accepted.{sized}
use Rattle.printout.proofs.TableLaws.{started_none, started_few, started_more, started_all}
use Rattle.printout.proofs.table.starts.Goals as goal

pub loop-t-init : goal.loop-t-init
loop-t-init c = started_none _ _ refl refl

pub length_of-n-requires : goal.length_of-n-requires
length_of-n-requires c = (sized _ c.requires, c.loop-t-test.true)

pub overflow_add-n : goal.overflow_add-n
overflow_add-n c = omega (arith, started_few _ _ _ _ _ c.requires c.loop-t.invariant c.loop-t-test.true c.length_of-n.ensures)

pub overflow_cast-r : goal.overflow_cast-r
overflow_cast-r c = omega (arith, started_few _ _ _ _ _ c.requires c.loop-t.invariant c.loop-t-test.true c.length_of-n.ensures)

pub loop-t-preserved : goal.loop-t-preserved
loop-t-preserved c = started_more _ _ _ _ _ c.loop-t.invariant c.loop-t-test.true c.length_of-n.ensures

pub returns : goal.returns
returns c = started_all _ _ _ _ c.loop-t.invariant c.loop-t-test.false

-- `write::write_into` meets its contract, type by type.
use native.Mathlib.Omega.{arith}
use Rattle.translation.proofs.WriteLaws.{into_none, into_room, into_more, into_all}
use Rattle.translation.proofs.write.write_into.Goals as goal

pub loop-t-init : goal.loop-t-init
loop-t-init c = let pre = c.requires in into_none pre.1.source pre.3 pre.4 pre.0

pub write_row-m-requires : goal.write_row-m-requires
write_row-m-requires c = into_room c.loop-t.invariant c.loop-t-test.true (c.rows-rows.ensures.row _ c.loop-t-test.true)

pub loop-t-preserved : goal.loop-t-preserved
loop-t-preserved c =
    let made = c.write_row-m.ensures in
    into_more c.loop-t.invariant c.loop-t-test.true (c.rows-rows.ensures.row _ c.loop-t-test.true) made.0 made.1

pub returns : goal.returns
returns c = into_all c.loop-t.invariant (omega arith)

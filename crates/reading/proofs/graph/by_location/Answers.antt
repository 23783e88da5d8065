-- `graph::by_location` meets its contract, number by number.
use Rattle.reading.proofs.GraphLaws.{locating_start, locating_with, locating_keep, locating_all}
use Rattle.reading.proofs.graph.by_location.Goals as goal

pub loop-e-init : goal.loop-e-init
loop-e-init c = (c.requires, locating_start _ _ c.none-rows.ensures)

pub loop-e-preserved : goal.loop-e-preserved
loop-e-preserved c =
    let inv = c.loop-e.invariant in
    elim c.match-place_of.branch [
      | goal.in-Some w ↦ rw w.rows-is (inv.0, locating_with _ _ inv.1 w.in-Some.ensures _ w.with.ensures)
      | goal.in_default w ↦ rw w.rows-is (inv.0, locating_keep _ _ inv.1 w.in_default.ensures)
    ]

pub returns : goal.returns
returns c = let inv = c.loop-e.invariant in locating_all inv.0 c.loop-e-test.false inv.1

-- `graph::same_location` meets its contract, number by number.
use Rattle.relation.proofs.GridLaws.{rows_none_of, rows_set, rows_keep, rows_all}
use Rattle.reading.proofs.GraphLaws.{location_row, location_none, location_out}
use borrow.Author.Rules.{rules}
use Rattle.reading.proofs.graph.same_location.Goals as goal

pub loop-e-init : goal.loop-e-init
loop-e-init c =
    let pre = c.requires in (pre.0, pre.1, c.by_location-rows.ensures, rows_none_of _ _ _ (search rules) c.empty-h.ensures)

pub loop-e-preserved : goal.loop-e-preserved
loop-e-preserved c =
    let inv = c.loop-e.invariant in
    elim c.match-place_of.branch [
      | goal.in-Some w ↦ rw w.h-is (inv.0, inv.1, inv.2, rows_set _ _ _ _ _ inv.3 c.loop-e-test.true (location_row _ inv.1 _ w.in-Some.ensures _ (inv.2.row _ w.in-Some.ensures.0)))
      | goal.in_default w ↦ rw w.h-is (inv.0, inv.1, inv.2, rows_keep _ _ _ _ inv.3 (location_none _ inv.1 _ w.in_default.ensures))
    ]

pub returns : goal.returns
returns c = let inv = c.loop-e.invariant in rows_all _ _ _ _ c.loop-e-test.false inv.3 (location_out _ inv.0)

-- `graph::rows_by_type` meets its contract, row by row and type by type.
use Rattle.reading.proofs.GraphLaws.{filling_start, filling_all}
use borrow.Author.Rules.{rules}
use Rattle.reading.proofs.graph.rows_by_type.Goals as goal

pub loop-b-init : goal.loop-b-init
loop-b-init c = (c.requires, filling_start _ _ (search rules) c.empty-rows.ensures)

pub returns : goal.returns
returns c = let inv = c.loop-b.invariant in filling_all inv.0.sized c.loop-b-test.false inv.1

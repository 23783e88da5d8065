-- `graph::link_rows` meets its contract, row by row.
use Rattle.relation.proofs.GridLaws.{rows_none_of, rows_set, rows_all}
use Rattle.reading.proofs.GraphLaws.{link_out}
use borrow.Author.Rules.{rules}
use Rattle.reading.proofs.graph.link_rows.Goals as goal

pub loop-b-init : goal.loop-b-init
loop-b-init c = (c.requires, rows_none_of _ _ _ (search rules) c.empty-rows.ensures)

pub loop-b-preserved : goal.loop-b-preserved
loop-b-preserved c =
    let inv = c.loop-b.invariant in
    (inv.0, rows_set _ _ _ _ _ inv.1 c.loop-b-test.true c.sources_of.ensures)

pub sources_of-requires : goal.sources_of-requires
sources_of-requires c = c.loop-b.invariant.0

pub returns : goal.returns
returns c = rows_all _ _ _ _ c.loop-b-test.false c.loop-b.invariant.1 (link_out _ c.loop-b.invariant.0.sized _)

-- `graph::link_rows` meets its contract, row by row.
use Rattle.relation.specs.Rel.{none, inverse}
use Rattle.relation.proofs.GridLaws.{Rows}
use Rattle.layout.specs.Decode.{decode}
use Rattle.reading.specs.Readable.{Readable}
use Rattle.reading.proofs.graph.link_rows.Given as goal

abbrev pub invariant-loop-b : goal.invariant-loop-b
invariant-loop-b l = Readable l.file × Rows (inverse ((decode l.file).link l.t)) none l.rows l.b

-- `graph::same_location` meets its contract, number by number.
use Rattle.relation.specs.Rel.{none}
use Rattle.relation.proofs.GridLaws.{Rows}
use Rattle.models.specs.Recording.{same_location}
use Rattle.layout.specs.Layout.{Sized}
use Rattle.layout.specs.Decode.{decode}
use Rattle.reading.specs.Sets.{Located, AccessRows}
use Rattle.reading.proofs.graph.same_location.Given as goal

abbrev pub invariant-loop-e : goal.invariant-loop-e
invariant-loop-e l = Sized l.file × Located l.file × AccessRows l.file l.rows × Rows (same_location (decode l.file)) none l.h l.e

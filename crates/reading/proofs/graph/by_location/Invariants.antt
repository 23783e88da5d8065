-- `graph::by_location` meets its contract, number by number.
use Rattle.layout.specs.Layout.{Sized}
use Rattle.reading.proofs.GraphLaws.{Locating}
use Rattle.reading.proofs.graph.by_location.Given as goal

abbrev pub invariant-loop-e : goal.invariant-loop-e
invariant-loop-e l = Sized l.file × Locating l.file l.e l.rows

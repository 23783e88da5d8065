-- `graph::rows_by_type` meets its contract, row by row and type by type.
use Prim.Native.Nat.{◌<◌}
use Rattle.reading.specs.Readable.{Readable}
use Rattle.reading.specs.Sets.{SourcesInto}
use Rattle.reading.proofs.GraphLaws.{Filling}
use Rattle.reading.proofs.graph.rows_by_type.Given as goal

abbrev pub invariant-loop-b : goal.invariant-loop-b
invariant-loop-b l = Readable l.file × Filling l.file l.b 1 l.rows

abbrev pub invariant-loop-t : goal.invariant-loop-t
invariant-loop-t l = Readable l.file × (l.b < 64) × SourcesInto l.file l.b l.sources × Filling l.file l.b l.t l.rows

-- What lasts from event to event: the links stand on chains within the file, and po is program order.
use mathlib.Core.Path.{◌≡◌}
use Rattle.relation.specs.Bits.{edge}
use Rattle.relation.specs.Rel.{nodes}
use Rattle.models.specs.Graph.{base}
use Rattle.layout.specs.Decode.{decode}
use Rattle.reading.specs.Readable.{Chained}
use Rattle.recording_demo.proofs.show.Given as goal

abbrev pub invariant-loop-b : goal.invariant-loop-b
invariant-loop-b g l = Chained l.file × (edge l.po ≡ (base nodes (decode l.file)).po)

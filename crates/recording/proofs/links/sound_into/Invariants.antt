-- `links::sound_into` meets its contract: what is left decides what all the links do, and the rf sources taken and left are all.
use mathlib.Core.Path.{◌≡◌}
use Rattle.relation.specs.Bits.{bit, edge}
use Rattle.relation.specs.Rel.{nodes}
use Rattle.models.specs.Graph.{base}
use Rattle.layout.specs.Decode.{decode}
use Rattle.reading.specs.Readable.{within}
use Rattle.reading.proofs.LinkLaws.{Ahead, Taken}
use Rattle.recording.specs.Causes.{link_sound}
use Rattle.recording.proofs.IntoLaws.{Along}
use Rattle.recording.proofs.links.sound_into.Given as goal

abbrev pub invariant-loop-m : goal.invariant-loop-m
invariant-loop-m l =
    (edge l.po ≡ (base nodes (decode l.file)).po) × Ahead l.file (within l.file) l.b l.m-iterator × Along l.file (link_sound l.file l.b) l.b l.m-iterator
    × Taken l.file 1 l.b l.m-iterator (bit l.sources)

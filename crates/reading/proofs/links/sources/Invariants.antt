-- `links::sources` meets its contract: those taken and those left are all.
use Rattle.relation.specs.Bits.{bit}
use Rattle.reading.specs.Readable.{readable}
use Rattle.reading.proofs.LinkLaws.{Ahead, Taken}
use Rattle.reading.proofs.links.sources.Given as goal

abbrev pub invariant-loop-m : goal.invariant-loop-m
invariant-loop-m l = Ahead l.file (readable l.file) l.b l.m-iterator × Taken l.file l.t l.b l.m-iterator (bit l.row)

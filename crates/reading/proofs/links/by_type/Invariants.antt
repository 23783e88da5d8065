-- `links::by_type` meets its contract: those sorted and those left are all.
use Rattle.reading.specs.Readable.{readable}
use Rattle.reading.proofs.LinkLaws.{Ahead, Sorted}
use Rattle.reading.proofs.links.by_type.Given as goal

abbrev pub invariant-loop-m : goal.invariant-loop-m
invariant-loop-m l = Ahead l.file (readable l.file) l.b l.m-iterator × Sorted l.file l.b l.m-iterator l.rows

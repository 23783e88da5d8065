-- `write::write_links` meets its contract, event by event.
use Prim.Native.Nat.{◌+◌, ◌≤◌}
use Rattle.translation.specs.Translation.{chip}
use Rattle.translation.proofs.WriteLaws.{RecordsWritten, links_below}
use Rattle.translation.proofs.write.write_links.Given as goal

abbrev pub invariant-loop-b : goal.invariant-loop-b
invariant-loop-b l = (l.b ≤ l.n + 1) × RecordsWritten l.file l.n l.initial.part 0 (links_below (chip l.file)) l.b l.m l.part

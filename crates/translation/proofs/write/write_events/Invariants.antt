-- `write::write_events` meets its contract, event by event.
use Prim.Native.Nat.{◌+◌, ◌≤◌}
use Rattle.translation.specs.Encode.{event_records}
use Rattle.translation.specs.Translation.{chip}
use Rattle.translation.proofs.WriteLaws.{RecordsWritten}
use Rattle.translation.proofs.write.write_events.Given as goal

abbrev pub invariant-loop-e : goal.invariant-loop-e
invariant-loop-e l = (l.e ≤ l.n + 1) × RecordsWritten l.file l.n l.initial.out 8 (event_records (chip l.file)) l.e l.before l.out

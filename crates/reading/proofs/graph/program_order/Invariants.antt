-- `graph::program_order` meets its contract: from the end of the line on, the row of each event.
use Rattle.std.specs.Iterator.Adapters.{rev_source}
use Rattle.std.specs.Slice.Iter.{iter_rest}
use Rattle.reading.proofs.ThreadLaws.{Backward}
use Rattle.reading.proofs.graph.program_order.Given as goal

abbrev pub invariant-loop-event : goal.invariant-loop-event
invariant-loop-event l = (goal.iterator-loop-event).can_next l.event-iterator × (goal.iterator-loop-event).is_finite l.event-iterator × Backward l.file (iter_rest (rev_source l.event-iterator)) l.h

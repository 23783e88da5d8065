-- `write::write_into` meets its contract, type by type.
use Rattle.translation.proofs.WriteLaws.{IntoWritten}
use Rattle.translation.proofs.write.write_into.Given as goal

abbrev pub invariant-loop-t : goal.invariant-loop-t
invariant-loop-t l = IntoWritten l.file l.b l.n l.last l.initial.part l.t l.m l.part

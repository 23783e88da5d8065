-- `show` may call what it calls: what the causes of the header and of the records leave.
use mathlib.Core.Path.{refl, sym}
use Rattle.recording.proofs.CauseLaws.{threads_of_records, chained_of_records}
use Rattle.recording_demo.proofs.show.Goals as goal

pub program_order-po-requires : goal.program_order-po-requires
program_order-po-requires g c = let sized = c.in-Ok.ensures.sized refl in (sized, threads_of_records _ sized (sym c.in-Ok-record_refusal.ensures))

pub loop-b-init : goal.loop-b-init
loop-b-init g c =
    (chained_of_records _ (c.in-Ok.ensures.sized refl) (sym c.in-Ok-record_refusal.ensures), c.program_order-po.ensures)

-- `translate` meets its contract: refused as loading says, or written.
use mathlib.Core.Path.{sym}
use Rattle.recording.proofs.CauseLaws.{cause_goes_on}
use Rattle.output.proofs.FillLaws.{fills_raised}
use Rattle.translation.proofs.translate.Goals as goal

pub returns-in_err-loads_as : goal.returns-in_err-loads_as
returns-in_err-loads_as c = fills_raised _ _ _ _ _ c.from_residual.ensures.1 c.in_err-loads_as.ensures

pub written-requires : goal.written-requires
written-requires c = cause_goes_on _ _ (sym c.in_ok-loads_as.ensures)

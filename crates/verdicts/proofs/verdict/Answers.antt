-- `verdict` meets its contract: refused before the verdict begins, or judged.
use mathlib.Core.Path.{sym}
use Rattle.recording.proofs.CauseLaws.{cause_goes_on}
use Rattle.verdicts.proofs.verdict.Goals as goal

pub loaded-requires : goal.loaded-requires
loaded-requires c = cause_goes_on _ _ (sym c.in_ok-loads_as.ensures)

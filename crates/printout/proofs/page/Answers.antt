-- `page` meets its contract: refused as loading says, or written.
use mathlib.Core.Path.{sym}
use Rattle.output.proofs.FillLaws.{fills_raised}
use Rattle.printout.proofs.page.Goals as goal

pub returns-in_err-load : goal.returns-in_err-load
returns-in_err-load c = fills_raised _ _ _ _ _ c.from_residual.ensures.1 c.in_err-load.ensures.refused

pub written-requires : goal.written-requires
written-requires c = sym c.in_ok-load.ensures.refused

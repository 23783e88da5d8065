-- `probe_page` meets its contract: the answer as a number.
use Rattle.printout.proofs.PageCall.{few_bytes}
use Rattle.probe.proofs.ProbeLaws.{few}
use Rattle.probe.proofs.probe_page.Goals as goal

pub answered-requires : goal.answered-requires
answered-requires c = few 1458 c.page.ensures (few_bytes _ _)

pub returns : goal.returns
returns c = c.answered.ensures _ _ _ _ c.page.ensures

-- `why::of_none` meets its contract: what loading answers, else 11.
use Rattle.probe.proofs.WhyLaws.{none_refused, none_loads}
use Rattle.probe.proofs.why.of_none.Goals as goal

pub returns-in_default : goal.returns-in_default
returns-in_default c = none_loads c.load.ensures c.in_default.is c.number.ensures c.coded.ensures

pub returns : goal.returns
returns c = none_refused c.load.ensures c.in-Err.is c.number-2.ensures c.coded-2.ensures

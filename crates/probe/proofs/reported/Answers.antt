-- `reported` meets its contract: a refusal's number, or the events are stored.
use Rattle.probe.proofs.WhyLaws.{reported_ok, reported_err}
use Rattle.probe.proofs.reported.Goals as goal

pub returns-in-Ok : goal.returns-in-Ok
returns-in-Ok c = reported_ok c.in-Ok.is c.shown.ensures

pub returns-in-Err : goal.returns-in-Err
returns-in-Err c = reported_err _ c.in-Err.is c.number.ensures c.coded.ensures

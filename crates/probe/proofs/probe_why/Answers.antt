-- `probe_why` meets its contract, by the number of the model.
use Rattle.probe.proofs.WhyLaws.{why_model, why_none}
use Rattle.probe.proofs.probe_why.Goals as goal

pub returns-in-Some : goal.returns-in-Some
returns-in-Some c = why_model c.model_of.ensures _ c.in-Some.is c.of_model.ensures

pub returns-in-None : goal.returns-in-None
returns-in-None c = why_none c.model_of.ensures c.in-None.is (c.of_none.ensures _)

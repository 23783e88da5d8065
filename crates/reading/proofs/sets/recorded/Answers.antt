-- `sets::recorded` meets its contract, call by call.
use Rattle.reading.proofs.SortLaws.{recorded_range}
use Rattle.reading.proofs.sets.recorded.Goals as goal

pub returns : goal.returns
returns c = recorded_range _ _ _ _ c.events.ensures.0 c.below.ensures c.without.ensures

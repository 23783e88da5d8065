-- `sets::initial` meets its contract, call by call.
use Rattle.reading.proofs.SortLaws.{initial_range}
use Rattle.reading.proofs.sets.initial.Goals as goal

pub returns : goal.returns
returns c = initial_range _ _ _ _ _ c.locations.ensures.0 c.below.ensures c.below-2.ensures c.minus.ensures

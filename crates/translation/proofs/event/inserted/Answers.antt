-- `event::inserted` meets its contract.
use Rattle.translation.proofs.SourceFacts.{sized}
use Rattle.translation.proofs.EventLaws.{inserted_is}
use Rattle.translation.proofs.event.inserted.Goals as goal

pub events-requires : goal.events-requires
events-requires c = sized _ c.requires.0

pub returns : goal.returns
returns c = inserted_is _ _ _ _ c.events.ensures.0 c.strong_below.ensures.0

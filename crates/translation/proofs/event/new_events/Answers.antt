-- `event::new_events` meets its contract.
use Rattle.translation.proofs.SourceFacts.{sized}
use Rattle.translation.proofs.EventLaws.{new_events_are}
use Rattle.translation.proofs.event.new_events.Goals as goal

pub events-n-requires : goal.events-n-requires
events-n-requires c = sized _ c.requires

pub returns : goal.returns
returns c = new_events_are _ c.requires _ _ c.events-n.ensures.0 c.strong_below.ensures.0

-- `event::is_fence_of` meets its contract.
use Rattle.translation.proofs.SourceFacts.{sized}
use Rattle.translation.proofs.EventLaws.{fence_yes, fence_no}
use Rattle.translation.proofs.event.is_fence_of.Goals as goal

pub is_flagged-requires : goal.is_flagged-requires
is_flagged-requires c = sized _ c.requires.0

pub returns-then-is_flagged : goal.returns-then-is_flagged
returns-then-is_flagged c = fence_yes _ c.requires.0 _ _ _ _ c.is_flagged.ensures c.if-is_flagged.true c.inserted.ensures

pub returns-else-is_flagged : goal.returns-else-is_flagged
returns-else-is_flagged c = fence_no _ c.requires.0 _ _ _ c.is_flagged.ensures c.if-is_flagged.false

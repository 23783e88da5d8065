-- `event::record` meets its contract, byte by byte.
use Rattle.translation.proofs.EventLaws.{record_is}
use Rattle.translation.proofs.event.record.Goals as goal

pub returns : goal.returns
returns c =
    record_is _ _ c.after.ensures.0 c.kept_or.ensures.0 c.new_mode.ensures.0 c.new_flag.ensures.0 c.kept_or-2.ensures.0 c.kept_or-3.ensures.0
    c.kept_or-4.ensures.0 c.requires.3

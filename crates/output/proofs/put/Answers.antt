-- `put` meets its contract: the bytes are copied over those from the place on.
use Rattle.output.proofs.OutputLaws.{copied_placed}
use Rattle.output.proofs.put.Goals as goal

pub returns : goal.returns
returns c = copied_placed _ _ _ _ c.copy_from_slice.ensures.after

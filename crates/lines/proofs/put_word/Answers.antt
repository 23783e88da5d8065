-- `put_word` meets its contract: the bytes are put behind the others.
use Rattle.lines.proofs.put_word.Goals as goal

pub returns : goal.returns
returns c = c.extend_from_slice.ensures.items

-- `as_slice` meets its contract: the first cells are the items.
use Rattle.sequence.proofs.Sequence.as_slice.Goals as goal

pub returns-clause-value : goal.returns-clause-value
returns-clause-value o c = λ i. (c.self.view_is i).items

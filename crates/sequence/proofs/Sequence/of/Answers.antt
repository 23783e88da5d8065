-- `of` meets its contract: the first cells are the items.
use mathlib.Core.Path.{refl}
use Rattle.sequence.proofs.Sequence.of.Goals as goal

pub returns : goal.returns
returns o c = refl

-- `new` meets its contract: no cell is an item.
use mathlib.Core.Path.{refl}
use Rattle.sequence.proofs.Sequence.new.Goals as goal

pub returns : goal.returns
returns o c = refl

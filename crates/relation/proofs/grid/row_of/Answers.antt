-- `grid::row_of` meets its contract: it is the definition.
use mathlib.Core.Path.{refl}
use Rattle.relation.specs.Bits.{edge}
use Rattle.relation.proofs.grid.row_of.Goals as goal

pub returns : goal.returns
unfolding edge
returns c = refl

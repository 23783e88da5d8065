-- `grid::has` meets its contract.
use Rattle.relation.specs.Bits.{edge}
use Rattle.relation.proofs.grid.has.Goals as goal

pub returns : goal.returns
unfolding edge
returns c = c.has.ensures

-- `grid::empty` meets its contract.
use Rattle.relation.proofs.GridLaws.{edge_empty}
use Rattle.relation.proofs.grid.empty.Goals as goal

pub returns : goal.returns
returns c = edge_empty

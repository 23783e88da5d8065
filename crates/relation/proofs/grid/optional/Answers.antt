-- `grid::optional` meets its contract: its definition, call by call.
use Rattle.relation.specs.Rel.{optional}
use Rattle.relation.proofs.grid.optional.Goals as goal

pub returns : goal.returns
unfolding optional
returns c = cc

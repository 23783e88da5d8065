-- `grid::star` meets its contract: its definition, call by call.
use Rattle.relation.specs.Rel.{star}
use Rattle.relation.proofs.grid.star.Goals as goal

pub returns : goal.returns
unfolding star
returns c = cc

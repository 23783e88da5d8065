-- `grid::with` meets its contract: one row gains one event.
use Rattle.relation.proofs.GridLaws.{edge_with}
use borrow.Author.Rules.{rules}
use Rattle.relation.proofs.grid.with.Goals as goal

pub returns : goal.returns
returns c = edge_with _ _ _ _ (search rules) c.requires.0 c.with.ensures

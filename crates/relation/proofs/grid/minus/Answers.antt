-- `grid::minus` meets its contract, row by row.
use mathlib.Core.Path.{ap₂}
use Rattle.relation.specs.Rel.{difference, minus, empty}
use Rattle.relation.specs.Bits.{edge}
use Rattle.relation.proofs.GridLaws.{edge_out}
use Rattle.relation.proofs.MadeLaws.{rows_made, from_fact}
use borrow.Author.Rules.{rules}
use Rattle.relation.proofs.grid.minus.Goals as goal

pub returns : goal.returns
unfolding minus edge difference empty
returns c =
    rows_made _ _ (search rules) (λ i h. from_fact (c.row_by_row.ensures i h) (λ k. search rules))
    (λ m h. ap₂ difference (edge_out c.args.a (search rules) m h) (edge_out c.args.b (search rules) m h))

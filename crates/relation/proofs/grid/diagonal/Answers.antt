-- `grid::diagonal` meets its contract, event by event.
use mathlib.Core.Path.{ap}
use Rattle.relation.specs.Rel.{Set, diagonal, empty}
use Rattle.relation.specs.Bits.{edge}
use Rattle.relation.proofs.GridLaws.{edge_out}
use Rattle.relation.proofs.MadeLaws.{set_made, from_fact}
use borrow.Author.Rules.{rules}
use Rattle.relation.proofs.grid.diagonal.Goals as goal

pub returns : goal.returns
unfolding diagonal edge empty
returns c =
    set_made _ _ (λ i h. from_fact (c.passing.ensures i h) (λ k. search rules))
    (λ m h. ap (λ (s : Set). s m) (edge_out c.args.g (search rules) m h))

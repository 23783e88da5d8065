-- `grid::returning` meets its contract, event by event.
use Rattle.relation.proofs.GridLaws.{returning_at, returning_out}
use Rattle.relation.proofs.MadeLaws.{set_made, from_fact}
use borrow.Author.Rules.{rules}
use Rattle.relation.proofs.grid.returning.Goals as goal

pub returns : goal.returns
returns c = set_made _ _ (λ i h. from_fact (c.passing.ensures i h) (λ k. search (rules, returning_at))) (returning_out _ _ (search rules))

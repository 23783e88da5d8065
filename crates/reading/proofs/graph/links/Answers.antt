-- `graph::links` meets its contract.
use mathlib.Core.Path.{ap, ◌∙◌}
use Rattle.relation.specs.Rel.{inverse}
use Rattle.reading.proofs.graph.links.Goals as goal

pub returns : goal.returns
unfolding inverse
returns c = c.inverse.ensures ∙ ap inverse c.link_rows.ensures

-- `graph::coherence` meets its contract, call by call.
use mathlib.Core.Path.{ap, ◌∙◌}
use Rattle.relation.specs.Rel.{plus, nodes}
use Rattle.models.specs.Graph.{base}
use Rattle.reading.proofs.graph.coherence.Goals as goal

pub returns : goal.returns
unfolding base
returns c = c.closure.ensures ∙ ap (plus nodes) c.co_steps.ensures

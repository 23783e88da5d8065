-- `control` meets its contract.
use mathlib.Core.Path.{ap₂, ◌∙◌}
use Rattle.relation.specs.Rel.{compose, optional, nodes}
use Rattle.models.specs.Graph.{base}
use Rattle.execution.proofs.control.Goals as goal

pub returns : goal.returns
unfolding base
returns c =
    c.then.ensures ∙ ap₂ (compose nodes) c.requires.2 (c.optional.ensures ∙ ap₂ optional c.events.ensures c.requires.1)

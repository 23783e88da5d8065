-- `events` meets its contract.
use mathlib.Core.Path.{ap₂, ◌∙◌}
use Rattle.relation.specs.Rel.{union}
use Rattle.models.specs.Recording.{event}
use Rattle.layout.specs.Decode.{decode}
use Rattle.execution.proofs.events.Goals as goal

pub returns : goal.returns
unfolding event union decode
returns c = c.or.ensures ∙ ap₂ union c.initial.ensures c.recorded.ensures

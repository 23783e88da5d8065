-- `causes::too_long` meets its contract.
use mathlib.Core.Path.{ap, ap₂, ◌∙◌}
use lib.Dec.{ltb}
use Rattle.layout.specs.Layout.{most_in_thread}
use Rattle.recording.specs.Causes.{too_long}
use Rattle.recording.proofs.causes.too_long.Goals as goal

pub returns : goal.returns
unfolding too_long
returns c = ap₂ ltb (c.most_in_thread-most.ensures ∙ ap most_in_thread c.side.ensures) c.length_of.ensures

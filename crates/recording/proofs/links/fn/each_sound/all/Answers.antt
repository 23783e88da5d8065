-- The test of `links::each_sound` is that of the link, into the event.
use mathlib.Core.Path.{ap₂, ◌∙◌}
use native.Mathlib.Omega.{arith}
use Rattle.recording.specs.Causes.{link_sound}
use Rattle.recording.proofs.links.fn.each_sound.all.Goals as goal

pub returns : goal.returns
returns c = c.sound.ensures ∙ ap₂ (link_sound c.captures.file.now) (omega arith) (omega arith)

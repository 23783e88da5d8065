-- `links::sound` meets its contract: the row is that of the link's source.
use mathlib.Core.Path.{◌∙◌}
use Rattle.reading.proofs.LinkLaws.{row_of_source}
use Rattle.recording.proofs.links.sound.Goals as goal

pub link_sound-requires : goal.link_sound-requires
link_sound-requires c =
    let pre = c.requires in
    (pre.0, pre.2, pre.3, λ h. c.has.ensures ∙ row_of_source _ _ _ _ _ pre.1 c.link_byte.ensures.0 h)

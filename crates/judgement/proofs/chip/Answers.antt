-- `chip` meets its contract: the translation loads, and it is judged.
use mathlib.Core.Path.{◌∙◌}
use Rattle.judgement.proofs.ChipLaws.{chip_loads, chip_judged}
use Rattle.judgement.proofs.chip.Goals as goal

pub loaded-requires : goal.loaded-requires
loaded-requires c = chip_loads _ c.requires (c.as_slice.ensures.value ∙ c.translated.ensures)

pub returns : goal.returns
returns c = chip_judged _ _ _ (c.as_slice.ensures.value ∙ c.translated.ensures) c.loaded.ensures

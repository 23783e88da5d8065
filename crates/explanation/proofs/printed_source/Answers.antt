-- `printed_source` meets its contract: the three verdicts, each with its steps.
use mathlib.Core.Path.{◌∙◌}
use Rattle.judgement.proofs.ChipLaws.{chip_loads}
use Rattle.explanation.proofs.WhyLaws.{source_why, judged_bytes, reasons}
use Rattle.explanation.proofs.printed_source.Goals as goal

pub explained-source-requires : goal.explained-source-requires
explained-source-requires c = (c.requires, c.of_source-judged.ensures.source)

pub explained-chip-requires : goal.explained-chip-requires
explained-chip-requires c =
    let bytes = c.as_slice.ensures.value ∙ c.translated-chip_file.ensures in
    (chip_loads _ c.requires bytes, judged_bytes _ _ _ bytes c.of_source-judged.ensures.chip)

pub explained-tso-requires : goal.explained-tso-requires
explained-tso-requires c = (c.requires, c.of_source-judged.ensures.tso)

pub returns : goal.returns
returns c =
    let all = c.of_source-judged.ensures in
    source_why c.new-text.ensures (c.as_slice.ensures.value ∙ c.translated-chip_file.ensures) all.source all.chip all.tso all.sound all.tso_sound
    (reasons c.explained-source.ensures c.as_slice-2.ensures.value c.reason.ensures.put)
    (reasons c.explained-chip.ensures c.as_slice-3.ensures.value c.reason-2.ensures.put)
    (reasons c.explained-tso.ensures c.as_slice-4.ensures.value c.reason-3.ensures.put)

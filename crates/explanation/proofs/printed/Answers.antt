-- `printed` meets its contract: by what loading answers, and by the side.
use Rattle.recording.proofs.CauseLaws.{loaded_side}
use Rattle.judgement.proofs.PrintLaws.{refusal_text, source_text, chip_text, alone}
use Rattle.explanation.proofs.WhyLaws.{reasoned_alone, reasons}
use Rattle.explanation.proofs.printed.Goals as goal

pub returns-in_default : goal.returns-in_default
returns-in_default c =
    refusal_text _ _ c.load-loaded.ensures c.in_default.is c.number_of.ensures (alone c.new-text.ensures c.add.ensures.added c.refused.ensures)

pub printed_source-requires : goal.printed_source-requires
printed_source-requires c = loaded_side c.load-loaded.ensures c.in-Ok.is c.if-header.true

pub returns-then-header : goal.returns-then-header
returns-then-header c = source_text _ _ _ _ (loaded_side c.load-loaded.ensures c.in-Ok.is c.if-header.true) c.printed_source.ensures

pub loaded-verdict-requires : goal.loaded-verdict-requires
loaded-verdict-requires c = loaded_side c.load-loaded.ensures c.in-Ok.is c.if-header.false

pub explained-steps-requires : goal.explained-steps-requires
explained-steps-requires c = (loaded_side c.load-loaded.ensures c.in-Ok.is c.if-header.false, c.loaded-verdict.ensures)

pub returns : goal.returns
returns c =
    chip_text _ _ _ _ (loaded_side c.load-loaded.ensures c.in-Ok.is c.if-header.false)
    (reasoned_alone c.new-text-2.ensures c.loaded-verdict.ensures (reasons c.explained-steps.ensures c.as_slice.ensures.value c.reason.ensures.put))

-- `page::printed` meets its contract: by what loading answers, and by the side.
use Rattle.recording.proofs.CauseLaws.{loaded_side}
use Rattle.judgement.proofs.PrintLaws.{refusal_text, source_text, chip_text, alone}
use Rattle.judgement.proofs.page.printed.Goals as goal

pub returns-in_default : goal.returns-in_default
returns-in_default c =
    refusal_text _ _ c.load-loaded.ensures c.in_default.is c.number_of.ensures (alone c.new-page.ensures c.add.ensures.added c.refused.ensures)

pub loaded-requires : goal.loaded-requires
loaded-requires c = loaded_side c.load-loaded.ensures c.in-Ok.is c.if-header.true

pub starred-requires : goal.starred-requires
starred-requires c = (loaded_side c.load-loaded.ensures c.in-Ok.is c.if-header.true).loads

pub returns-then-header : goal.returns-then-header
returns-then-header c =
    source_text _ _ _ _ (loaded_side c.load-loaded.ensures c.in-Ok.is c.if-header.true)
    (record { verdict = _; judged = c.loaded.ensures; prints = c.starred.ensures })

pub loaded-requires-2 : goal.loaded-requires-2
loaded-requires-2 c = loaded_side c.load-loaded.ensures c.in-Ok.is c.if-header.false

pub starred-requires-2 : goal.starred-requires-2
starred-requires-2 c = (loaded_side c.load-loaded.ensures c.in-Ok.is c.if-header.false).loads

pub returns : goal.returns
returns c =
    chip_text _ _ _ _ (loaded_side c.load-loaded.ensures c.in-Ok.is c.if-header.false)
    (record { verdict = _; judged = c.loaded-2.ensures; prints = c.starred-2.ensures })

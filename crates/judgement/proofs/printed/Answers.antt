-- `printed` meets its contract: by what loading answers, and by the side.
use mathlib.Core.Path.{ap₂, ◌∙◌}
use mathlib.Core.List.{◌++◌}
use Rattle.recording.proofs.CauseLaws.{loaded_side}
use Rattle.judgement.proofs.PrintLaws.{source_lines, refusal_text, source_text, chip_text, alone}
use Rattle.judgement.proofs.printed.Goals as goal

pub returns-in_default : goal.returns-in_default
returns-in_default c =
    refusal_text _ _ c.load-loaded.ensures c.in_default.is c.number_of.ensures (alone c.new-text.ensures c.add.ensures.added c.refused.ensures)

pub of_source-verdicts-requires : goal.of_source-verdicts-requires
of_source-verdicts-requires c = loaded_side c.load-loaded.ensures c.in-Ok.is c.if-source.true

pub returns-then-source : goal.returns-then-source
returns-then-source c =
    let all = c.of_source-verdicts.ensures in
    let first = alone c.new-text.ensures c.add-then-source.ensures.added c.line.ensures in
    let second = c.add-then-source-2.ensures.added ∙ ap₂ ◌++◌ first c.line-then-source.ensures in
    source_text _ _ _ _ (loaded_side c.load-loaded.ensures c.in-Ok.is c.if-source.true)
    (source_lines all.source all.chip all.tso all.sound all.tso_sound
    (c.add-then-source-3.ensures.added ∙ ap₂ ◌++◌ second c.line-then-source-2.ensures))

pub loaded-verdict-requires : goal.loaded-verdict-requires
loaded-verdict-requires c = loaded_side c.load-loaded.ensures c.in-Ok.is c.if-source.false

pub returns : goal.returns
returns c =
    chip_text _ _ _ _ (loaded_side c.load-loaded.ensures c.in-Ok.is c.if-source.false)
    (record { on_chip = _; judged_chip = c.loaded-verdict.ensures; prints = alone c.new-text.ensures c.add-2.ensures.added c.line-2.ensures })

-- `link::from_exclusive` meets its contract, by cases.
use mathlib.Core.Path.{sym, ◌∙◌}
use Rattle.translation.proofs.SourceFacts.{sized}
use Rattle.translation.proofs.LinkRows.{row_none, row_one, exclusive_row, exclusive_bounds}
use Rattle.translation.proofs.link.from_exclusive.Goals as goal

pub is_flagged-requires : goal.is_flagged-requires
is_flagged-requires c = sized _ c.requires

pub returns-then-not-is_flagged : goal.returns-then-not-is_flagged
returns-then-not-is_flagged c =
    row_none _ c.if-not-is_flagged.true c.none.ensures ∙ exclusive_row _ c.requires _ c.is_flagged.ensures

pub controlled-requires : goal.controlled-requires
controlled-requires c =
    let within = exclusive_bounds _ c.requires _ (sym c.is_flagged.ensures ∙ c.if-not-is_flagged.false) in
    (c.requires, within.0, within.1)

pub returns : goal.returns
returns c =
    row_one c.if-not-is_flagged.false c.none-2.ensures c.with.ensures c.controlled.ensures.0
    ∙ exclusive_row _ c.requires _ c.is_flagged.ensures

-- `link::following` meets its contract, by cases.
use mathlib.Core.Path.{sym, ◌∙◌}
use Rattle.layout.proofs.FieldLaws.{recorded_bounds}
use Rattle.translation.proofs.SourceFacts.{sized}
use Rattle.translation.proofs.LinkRows.{old_new, row_none, row_one, following_row}
use Rattle.translation.proofs.link.following.Goals as goal

pub is_recorded-requires : goal.is_recorded-requires
is_recorded-requires c = sized _ c.requires

pub returns-then-not-is_recorded : goal.returns-then-not-is_recorded
returns-then-not-is_recorded c =
    row_none _ c.if-not-is_recorded.true c.none.ensures ∙ following_row _ c.requires _ c.is_recorded.ensures

pub after-requires : goal.after-requires
after-requires c =
    let within = recorded_bounds _ _ (sym c.is_recorded.ensures ∙ c.if-not-is_recorded.false) in
    (c.requires, old_new _ c.requires _ within.0 within.1)

pub returns : goal.returns
returns c =
    row_one c.if-not-is_recorded.false c.none-2.ensures c.with.ensures c.after.ensures.0
    ∙ following_row _ c.requires _ c.is_recorded.ensures

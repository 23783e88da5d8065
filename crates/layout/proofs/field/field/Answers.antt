-- `field::field` meets its contract, by the cases of its definition.
use mathlib.Core.Path.{sym, ◌∙◌}
use Rattle.layout.proofs.FieldLaws.{recorded_bounds, field_initial, field_recorded, field_none}
use borrow.Author.Rules.{rules}
use Rattle.layout.proofs.field.field.Goals as goal

pub returns-then-e-ge56 : goal.returns-then-e-ge56
returns-then-e-ge56 c = (field_initial _ _ _ _ c.if-e-ge56.true, c.requires.2)

pub event_byte-requires : goal.event_byte-requires
event_byte-requires c =
    let pre = c.requires in
    let within = recorded_bounds _ _ (sym c.is_recorded.ensures ∙ c.if-is_recorded.true) in
    (pre.0, within.0, within.1, pre.1)

pub returns-then-is_recorded : goal.returns-then-is_recorded
returns-then-is_recorded c =
    (field_recorded _ _ _ _ _ c.if-e-ge56.false c.event_byte.ensures.0 (sym c.is_recorded.ensures ∙ c.if-is_recorded.true), c.event_byte.ensures.1)

pub returns : goal.returns
returns c =
    (field_none _ _ _ _ c.if-e-ge56.false (sym c.is_recorded.ensures ∙ c.if-is_recorded.false), search rules)

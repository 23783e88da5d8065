-- `field::is_recorded` meets its contract.
use Rattle.layout.proofs.FieldLaws.{recorded_yes, recorded_no}
use Rattle.layout.proofs.field.is_recorded.Goals as goal

pub returns-then-e-ge1 : goal.returns-then-e-ge1
returns-then-e-ge1 c = recorded_yes _ _ _ c.events-n.ensures.0 c.if-e-ge1.true

pub returns-else-e-ge1 : goal.returns-else-e-ge1
returns-else-e-ge1 c = recorded_no _ _ c.if-e-ge1.false

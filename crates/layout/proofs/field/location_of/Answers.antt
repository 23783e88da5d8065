-- `field::location_of` meets its contract.
use Rattle.layout.proofs.FieldLaws.{location_initial, location_recorded}
use Rattle.layout.proofs.field.location_of.Goals as goal

pub returns-then-e-ge56 : goal.returns-then-e-ge56
returns-then-e-ge56 c = location_initial _ _ c.if-e-ge56.true

pub returns-else-e-ge56 : goal.returns-else-e-ge56
returns-else-e-ge56 c = location_recorded _ _ _ c.if-e-ge56.false c.field.ensures.0

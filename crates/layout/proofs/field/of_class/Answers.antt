-- `field::of_class` meets its contract: its definition, test by test.
use Rattle.models.specs.Recording.{of_class}
use Rattle.layout.proofs.FieldLaws.{tests}
use Rattle.layout.proofs.field.of_class.Goals as goal

pub returns-then-is_event : goal.returns-then-is_event
unfolding of_class
returns-then-is_event c = search tests

pub returns-else-is_event : goal.returns-else-is_event
unfolding of_class
returns-else-is_event c = search tests

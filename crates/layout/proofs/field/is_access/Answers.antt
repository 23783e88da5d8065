-- `field::is_access` meets its contract: its definition, test by test.
use Rattle.models.specs.Recording.{access}
use Rattle.layout.proofs.FieldLaws.{tests}
use Rattle.layout.proofs.field.is_access.Goals as goal

pub returns-then-of_class : goal.returns-then-of_class
unfolding access
returns-then-of_class c = search tests

pub returns-else-of_class : goal.returns-else-of_class
unfolding access
returns-else-of_class c = search tests

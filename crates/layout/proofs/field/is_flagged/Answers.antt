-- `field::is_flagged` meets its contract: its definition, test by test.
use Rattle.models.specs.Recording.{flagged}
use Rattle.layout.proofs.FieldLaws.{tests}
use Rattle.layout.proofs.field.is_flagged.Goals as goal

pub returns-then-of_class : goal.returns-then-of_class
unfolding flagged
returns-then-of_class c = search tests

pub returns-else-of_class : goal.returns-else-of_class
unfolding flagged
returns-else-of_class c = search tests

-- `field::is_event` meets its contract: its definition, test by test.
use Rattle.models.specs.Recording.{event}
use Rattle.layout.specs.Decode.{decode}
use Rattle.layout.proofs.FieldLaws.{tests}
use Rattle.layout.proofs.field.is_event.Goals as goal

pub returns-then-is_initial : goal.returns-then-is_initial
unfolding event decode
returns-then-is_initial c = search tests

pub returns-else-is_initial : goal.returns-else-is_initial
unfolding event decode
returns-else-is_initial c = search tests

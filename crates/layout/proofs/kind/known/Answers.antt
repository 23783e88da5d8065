-- `kind::known` meets its contract.
use Rattle.layout.specs.Layout.{kind_known}
use Rattle.layout.proofs.FieldLaws.{tests}
use Rattle.layout.proofs.kind.known.Goals as goal

pub returns-then-kind-eq1 : goal.returns-then-kind-eq1
unfolding kind_known
returns-then-kind-eq1 c = search tests

pub returns-else-kind-eq1 : goal.returns-else-kind-eq1
unfolding kind_known
returns-else-kind-eq1 c = search tests

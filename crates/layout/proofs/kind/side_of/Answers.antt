-- `kind::side_of` meets its contract.
use mathlib.Core.Path.{refl}
use Rattle.layout.specs.Layout.{side_of}
use Rattle.layout.proofs.kind.side_of.Goals as goal

pub returns : goal.returns
unfolding side_of
returns c = refl

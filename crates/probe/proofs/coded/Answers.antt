-- `coded` meets its contract.
use mathlib.Core.Path.{refl}
use Rattle.probe.specs.Calls.{coded}
use Rattle.probe.proofs.coded.Goals as goal

pub returns : goal.returns
unfolding coded
returns c = refl

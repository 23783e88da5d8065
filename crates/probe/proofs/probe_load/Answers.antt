-- `probe_load` meets its contract.
use mathlib.Core.Path.{ap, ◌∙◌}
use Prim.Native.Nat.{ℕ}
use Rattle.probe.specs.Calls.{coded}
use Rattle.probe.proofs.probe_load.Goals as goal

pub returns : goal.returns
returns c = c.coded.ensures ∙ ap (λ (k : ℕ). coded k 0 0) (c.number_of.ensures ∙ c.load.ensures.refused)

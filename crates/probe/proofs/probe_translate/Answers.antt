-- `probe_translate` meets its contract: the answer as a number.
use native.Mathlib.Omega.{arith}
use Rattle.layout.specs.Layout.{source}
use Rattle.recording.proofs.CauseLaws.{cause_goes_on}
use Rattle.translation.proofs.Theorems.{few_bytes}
use Rattle.probe.proofs.ProbeLaws.{few}
use Rattle.probe.proofs.probe_translate.Goals as goal

pub answered-requires : goal.answered-requires
answered-requires c = few 1458 c.translate.ensures (λ z. omega (arith, few_bytes _ (cause_goes_on source _ z)))

pub returns : goal.returns
returns c = c.answered.ensures _ _ _ _ c.translate.ensures

-- `model_of` meets its contract, by the number.
use native.Mathlib.Omega.{arith}
use Rattle.lines.specs.declared.Model.TheVariants.{Source, Chip, Tso}
use Rattle.probe.proofs.WhyLaws.{known_model, no_model}
use Rattle.probe.proofs.model_of.Goals as goal

pub returns-in-1 : goal.returns-in-1
returns-in-1 c = known_model _ Source (omega (arith, c.in-1.is))

pub returns-in-2 : goal.returns-in-2
returns-in-2 c = known_model _ Chip (omega (arith, c.in-2.is))

pub returns-in-3 : goal.returns-in-3
returns-in-3 c = known_model _ Tso (omega (arith, c.in-3.is))

pub returns-in_default : goal.returns-in_default
returns-in_default c = no_model _ (λ h. omega (arith, h)) (λ h. omega (arith, h)) (λ h. omega (arith, h))

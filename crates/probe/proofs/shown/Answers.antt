-- `shown` meets its contract: the events are stored, or nothing is.
use mathlib.Core.Path.{refl}
use native.Mathlib.Omega.{arith}
use Rattle.probe.proofs.ProbeLaws.{few}
use Rattle.probe.proofs.WhyLaws.{shown_as}
use Rattle.probe.proofs.shown.Goals as goal

pub answered-requires : goal.answered-requires
answered-requires c = few 1458 c.fill.ensures (λ z. omega (arith, c.as_slice.ensures.fits))

pub answered-requires-in-Err : goal.answered-requires-in-Err
answered-requires-in-Err c = few 1458 c.fill-in-Err.ensures (λ z. omega (arith, c.as_slice-in-Err.ensures.fits))

pub returns-in-Ok : goal.returns-in-Ok
returns-in-Ok c = shown_as c.in-Ok.is refl c.as_slice.ensures.value (c.answered.ensures _ _ _ _ c.fill.ensures)

pub returns-in-Err : goal.returns-in-Err
returns-in-Err c =
    shown_as c.in-Err.is c.number-rule.ensures c.as_slice-in-Err.ensures.value (c.answered-in-Err.ensures _ _ _ _ c.fill-in-Err.ensures)

-- `why::of_model` meets its contract: a refusal's number, or the steps are stored.
use mathlib.Core.Path.{ap, ◌∙◌}
use native.Mathlib.Omega.{arith}
use Rattle.probe.specs.Calls.{bytes_of}
use Rattle.probe.proofs.ProbeLaws.{few}
use Rattle.probe.proofs.WhyLaws.{on_file_loads, explains_refused, explains_loaded}
use Rattle.probe.proofs.why.of_model.Goals as goal

pub returns-in_default : goal.returns-in_default
returns-in_default c = explains_refused c.verdict-judged.ensures c.in_default.is c.number_of.ensures c.coded.ensures

pub explained-requires : goal.explained-requires
explained-requires c = on_file_loads c.verdict-judged.ensures c.in-Ok.is

pub answered-requires : goal.answered-requires
answered-requires c = few 1458 c.fill.ensures (λ z. omega (arith, c.as_slice-2.ensures.fits))

pub returns : goal.returns
returns c =
    explains_loaded c.verdict-judged.ensures c.in-Ok.is c.explained.ensures c.rule_of.ensures
    (c.as_slice-2.ensures.value ∙ c.flat-steps.ensures ∙ ap bytes_of c.as_slice.ensures.value) (c.answered.ensures _ _ _ _ c.fill.ensures)

-- `causes::loads_as` meets its contract, by what loading answered.
use mathlib.Core.Path.{◌∙◌}
use mathlib.Core.Bool.{true, false}
use Rattle.models.specs.Rules.{first}
use Rattle.refusal.proofs.RefusalLaws.{number_raised}
use Rattle.recording.proofs.CauseLaws.{cause_refused, cause_side}
use Rattle.recording.proofs.causes.loads_as.Goals as goal

pub returns-in_err-header : goal.returns-in_err-header
returns-in_err-header c = number_raised _ _ c.from_residual.ensures.1 ∙ cause_refused _ c.in_err-header.ensures

pub returns-then-header-source : goal.returns-then-header-source
unfolding first
returns-then-header-source c = cause_side _ true c.in_ok-header.ensures c.if-header-source.true

pub returns : goal.returns
unfolding first
returns c = cause_side _ false c.in_ok-header.ensures c.if-header-source.false

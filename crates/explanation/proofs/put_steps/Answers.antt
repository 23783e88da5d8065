-- `put_steps`: the line of one step more is put.
use native.Mathlib.Omega.{arith}
use mathlib.Core.Path.{ap, ◌∙◌}
use lib.ListN.{length}
use Rattle.models.specs.Why.{clauses_of}
use Rattle.lines.specs.Lines.{model_word}
use Rattle.verdicts.specs.ByModel.{clauses_for}
use Rattle.explanation.specs.StepLine.{step_line}
use Rattle.explanation.proofs.WhyLaws.{lines_more}
use borrow.Author.Rules.{rules}
use Rattle.explanation.proofs.put_steps.Goals as goal

pub extend_from_slice-requires : goal.extend_from_slice-requires
extend_from_slice-requires c = omega (arith, c.loop-step.invariant.1, c.line-line.ensures.short, ap length c.as_slice.ensures.value, c.requires)

pub loop-step-preserved : goal.loop-step-preserved
loop-step-preserved c = (
  lines_more (step_line (model_word c.args.model) (clauses_of (clauses_for c.args.model) c.args.rule)) c.args.steps.now c.loop-step.step-index _ (search rules)
      c.loop-step.invariant.0 c.extend_from_slice.ensures.items (c.as_slice.ensures.value ∙ c.line-line.ensures.line),
  omega (arith, c.loop-step.invariant.1, c.extend_from_slice.ensures.len, c.line-line.ensures.short, ap length c.as_slice.ensures.value),
)

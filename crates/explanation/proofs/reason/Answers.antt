-- `reason` meets its contract: the line of the verdict, and the lines of the steps.
use native.Mathlib.Omega.{arith}
use Rattle.lines.specs.Lines.{model_word}
use Rattle.verdicts.specs.ByModel.{clauses_for}
use Rattle.explanation.proofs.WhyLaws.{line_and_steps}
use Rattle.explanation.proofs.reason.Goals as goal

pub put_steps-requires : goal.put_steps-requires
put_steps-requires c = omega (arith, c.add.ensures.short, c.requires)

pub returns-clause-put : goal.returns-clause-put
returns-clause-put c =
    line_and_steps (clauses_for c.args.model) (model_word c.args.model) _ c.args.verdict.now c.args.steps.now c.add.ensures.added c.line.ensures
    c.rule_of.ensures c.put_steps.ensures.put

pub returns-clause-short : goal.returns-clause-short
returns-clause-short c = omega (arith, c.put_steps.ensures.short, c.add.ensures.short, c.requires)

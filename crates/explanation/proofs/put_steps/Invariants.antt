-- `put_steps`: the lines of the steps before the one that is next are put.
use Rattle.std.proofs.Common.{◌≡◌, ◌++◌, ◌+◌, ◌*◌, ◌≤◌, length, take}
use Rattle.models.specs.Why.{clauses_of}
use Rattle.lines.specs.Lines.{model_word}
use Rattle.verdicts.specs.ByModel.{clauses_for}
use Rattle.explanation.specs.StepLine.{step_lines}
use Rattle.explanation.proofs.put_steps.Given as goal

abbrev pub invariant-loop-step : goal.invariant-loop-step
invariant-loop-step l =
    (l.text.items
    ≡ l.initial.text.items ++ step_lines (model_word l.model) (clauses_of (clauses_for l.model) l.rule) (take l.step-index l.steps))
    × (length l.text.items ≤ length l.initial.text.items + 44 * l.step-index)

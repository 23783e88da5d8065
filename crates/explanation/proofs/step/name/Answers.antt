-- `step::name` meets its contract: the n-th of the names.
use mathlib.Core.Path.{sym, ap, ◌∙◌}
use lib.ListN.{length}
use native.Mathlib.Omega.{arith}
use Rattle.explanation.specs.StepLine.{name_of}
use Rattle.explanation.proofs.NameLaws.{named, unnamed, name_none, name_short}
use Rattle.explanation.proofs.step.name.Goals.{then-n-eq0-via-then-n-eq0, then-n-eq0-via-else-n-eq0+then-names-n}
use Rattle.explanation.proofs.step.name.Goals as goal

pub returns-then-n-eq0-clause-name : goal.returns-then-n-eq0-clause-name
returns-then-n-eq0-clause-name c =
    elim c.then-n-eq0.branch [
      | then-n-eq0-via-then-n-eq0 w ↦ sym (name_none _) ∙ ap (name_of _) (sym w.if-n-eq0.true)
      | then-n-eq0-via-else-n-eq0+then-names-n w ↦ unnamed _ _ c.names-names.ensures c.args.n w.if-names-n.true
    ]

pub returns-clause-name : goal.returns-clause-name
returns-clause-name c = c.as_bytes.ensures.value ∙ named _ _ c.names-names.ensures c.args.n _ c.if-n-eq0.false c.if-names-n.false

pub returns-clause-short : goal.returns-clause-short
returns-clause-short c = omega (arith, ap length (returns-clause-name c), name_short c.args.model c.args.rule c.args.n)

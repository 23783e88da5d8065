-- `steps` meets its contract: k of the steps are made.
use mathlib.Core.Path.{◌≡◌}
use mathlib.Core.List.{map}
use lib.ListN.{length}
use Rattle.relation.specs.Bits.{edge}
use Rattle.models.specs.Clause.{number_from}
use Rattle.clause.specs.Steps.{steps_to}
use Rattle.clause.proofs.steps.Given as goal

abbrev pub invariant-loop-k : goal.invariant-loop-k
invariant-loop-k l = (l.steps.items ≡ steps_to (number_from 1 (map edge l.clauses)) l.ring l.k) × (length l.steps.items ≡ l.k)

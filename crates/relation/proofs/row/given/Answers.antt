-- `row::given` meets its contract.
use mathlib.Core.Path.{◌∙◌}
use Rattle.relation.proofs.SetLaws.{given_yes, given_no}
use Rattle.relation.proofs.row.given.Goals as goal

pub returns-then-b : goal.returns-then-b
returns-then-b c = given_yes _ _ c.if-b.true

pub returns : goal.returns
returns c = c.none.ensures ∙ given_no _ _ c.if-b.false

-- `write::chained` meets its contract.
use mathlib.Core.Path.{sym, ◌∙◌}
use native.Mathlib.Numerals.{add-one}
use native.Mathlib.Omega.{arith}
use Rattle.translation.proofs.Runs.{chained_on, chained_end}
use borrow.Author.Rules.{rules}
use Rattle.translation.proofs.write.chained.Goals as goal

pub returns-then-n-last : goal.returns-then-n-last
returns-then-n-last c = (add-one _ ∙ sym (chained_on _ _ c.if-n-last.true), omega arith)

pub returns : goal.returns
returns c = (sym (chained_end _ _ c.if-n-last.false), search rules)

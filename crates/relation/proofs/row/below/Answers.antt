-- `row::below` meets its contract: a number with the bits below n, or every bit.
use mathlib.Core.Path.{ap, sym, ◌∙◌}
use native.Mathlib.Omega.{arith}
use Rattle.relation.specs.Ring.{under}
use Rattle.relation.proofs.WordLaws.{flag_some, on_under}
use Rattle.relation.proofs.row.below.Goals as goal

pub returns-then-n-eq64 : goal.returns-then-n-eq64
returns-then-n-eq64 c = c.all.ensures ∙ ap under (sym c.if-n-eq64.true)

pub overflow_sub-n : goal.overflow_sub-n
overflow_sub-n c = flag_some _ (omega (arith, c.requires, c.if-n-eq64.false))

pub returns : goal.returns
returns c = c.bytes.ensures ∙ on_under _ (omega (arith, c.requires, c.if-n-eq64.false))

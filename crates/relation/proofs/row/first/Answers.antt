-- `row::first` meets its contract: the zeros below the lowest set bit, where a bit is set.
use mathlib.Core.Path.{ap, sym, ◌∙◌}
use native.Mathlib.Omega.{arith}
use mir.Syntax.{w64}
use mir.Val.{Fits}
use Rattle.relation.specs.Rel.{smallest}
use Rattle.relation.proofs.WordLaws.{trailing_fits, smallest_on, none_on}
use borrow.Author.Rules.{rules}
use Rattle.relation.proofs.row.first.Goals as goal

pub returns-then-w-eq0 : goal.returns-then-w-eq0
returns-then-w-eq0 c = sym (ap smallest c.word-w.ensures ∙ none_on _ c.if-w-eq0.true)

pub overflow_cast-result : goal.overflow_cast-result
overflow_cast-result c = record { fits = omega (arith, trailing_fits c.word-w.result) }

pub returns : goal.returns
returns c =
    let f : Fits w64 c.word-w.result = search rules in
    smallest_on _ c.if-w-eq0.false f.fits ∙ ap smallest (sym c.word-w.ensures)

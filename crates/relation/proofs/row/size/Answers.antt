-- `row::size` meets its contract: the set bits of the row's number.
use mathlib.Core.Path.{ap, sym, ◌∙◌}
use native.Mathlib.Omega.{arith}
use mir.Syntax.{w64}
use mir.Val.{Fits}
use Rattle.relation.specs.Rel.{count}
use Rattle.relation.proofs.WordLaws.{ones_count, ones_few}
use borrow.Author.Rules.{rules}
use Rattle.relation.proofs.row.size.Goals as goal

pub overflow_cast-result : goal.overflow_cast-result
overflow_cast-result c =
    let f : Fits w64 c.word.result = search rules in record { fits = omega (arith, ones_few c.word.result f.fits) }

pub returns : goal.returns
returns c =
    let f : Fits w64 c.word.result = search rules in ones_count 64 _ f.fits ∙ ap (count 64) (sym c.word.ensures)

-- `row::is_empty` meets its contract: no bit is set.
use mathlib.Core.Path.{ap, sym, ◌∙◌}
use mathlib.Core.Bool.{not}
use mir.Syntax.{w64}
use mir.Val.{Fits}
use Rattle.relation.specs.Rel.{Set, some, nodes}
use Rattle.relation.proofs.WordLaws.{empty_on}
use borrow.Author.Rules.{rules}
use Rattle.relation.proofs.row.is_empty.Goals as goal

pub returns : goal.returns
returns c =
    let f : Fits w64 c.word.result = search rules in
    empty_on _ f.fits ∙ ap (λ (s : Set). not (some nodes s)) (sym c.word.ensures)

-- `row::has` meets its contract: bit j of the row's number.
use mathlib.Core.Path.{ap, sym, ◌∙◌}
use Rattle.relation.specs.Rel.{Set}
use Rattle.relation.proofs.WordLaws.{on_has}
use Rattle.relation.proofs.row.has.Goals as goal

pub returns : goal.returns
returns c = on_has _ _ ∙ ap (λ (s : Set). s c.args.j) (sym c.word.ensures)

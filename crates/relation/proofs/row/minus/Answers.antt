-- `row::minus` meets its contract: the bits of one word that the other has not.
use mathlib.Core.Path.{◌∙◌}
use Rattle.relation.proofs.WordLaws.{on_difference}
use Rattle.relation.proofs.row.minus.Goals as goal

pub returns : goal.returns
returns c = c.bytes.ensures ∙ on_difference _ _ _ _ c.word-w.ensures c.word.ensures

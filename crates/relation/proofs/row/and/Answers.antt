-- `row::and` meets its contract: the bits that both words have.
use mathlib.Core.Path.{◌∙◌}
use Rattle.relation.proofs.WordLaws.{on_intersection}
use Rattle.relation.proofs.row.and.Goals as goal

pub returns : goal.returns
returns c = c.bytes.ensures ∙ on_intersection _ _ _ _ c.word.ensures c.word-2.ensures

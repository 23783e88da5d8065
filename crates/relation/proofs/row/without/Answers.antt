-- `row::without` meets its contract: one bit is cleared and no other.
use mathlib.Core.Path.{◌∙◌}
use Rattle.relation.proofs.WordLaws.{on_difference, on_single}
use Rattle.relation.proofs.row.without.Goals as goal

pub returns : goal.returns
returns c = c.bytes.ensures ∙ on_difference _ _ _ _ c.word-w.ensures (on_single _ c.requires)

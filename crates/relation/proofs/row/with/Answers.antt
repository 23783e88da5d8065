-- `row::with` meets its contract: one bit is set and no other.
use mathlib.Core.Path.{◌∙◌}
use Rattle.relation.proofs.WordLaws.{on_union, on_single}
use Rattle.relation.proofs.row.with.Goals as goal

pub returns : goal.returns
returns c = c.bytes.ensures ∙ on_union _ _ _ _ c.word.ensures (on_single _ c.requires)

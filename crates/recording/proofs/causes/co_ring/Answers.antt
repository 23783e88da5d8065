-- `causes::co_ring` meets its contract.
use mathlib.Core.Path.{◌≡◌, refl, ap, ◌∙◌}
use mathlib.Core.Bool.{Bool, true, false, not}
use Rattle.relation.specs.Rel.{diagonal, some, nodes}
use Rattle.recording.proofs.CoherenceLaws.{co_ring_is}
use Rattle.recording.proofs.causes.co_ring.Goals as goal

not_not : (b : Bool) → not (not b) ≡ b
not_not true = refl
not_not false = refl

pub returns : goal.returns
returns c =
    ap not c.is_empty.ensures ∙ not_not _ ∙ ap (some nodes) (c.diagonal.ensures ∙ ap diagonal c.closure-reached.ensures)
    ∙ co_ring_is _ c.requires.sized _ c.link_rows.ensures

-- `causes::paired_at` meets its contract.
use mathlib.Core.Path.{◌≡◌, refl, ap, ◌∙◌}
use mathlib.Core.Bool.{Bool, true, false, not}
use Rattle.relation.specs.Rel.{some, nodes}
use Rattle.layout.proofs.FieldLaws.{or_yes, or_no}
use Rattle.recording.specs.Causes.{paired_at}
use Rattle.recording.proofs.causes.paired_at.Goals as goal

not_not : (b : Bool) → not (not b) ≡ b
not_not true = refl
not_not false = refl

pub returns-then-not-is_flagged : goal.returns-then-not-is_flagged
unfolding paired_at
returns-then-not-is_flagged c = or_yes _ _ _ (ap not c.is_flagged.ensures) (ap not c.if-not-is_flagged.true)

pub returns-else-not-is_flagged : goal.returns-else-not-is_flagged
unfolding paired_at
returns-else-not-is_flagged c =
    or_no _ _ _ _ (ap not c.is_flagged.ensures) (ap not c.if-not-is_flagged.false)
    (ap not c.is_empty.ensures ∙ not_not _ ∙ ap (some nodes) c.sources_of.ensures)

-- `field::is_initial` meets its contract.
use mathlib.Core.Path.{ap, ◌∙◌}
use Prim.Native.Nat.{ℕ, ◌+◌}
use lib.Dec.{ltb}
use Rattle.layout.proofs.FieldLaws.{initial_yes, initial_no}
use Rattle.layout.proofs.field.is_initial.Goals as goal

pub returns-then-e-ge56 : goal.returns-then-e-ge56
returns-then-e-ge56 c = ap (λ (l : ℕ). ltb c.args.e (56 + l)) c.locations-l.ensures.0 ∙ initial_yes _ _ c.if-e-ge56.true

pub returns-else-e-ge56 : goal.returns-else-e-ge56
returns-else-e-ge56 c = initial_no _ _ c.if-e-ge56.false

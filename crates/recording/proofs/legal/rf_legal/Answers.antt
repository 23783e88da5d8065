-- `legal::rf_legal` meets its contract: its definition, test by test.
use mathlib.Core.Path.{◌≡◌, ap₂, ◌∙◌}
use mathlib.Core.Bool.{Bool, true, ◌&&◌, and_assoc}
use Prim.Native.Nat.{ℕ}
use lib.Dec.{eqb}
use Rattle.models.specs.Recording.{Recording, of_class}
use Rattle.layout.specs.Decode.{decode}
use Rattle.layout.proofs.FieldLaws.{and_yes, and_no}
use Rattle.recording.specs.Causes.{same_locations, rf_legal}
use Rattle.recording.proofs.legal.rf_legal.Goals.{then-of_class, else-of_class, then-of_class-2, else-of_class-2}
use Rattle.recording.proofs.legal.rf_legal.Goals as goal

-- Where all but the values are as they must be, the values decide.
by_values : (r : Recording ℕ) (a b v w : ℕ) (x : Bool) → x ≡ (of_class r 2 a && of_class r 1 b) && same_locations r a b → x ≡ true
    → v ≡ r.value a → w ≡ r.value b → eqb v w ≡ rf_legal r a b
unfolding rf_legal
by_values r a b v w x p t e g = and_yes _ _ _ _ p t (ap₂ eqb e g) ∙ and_assoc (of_class r 2 a && of_class r 1 b) (same_locations r a b) (eqb (r.value a) (r.value b))

pub returns-then-same_location : goal.returns-then-same_location
returns-then-same_location c =
    let r : Recording ℕ = decode c.args.file.now in
    let classes : c.if-of_class.value ≡ of_class r 2 c.args.a && of_class r 1 c.args.b =
    elim c.if-of_class.branch [
      | then-of_class w ↦ w.value-is ∙ and_yes _ _ _ _ c.of_class.ensures w.if-of_class.true w.of_class-then-of_class.ensures
      | else-of_class w ↦ w.value-is ∙ and_no _ _ _ c.of_class.ensures w.if-of_class.false
    ]
    in
    let located : c.if-of_class-2.value ≡ (of_class r 2 c.args.a && of_class r 1 c.args.b) && same_locations r c.args.a c.args.b =
    elim c.if-of_class-2.branch [
      | then-of_class-2 w ↦ w.value-is ∙ and_yes _ _ _ _ classes w.if-of_class-2.true w.same_location.ensures
      | else-of_class-2 w ↦ w.value-is ∙ and_no _ _ _ classes w.if-of_class-2.false
    ]
    in
    by_values r c.args.a c.args.b _ _ _ located c.if-same_location.true c.value_of.ensures c.value_of-then-same_location.ensures

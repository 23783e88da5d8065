-- What every model's verdict says and shows, by the model.
use mathlib.Core.Path.{◌≡◌}
use mathlib.Core.List.{List}
use Prim.Native.Nat.{ℕ}
use Rattle.relation.specs.Rel.{nodes}
use Rattle.models.specs.Recording.{Recording}
use Rattle.models.specs.Graph.{Base, base, Within}
use Rattle.models.specs.Rules.{verdict}
use Rattle.models.specs.Why.{clauses_of}
use Rattle.verdict.specs.Verdict.{Verdict, rule_of}
use Rattle.clause.specs.Steps.{ring, Explained, StepsBy}
use Rattle.imm.proofs.ImmExplains.{imm_explains}
use Rattle.armv8.proofs.Armv8Explains.{armv8_explains}
use Rattle.tso.proofs.TsoExplains.{tso_explains}
use Rattle.lines.specs.declared.Model.{Model}
use Rattle.lines.specs.declared.Model.TheVariants.{Source, Chip, Tso}
use Rattle.verdicts.specs.ByModel.{model_for, clauses_for, JudgedFor}

pub judged_rule : (m : Model) (v : Verdict) (B : Base) → JudgedFor m B v → rule_of v ≡ verdict nodes B (model_for m)
judged_rule Source v B j = j.answer
judged_rule Chip v B j = j.answer
judged_rule Tso v B j = j.answer

pub judged_explains : (m : Model) (r : Recording ℕ) → Within nodes r → (v : Verdict) → JudgedFor m (base nodes r) v → (found : List (List ℕ))
    → StepsBy (clauses_of (clauses_for m) (rule_of v)) (base nodes r) v found
    → Explained (clauses_of (clauses_for m) (rule_of v)) r (ring v) found
judged_explains Source = imm_explains
judged_explains Chip = armv8_explains
judged_explains Tso = tso_explains

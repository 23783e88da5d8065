-- The steps of a verdict's ring over the base that holds a recording's arrays are those that explain the ring, by the rule that is broken.
use mathlib.Core.Path.{◌≡◌, sym, ap, subst, ◌∙◌}
use mathlib.Core.List.{List, []}
use Prim.Native.Nat.{ℕ}
use Rattle.relation.specs.Rel.{nodes}
use Rattle.models.specs.Graph.{base}
use Rattle.models.specs.Why.{clauses_of}
use Rattle.layout.specs.Decode.{decode}
use Rattle.layout.specs.Layout.{Side}
use Rattle.recording.specs.Load.{LoadsAs}
use Rattle.recording.proofs.Loaded.{loaded_within}
use Rattle.verdict.specs.declared.base.Base.{Base}
use Rattle.verdict.specs.Base.{base_of}
use Rattle.verdict.specs.Verdict.{Verdict, rule_of}
use Rattle.clause.specs.Steps.{ring, steps_to, steps_of, Explained, StepsBy}
use Rattle.execution.specs.Arrays.{SetsOf, RelationsOf}
use Rattle.execution.specs.OnFile.{OnRecording}
use Rattle.execution.proofs.BaseOf.{steps_by_base}
use Rattle.lines.specs.declared.Model.{Model}
use Rattle.verdicts.specs.ByModel.{model_for, clauses_for, JudgedFor}
use Rattle.verdicts.proofs.ByModelLaws.{judged_explains}

-- Where no ring is shown there are no steps.
steps_none : (number : ℕ → ℕ → ℕ) (l : List ℕ) → l ≡ [] → [] ≡ steps_of number l
unfolding steps_to
steps_none number l e = sym (ap (steps_of number) e)

module _ (m : Model) (s : Side) (f : List ℕ) (loads : LoadsAs s f) (v : Verdict) (on : OnRecording (model_for m) (JudgedFor m) (decode f) v) where
  abbrev Explains : List (List ℕ) → Type 0
  Explains = Explained (clauses_of (clauses_for m) (rule_of v)) (decode f) (ring v)

  by_steps : (found : List (List ℕ)) → StepsBy (clauses_of (clauses_for m) (rule_of v)) (base nodes (decode f)) v found → Explains found
  by_steps = judged_explains m (decode f) (loaded_within f loads.loads) v on.shown

  pub none_explained : (found : List (List ℕ)) → found ≡ [] → ring v ≡ [] → Explains found
  none_explained found e n = by_steps found (e ∙ steps_none _ (ring v) n)

  module _ (b : Base) (sets : SetsOf (decode f) b) (relations : RelationsOf (base nodes (decode f)) b) (found : List (List ℕ)) where
    rule_explained : (n : ℕ) → rule_of v ≡ n → StepsBy (clauses_of (clauses_for m) n) (base_of b) v found → Explains found
    rule_explained n e w =
        by_steps found (steps_by_base _ (decode f) v found b sets relations (subst (λ (k : ℕ). StepsBy (clauses_of (clauses_for m) k) (base_of b) v found) (sym e) w))

    pub coherence_explained : rule_of v ≡ 3 → StepsBy (clauses_for m).rule3 (base_of b) v found → Explains found
    unfolding clauses_of
    coherence_explained e w = rule_explained 3 e w

    pub order_explained : rule_of v ≡ 5 → StepsBy (clauses_for m).rule5 (base_of b) v found → Explains found
    unfolding clauses_of
    order_explained e w = rule_explained 5 e w

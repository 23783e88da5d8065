-- Each step of a ring that an IMM verdict shows has a clause: rule 3's are po, sw and those of eco, rule 5's are those of ar.
use mathlib.Core.Bool.{true}
use mathlib.Core.Path.{◌≡◌, sym, ap, ◌∙◌}
use mathlib.Core.List.{List}
use mathlib.Core.Logic.{inl, inr}
use Prim.Native.Nat.{ℕ}
use Rattle.relation.specs.Rel.{Rel, either, union, nodes}
use Rattle.relation.proofs.Truth.{or_left, or_right}
use Rattle.models.specs.Recording.{Recording}
use Rattle.models.specs.Graph.{Base, base, Within}
use Rattle.models.specs.Term.{eval}
use Rattle.models.specs.Imm.{eco, step_clauses, eco_clauses}
use Rattle.models.specs.Rules.{IMM}
use Rattle.models.specs.Clause.{tested, unions}
use Rattle.models.specs.Why.{clauses_of, imm_rings}
use Rattle.models.proofs.ClauseLaws.{unions_both, step_opened, eco_opened, ar_opened}
use Rattle.verdict.specs.Verdict.{Verdict, rule_of}
use Rattle.clause.specs.Steps.{ring, Explained, StepsBy}
use Rattle.clause.proofs.StepMeaning.{Covers, verdict_explained}
use Rattle.imm.specs.Judged.{Judged, steps, closing}
use Rattle.imm.proofs.Around.{closing_cases}

module _ (r : Recording ℕ) (within : Within nodes r) where
  abbrev B : Base
  B = base nodes r

  both : (a b : ℕ) → either (unions (tested nodes B step_clauses)) (unions (tested nodes B eco_clauses)) a b ≡ true → unions (tested nodes B imm_rings.rule3) a b ≡ true
  both a b h = ap (λ (s : Rel). s a b) (unions_both (tested nodes B step_clauses) (tested nodes B eco_clauses)) ∙ h

  covers_steps : Covers r within imm_rings.rule3 (steps B)
  unfolding steps either union
  covers_steps a b h = both a b (or_left _ _ (sym (ap (λ (s : Rel). s a b) (step_opened nodes B)) ∙ h))

  covers_eco : Covers r within imm_rings.rule3 (eval nodes eco B)
  unfolding either union
  covers_eco a b h = both a b (or_right (unions (tested nodes B step_clauses) a b) _ (sym (ap (λ (s : Rel). s a b) (eco_opened nodes r within)) ∙ h))

  covers_closing : Covers r within imm_rings.rule3 (closing B)
  covers_closing a b h = elim (closing_cases B a b h) [ inl p ↦ covers_steps a b p | inr p ↦ covers_eco a b p ]

  pub imm_explains : (v : Verdict) → Judged B v → (found : List (List ℕ)) → StepsBy (clauses_of imm_rings (rule_of v)) B v found
      → Explained (clauses_of imm_rings (rule_of v)) r (ring v) found
  imm_explains v w =
      verdict_explained r within imm_rings IMM (steps B) (closing B) covers_steps covers_closing
      (λ a b h. sym (ap (λ (s : Rel). s a b) (ar_opened nodes B)) ∙ h) v w

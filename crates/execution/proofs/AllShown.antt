-- What a verdict on a file shows: where it is allowed, every event of the recording exactly once; where rule 3 or 5 is broken, no more events
-- than any way that breaks the rule has steps.
use mathlib.Core.Path.{sym}
use mathlib.Core.List.{List}
use Prim.Native.Nat.{ℕ, suc, ◌≤◌}
use native.Mathlib.Omega.{arith}
use Rattle.std.specs.Prelude.{Ok}
use Rattle.relation.specs.Rel.{Rel, nodes}
use Rattle.relation.proofs.Walks.{Inside}
use Rattle.relation.proofs.RingWalks.{ClosedWalk}
use Rattle.models.specs.Graph.{Base, graph, base, Within}
use Rattle.models.specs.Term.{⟦◌⟧}
use Rattle.models.specs.Rules.{Model}
use Rattle.layout.specs.Layout.{Side}
use Rattle.layout.specs.Decode.{decode}
use Rattle.recording.specs.Load.{LoadsAs}
use Rattle.recording.proofs.CauseLaws.{cause_goes_on}
use Rattle.recording.proofs.Loaded.{loaded_within}
use Rattle.verdict.specs.Shown.{Shown}
use Rattle.verdict.specs.Verdict.{Verdict}
use Rattle.verdict.proofs.ShownMeaning.{allowed_shows}
use Rattle.verdict.proofs.FewestSteps.{fewest_3, fewest_5}
use Rattle.execution.specs.OnFile.{OnFile, ShowsAll, ShowsFewest}

module _ (s : Side) (M : Model) (Judged : Base → Verdict → Type 0) (f : List ℕ) (v : Verdict) (on : OnFile s M Judged f (Ok v)) where
  loads : LoadsAs s f
  loads = cause_goes_on s f (sym on.refused)

  within : Within nodes (decode f)
  within = loaded_within f loads.loads

  -- What the ring of rule 3 is made of, and what is shown of it.
  module _ (steps closing : Rel) (shown : Judged (base nodes (decode f)) v → Shown steps closing M (base nodes (decode f)) v) where
    pub shows_all : ShowsAll f v
    shows_all e = allowed_shows steps closing M v (decode f) within (shown on.judged.shown) e

    -- What breaks rule 3 is a closed walk of no more than so many steps.
    pub shows_fewest : (steps3 : (a : ℕ) → ⟦ M.coherent ⟧ (graph (decode f)) a a → ℕ)
        → (Within nodes (decode f) → Inside steps × Inside closing)
        → (Within nodes (decode f) → (a : ℕ) (p : ⟦ M.coherent ⟧ (graph (decode f)) a a) → (n : ℕ) × (suc n ≤ steps3 a p) × ClosedWalk steps closing n)
        → ShowsFewest M f steps3 v
    shows_fewest steps3 inside round =
        record {
          rule3 = λ e a p.
              let (n, most, walk) = round within a p in
              let (i, j) = inside within in
              omega (arith, most, fewest_3 (decode f) within steps closing M v (shown on.judged.shown) i j e n walk);
          rule5 = λ e a p. fewest_5 (decode f) within steps closing M v (shown on.judged.shown) e a p;
        }

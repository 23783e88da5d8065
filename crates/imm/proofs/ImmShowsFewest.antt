-- An IMM verdict on a file that is broken by rule 3 or 5 shows no more events than any way that breaks the rule has steps, by the rule's own count.
use mathlib.Core.Path.{◌≡◌, refl, subst}
use mathlib.Core.List.{List}
use mathlib.Core.Logic.{inl, inr}
use Prim.Native.Nat.{ℕ, suc, ◌≤◌}
use native.Mathlib.Omega.{arith}
use native.Mathlib.Decide.{ℕ_discrete}
use Rattle.std.specs.Prelude.{Ok}
use Rattle.relation.specs.Rel.{nodes}
use Rattle.relation.proofs.Walks.{Inside}
use Rattle.relation.proofs.RingWalks.{ClosedWalk}
use Rattle.models.specs.Recording.{Recording}
use Rattle.models.specs.Steps.{count, stay, step}
use Rattle.models.specs.Graph.{graph, base, Within}
use Rattle.models.specs.Term.{po, ◌∪◌, ⟦◌⟧}
use Rattle.models.specs.Imm.{sw, hb, eco}
use Rattle.models.specs.Rules.{IMM}
use Rattle.layout.specs.Layout.{source}
use Rattle.layout.specs.Decode.{decode}
use Rattle.verdict.specs.Verdict.{Verdict}
use Rattle.verdict.proofs.ShownMeaning.{term_inside}
use Rattle.verdict.proofs.FewestSteps.{tested, plus_walk, plus_round}
use Rattle.execution.specs.OnFile.{OnFile, ShowsFewest}
use Rattle.execution.proofs.AllShown.{shows_fewest}
use Rattle.imm.specs.Judged.{Judged, steps, closing, own_steps}
use Rattle.imm.proofs.Around.{closing_cases, step_closes, eco_closes}

module _ (r : Recording ℕ) (within : Within nodes r) where
  inside : Inside (steps (base nodes r)) × Inside (closing (base nodes r))
  unfolding steps
  inside =
      let s = term_inside r within (po ∪ sw) in
      let e = term_inside r within eco in
      let cases = closing_cases (base nodes r) in (
        s,
        record {
          source = λ x y h. elim (cases x y h) [ inl p ↦ s.source x y p | inr p ↦ e.source x y p ];
          target = λ x y h. elim (cases x y h) [ inl p ↦ s.target x y p | inr p ↦ e.target x y p ];
        },
      )

  abbrev Round : ℕ → Type 0
  Round k = (n : ℕ) × (suc n ≤ k) × ClosedWalk (steps (base nodes r)) (closing (base nodes r)) n

  -- hb alone comes back,
  by_steps : (a : ℕ) (p : ⟦ hb ⟧ (graph r) a a) → Round (count p)
  unfolding steps
  by_steps a p =
      let (n, long, w) = plus_round r within (po ∪ sw) p in
      (n, omega arith, record { start = w.start; end = w.end; walk = w.walk; close = step_closes (base nodes r) w.end w.start w.close })

  -- or hb then eco.
  by_eco : (a b : ℕ) (p : ⟦ hb ⟧ (graph r) a b) → ⟦ eco ⟧ (graph r) b a → Round (suc (count p))
  unfolding steps
  by_eco a b p e =
      elim (ℕ_discrete b a) [
        | no d ↦ (count p, omega arith, record { start = a; end = b; walk = plus_walk r within (po ∪ sw) p; close = eco_closes (base nodes r) b a d (tested r within eco b a e) })
        | yes q ↦ let (back, same) = subst (λ (x : ℕ). (q : ⟦ hb ⟧ (graph r) a x) × (count q ≡ count p)) q (p, refl) in
            let (n, most, w) = by_steps a back in
            (n, omega (arith, most, same), w)
      ]

  by_own_steps : (a : ℕ) (p : ⟦ IMM.coherent ⟧ (graph r) a a) → Round (own_steps (graph r) a p)
  unfolding own_steps
  by_own_steps a (b, p, stay e) = by_steps a p
  by_own_steps a (b, p, step e) = by_eco a b p e

pub imm_shows_fewest : (f : List ℕ) (v : Verdict) → OnFile source IMM Judged f (Ok v) → ShowsFewest IMM f (own_steps (graph (decode f))) v
imm_shows_fewest f v on =
    shows_fewest source IMM Judged f v on (steps (base nodes (decode f))) (closing (base nodes (decode f))) (λ j. j)
    (own_steps (graph (decode f))) (inside (decode f)) (by_own_steps (decode f))

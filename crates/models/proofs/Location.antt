-- One location: what rules 1, 2 and SC-per-location give.
use mathlib.Core.Logic.{inl, inr}
use mathlib.Core.Path.{subst}
use Rattle.models.specs.Steps.{Plus, one, cons}
use Rattle.models.specs.Recording.{W}
use Rattle.models.specs.Graph.{Graph}
use Rattle.models.specs.Term.{fr, po_loc, rfₑ, rf, rmw, opt, ◌⨾◌, ⟦◌⟧}
use Rattle.models.specs.Armv8.{sc_per_loc}
use Rattle.models.specs.Rules.{ARMv8, Rule1, Rule2, Rule3}
use Rattle.models.proofs.Closure.{join, collapse, mapped, Weak, weak_step, weak_join}
use Rattle.models.proofs.Formed.{Formed}

module _ {E : Type 0} (G : Graph E) where
  -- A step of communication: rf, co or fr.
  pub data Com : E → E → Type 0 where
    by_rf : {a b : E} → G.rf a b → Com a b
    by_co : {a b : E} → G.co a b → Com a b
    by_fr : {a b c : E} → G.rf b a → G.co b c → Com a c

module _ {E : Type 0} {G : Graph E} where
  pub com_step : {a b : E} → Com G a b → ⟦ sc_per_loc ⟧ G a b
  com_step (by_rf h) = inl (inl (inr h))
  com_step (by_co h) = inr h
  com_step (by_fr {b = w} h k) = inl (inr (w, h, k))

  module _ (f : Formed G) (coherent : Rule3 ARMv8 G) where
    pub com_loc : {a b : E} → Com G a b → G.loc a b
    com_loc (by_rf h) = f.rf_loc h
    com_loc (by_co h) = f.co_loc h
    com_loc (by_fr h k) = f.loc_trans (f.loc_sym (f.rf_loc h)) (f.co_loc k)

    pub coms_loc : {a b : E} → Plus (Com G) a b → G.loc a b
    coms_loc p = collapse (λ a b c. f.loc_trans) (mapped (λ a b. com_loc) p)

    -- Communication does not come back by itself, nor along po.
    pub no_com_ring : {a : E} → Plus (Com G) a a → ⊥
    no_com_ring {a} p = coherent a (mapped (λ x y. com_step) p)

    pub no_po_com : {a b : E} → G.po a b → Plus (Com G) b a → ⊥
    no_po_com {a} {b} h p = coherent a (cons (inl (inl (inl (h, f.loc_sym (coms_loc p))))) (mapped (λ x y. com_step) p))

    module _ (total : Rule2 G) where
      -- Two writes of one location in po are so in co.
      pub po_co : {a b : E} → G.set W a → G.set W b → G.loc a b → G.po a b → G.co a b
      po_co {a} {b} v w l h =
          elim (total a b v w l (λ e. f.po_irreflexive (subst (λ x. G.po x b) e h))) [ inl k ↦ k | inr k ↦ absurd (no_po_com h (one (by_co k))) ]

      -- A pair that reads within its thread.
      pub rfi_rmw : {a b c : E} → G.rf a b → G.po a b → G.rmw b c → G.co a c
      rfi_rmw {a} {b} {c} h p k = po_co (f.rf_write h) (f.rmw_write k) (f.loc_trans (f.rf_loc h) (f.rmw_loc k)) (f.po_trans a b c p (f.rmw_po k))

      -- A pair's read comes before its write.
      pub rmw_fr : Rule1 G → {a b : E} → G.rmw a b → ⟦ fr ⟧ G a b
      rmw_fr complete {a} {b} h =
          let w = complete a (f.exclusive_read_lem (f.rmw_exclusive h)) in
          let r = w.1 in
          elim (total w.0 b (f.rf_write r) (f.rmw_write h) (f.loc_trans (f.rf_loc r) (f.rmw_loc h)) (λ e. no_po_com (f.rmw_po h) (one (by_rf (subst (λ x. G.rf x a) e r))))) [
            | inl k ↦ (w.0, r, k)
            | inr k ↦ absurd (no_po_com (f.rmw_po h) (cons (by_co k) (one (by_rf r))))
          ]

      -- Release sequences within an order that holds co, external rf and rmw.
      module _ (decided : (a b : E) → Dec (G.po a b)) {O : E → E → Type 0} (O-co : (a b : E) → G.co a b → O a b)
          (O-rfe : (a b : E) → ⟦ rfₑ ⟧ G a b → O a b) (O-rmw : (a b : E) → G.rmw a b → O a b) where
        -- Optional po-loc between writes.
        pub loc_writes : {a b : E} → G.set W a → G.set W b → ⟦ opt po_loc ⟧ G a b → Weak (Plus O) a b
        loc_writes {a} {b} v w l = weak_step (λ h. O-co a b (po_co v w h.1 h.0)) l

        pub rf_rmw : {a b c : E} → G.rf a b → G.rmw b c → Plus O a c
        rf_rmw {a} {b} {c} h k = elim (decided a b) [
          | yes p ↦ one (O-co a c (rfi_rmw h p k))
          | no n ↦ cons (O-rfe a b (h, n)) (one (O-rmw b c k))
        ]

        pub pair_step : (a b : E) → G.set W a → ⟦ opt po_loc ⨾ rf ⨾ rmw ⟧ G a b → Plus O a b
        pair_step a d v (b, l, (c, h, k)) = weak_join (loc_writes v (f.rf_write h) l) (rf_rmw h k)

        pub pair_steps : {a b : E} → G.set W a → Plus (⟦ opt po_loc ⨾ rf ⨾ rmw ⟧ G) a b → Plus O a b
        pair_steps v (one {a} {b} h) = pair_step a b v h
        pair_steps v (cons {a} {b} h p) = join (pair_step a b v h) (pair_steps (f.rmw_write h.2.2) p)

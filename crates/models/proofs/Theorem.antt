-- Theorem 4.5 of 003: where ARMv8 allows a graph that corresponds to an IMM graph, IMM allows that graph.
use mathlib.Core.Logic.{◌⊎◌, inl, inr}
use Rattle.models.specs.Steps.{Plus, one, cons, on, stay}
use Rattle.models.specs.Recording.{R, W, Rex, Fld, Fsy}
use Rattle.models.specs.Graph.{Graph}
use Rattle.models.specs.Term.{rfᵢ, ◌∪◌, ⟦◌⟧}
use Rattle.models.specs.Imm.{deps, ppo}
use Rattle.models.specs.Armv8.{sc_per_loc}
use Rattle.models.specs.Rules.{IMM, ARMv8, Rule1, Rule2, Rule3, Rule4, Allowed}
use Rattle.models.proofs.Closure.{mapped}
use Rattle.models.proofs.Formed.{Formed}
use Rattle.models.proofs.Corresponds.{Corresponds}
use Rattle.models.proofs.Rings.{Deps, by_data, by_ctrl, by_addr, by_addr_po, by_casdep, by_exclusive, deps_clause, chains_po}
use Rattle.models.proofs.Ordered.{Ordered, imm_allows}
use Rattle.models.proofs.Barriers.{Ob, ob_rfe, ob_fre, ob_coe, ob_addr, ob_addr_po, ob_data_rfi, ob_data_coi, ob_ctrl, ob_rmw, ob_pair, ob_ld, ob_acquire, ob_release, coi, fri, Ord, plain, into_sy, into_ld, out_sy, out_ld, no_ord_ring}

module _ {E : Type 0} (G A : Graph E) (g : Formed G) (decided : (a b : E) → Dec (G.po a b)) (f : Formed A) (c : Corresponds G A) (m : Allowed ARMv8 A) where
  -- Rules 1 to 4 and SC-per-location pass from A to G.
  external : {a b : E} → G.E a → G.E b → ¬ G.po a b → ¬ A.po a b
  external p q n h = n (c.po_from p q h)

  complete : Rule1 G
  complete r h = (let w = m.rule1 r (c.read h) in (w.0, (c.rf w.0 r).1 w.1))

  total : Rule2 G
  total a b v w l n = elim (m.rule2 a b (c.write v) (c.write w) (c.loc l) n) [ inl h ↦ inl ((c.co a b).1 h) | inr h ↦ inr ((c.co b a).1 h) ]

  per_loc : (a b : E) → ⟦ sc_per_loc ⟧ G a b → ⟦ sc_per_loc ⟧ A a b
  per_loc a b (inl (inl (inl h))) = inl (inl (inl (c.po_to h.0, c.loc h.1)))
  per_loc a b (inl (inl (inr h))) = inl (inl (inr ((c.rf a b).0 h)))
  per_loc a b (inl (inr (w, h, k))) = inl (inr (w, (c.rf w a).0 h, (c.co w b).0 k))
  per_loc a b (inr h) = inr ((c.co a b).0 h)

  coherent : Rule3 ARMv8 G
  coherent a p = m.rule3 a (mapped per_loc p)

  atomic : Rule4 G
  atomic a d (h, (b, ((w, r, k), n), (l, o))) =
      let eb = g.write_event (g.co_target k) in
      m.rule4 a d ((c.rmw a d).0 h, (b, ((w, (c.rf w a).0 r, (c.co w b).0 k), external (g.read_event (g.rf_read r)) eb n), ((c.co b d).0 l, external eb (g.write_event (g.co_target l)) o)))

  -- Dependencies start at reads.
  deps_read : {a b : E} → Deps G a b → G.set R a
  deps_read (by_data h) = g.data_read h
  deps_read (by_ctrl h) = g.ctrl_read h
  deps_read (by_addr h) = g.addr_read h
  deps_read (by_addr_po h k) = g.addr_read h
  deps_read (by_casdep h) = g.casdep_read h
  deps_read (by_exclusive x h) = g.exclusive_read_lem x

  exclusive_ob : {a b : E} → G.set Rex a → G.po a b → G.set W b → Ob A a b
  exclusive_ob x h w = elim (c.exclusive x h) [ inl k ↦ ob_ctrl k (c.write w) | inr k ↦ ob_rmw k.0 ]

  -- One dependency into a write.
  dep_ob : {a b : E} → Deps G a b → G.set W b → Ob A a b
  dep_ob {a} {b} (by_data h) w = ob_data_coi ((c.«data» a b).0 h) (stay tt)
  dep_ob (by_ctrl h) w = ob_ctrl (c.ctrl h) (c.write w)
  dep_ob {a} {b} (by_addr h) w = ob_addr ((c.addr a b).0 h)
  dep_ob {a} (by_addr_po {b = x} h k) w = ob_addr_po ((c.addr a x).0 h) (c.po_to k) (c.write w)
  dep_ob (by_casdep h) w = absurd (g.read_write (g.exclusive_read_lem (g.casdep_exclusive h)) w)
  dep_ob (by_exclusive x h) w = exclusive_ob x h w

  -- One that is not data, then po into a write.
  dep_po_ob : {a b d : E} → Deps G a b → G.po b d → G.set W d → G.«data» a b ⊎ Ob A a d
  dep_po_ob (by_data h) p w = inl h
  dep_po_ob (by_ctrl h) p w = inr (ob_ctrl (f.ctrl_closed (c.ctrl h) (c.po_to p)) (c.write w))
  dep_po_ob (by_addr {a} {b} h) p w = inr (ob_addr_po ((c.addr a b).0 h) (c.po_to p) (c.write w))
  dep_po_ob {d = d} (by_addr_po {a} {b = x} {c = b} h k) p w = inr (ob_addr_po ((c.addr a x).0 h) (c.po_to (g.po_trans x b d k p)) (c.write w))
  dep_po_ob (by_casdep h) p w = inr (ob_ctrl (c.casdep h p) (c.write w))
  dep_po_ob {d = d} (by_exclusive {a} {b} x h) p w = inr (exclusive_ob x (g.po_trans a b d h p) w)

  -- What follows data, which ends in a write, is internal rf.
  data_rf : {a b d : E} → G.«data» a b → ⟦ deps ∪ rfᵢ ⟧ G b d → ⟦ rfᵢ ⟧ G b d
  data_rf h (inl k) = absurd (g.read_write (deps_read (deps_clause k)) (g.data_write h))
  data_rf h (inr k) = k

  -- Dependencies and internal rf from a read to a write. All but data reach the write at once, since the rest lies in po.
  chain_ob : {a b : E} → G.set R a → Plus (⟦ deps ∪ rfᵢ ⟧ G) a b → G.set W b → Plus (Ob A) a b
  chain_ob r (one (inl h)) w = one (dep_ob (deps_clause h) w)
  chain_ob r (one (inr h)) w = absurd (g.read_write (g.rf_read h.0) w)
  chain_ob r (cons (inr h) p) w = absurd (g.read_write r (g.rf_write h.0))
  chain_ob r (cons (inl h) (one k)) w = elim (dep_po_ob (deps_clause h) (chains_po g (one k)) w) [
    | inl l ↦ absurd (g.read_write (g.rf_read (data_rf l k).0) w)
    | inr o ↦ one o
  ]
  chain_ob r (cons {a} {b} (inl h) (cons {b = d} k p)) w = elim (dep_po_ob (deps_clause h) (chains_po g (cons k p)) w) [
    | inl l ↦ (let i = data_rf l k in cons (ob_data_rfi ((c.«data» a b).0 l) ((c.rf b d).0 i.0) (c.po_to i.1)) (chain_ob (g.rf_read i.0) p w))
    | inr o ↦ one o
  ]

  -- The enlarged order of A is an order for G.
  fence_out : {a b : E} → A.set Fld a ⊎ A.set Fsy a → A.po a b → Ord A a b
  fence_out (inl l) h = out_ld l h
  fence_out (inr s) h = out_sy s h

  fence_in : {a b : E} → A.set R a → A.po a b → A.set Fld b ⊎ A.set Fsy b → Ord A a b
  fence_in r h (inl l) = into_ld r h l
  fence_in r h (inr s) = into_sy h s

  ordered : Ordered G (Ord A)
  ordered = record {
    acyclic = no_ord_ring A f m;
    rfe = λ a b h. plain (inl (ob_rfe ((c.rf a b).0 h.0) (external (g.write_event (g.rf_write h.0)) (g.read_event (g.rf_read h.0)) h.1)));
    co = λ a b h. elim (decided a b) [
      | yes p ↦ plain (inr (coi ((c.co a b).0 h) (c.po_to p)))
      | no n ↦ plain (inl (ob_coe ((c.co a b).0 h) (external (g.write_event (g.co_source h)) (g.write_event (g.co_target h)) n)))
    ];
    fr = λ a b h. elim (decided a b) [
      | yes p ↦ plain (inr (fri ((c.rf h.0 a).0 h.1) ((c.co h.0 b).0 h.2) (c.po_to p)))
      | no n ↦ plain (inl (ob_fre ((c.rf h.0 a).0 h.1) ((c.co h.0 b).0 h.2) (external (g.read_event (g.rf_read h.1)) (g.write_event (g.co_target h.2)) n)))
    ];
    rmw = λ a b h. plain (inl (ob_rmw ((c.rmw a b).0 h)));
    ppo = preserved;
    pair_acquire = λ {a} {b} {c = d} h k i q. plain (inl (ob_pair ((c.rmw a b).0 h) ((c.rf b d).0 k) (c.po_to i) (c.acquire q)));
    into_release = λ h w. plain (inl (ob_release (c.po_to h) (c.release w) (stay tt)));
    out_acquire = λ q h. plain (inl (ob_acquire (c.acquire q) (c.po_to h)));
    into_fence = λ h x. into_sy (c.po_to h) (c.release_fence_lem x);
    read_fence = λ r h x. fence_in (c.read r) (c.po_to h) (c.fence x);
    out_fence = λ x h. fence_out (c.fence x) (c.po_to h);
    strong = λ {c = d} r h s k w. (let x = c.strong s in one (plain (inl (ob_ld (c.read r) (f.po_trans _ _ x.0 (c.po_to h) x.2) x.1 (x.3 d k)))));
  }
    where
      preserved : (a b : E) → ⟦ ppo ⟧ G a b → Plus (Ord A) a b
      preserved a b (_, on r, (_, p, on w)) = mapped (λ x y h. plain (inl h)) (chain_ob r p w)

  pub theorem_4_5 : Allowed IMM G
  theorem_4_5 = imm_allows G (Ord A) g decided coherent total ordered complete atomic

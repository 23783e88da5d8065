-- x86-TSO and IMM (02, slip 6): where x86-TSO allows a graph, IMM allows it. 003 notes it at the opening of section 4: "IMM can be
-- straightforwardly shown to be weaker than x86-TSO".
use mathlib.Core.Logic.{◌⊎◌, inl, inr}
use Rattle.models.specs.Steps.{Plus, one, cons, on, stay, step}
use Rattle.models.specs.Recording.{R, W, Wrel, Facq, Frel, Fsc, Racq}
use Rattle.models.specs.Graph.{Graph}
use Rattle.models.specs.Term.{⟨◌⟩, po, rf, rmw, opt, ◌⨾◌, ◌∪◌, po_loc, rfₑ, rfᵢ, ⟦◌⟧}
use Rattle.models.specs.Imm.{rs, sw, ar}
use Rattle.models.specs.Tso.{node, tso}
use Rattle.models.specs.Rules.{IMM, TSO, Rule5, Allowed}
use Rattle.models.proofs.Closure.{flat, mapped, collapse, Weak, weak_step, weak_join, join_weak}
use Rattle.models.proofs.Formed.{Formed}
use Rattle.models.proofs.Synced.{HB, along, across, HB_trans, no_HB_ring, Synced, hb_coherent, psc_order}
use Rattle.models.proofs.Rings.{Lies, in_po, by_rf, by_psc, ar_lies}

module _ {E : Type 0} (G : Graph E) where
  -- What has steps: a read, a write or an SC fence.
  data Node : E → Type 0 where
    read : {a : E} → G.set R a → Node a
    write : {a : E} → G.set W a → Node a
    sc : {a : E} → G.set Fsc a → Node a

  -- Steps of tso, one constructor a clause. Those of rmw pairs, which the theorem does not need, are left out.
  data Tso : E → E → Type 0 where
    tso_read_read : {a b : E} → G.set R a → G.po a b → G.set R b → Tso a b
    tso_read_write : {a b : E} → G.set R a → G.po a b → G.set W b → Tso a b
    tso_write_write : {a b : E} → G.set W a → G.po a b → G.set W b → Tso a b
    tso_into_sc : {a b : E} → Node a → G.po a b → G.set Fsc b → Tso a b
    tso_out_sc : {a b : E} → G.set Fsc a → G.po a b → Node b → Tso a b
    tso_rfe : {a b : E} → G.rf a b → ¬ G.po a b → Tso a b
    tso_co : {a b : E} → G.co a b → Tso a b
    tso_fr : {w a b : E} → G.rf w a → G.co w b → Tso a b

  node_at : {a : E} → Node a → ⟦ node ⟧ G a a
  node_at (read r) = inl (inl (on r))
  node_at (write w) = inl (inr (on w))
  node_at (sc c) = inr (on c)

  tso_step : (a b : E) → Tso a b → ⟦ tso ⟧ G a b
  tso_step a b (tso_read_read r h s) = inl (inl (inl (inl (inl (a, on r, (b, h, inl (on s)))))))
  tso_step a b (tso_read_write r h w) = inl (inl (inl (inl (inl (a, on r, (b, h, inr (on w)))))))
  tso_step a b (tso_write_write v h w) = inl (inl (inl (inl (inr (a, on v, (b, h, on w))))))
  tso_step a b (tso_into_sc n h c) = inl (inl (inl (inr (inl (a, node_at n, (b, h, inl (inl (on c))))))))
  tso_step a b (tso_out_sc c h n) = inl (inl (inl (inr (inr (a, inl (inl (on c)), (b, h, node_at n))))))
  tso_step a b (tso_rfe h n) = inl (inl (inr (h, n)))
  tso_step a b (tso_co h) = inl (inr h)
  tso_step a b (tso_fr {w = w} h k) = inr (w, h, k)

  module _ (f : Formed G) where
    -- sw is made of steps of po and rf.
    abbrev Step : E → E → Type 0
    Step = ⟦ po ∪ rf ⟧ G

    releasing : {a b : E} → ⟦ ⟨ Wrel ⟩ ∪ ⟨ Frel ⟩ ⨾ po ⟧ G a b → Weak (Plus Step) a b
    releasing (inl (on w)) = stay tt
    releasing (inr (_, on x, h)) = step (one (inl h))

    local : {a b : E} → ⟦ opt po_loc ⟧ G a b → Weak (Plus Step) a b
    local l = weak_step (λ h. inl h.0) l

    pair : (a b : E) → ⟦ opt po_loc ⨾ rf ⨾ rmw ⟧ G a b → Plus Step a b
    pair a d (b, l, (c, h, k)) = weak_join (local l) (cons (inr h) (one (inl (f.rmw_po k))))

    sequence : {a b : E} → ⟦ rs ⟧ G a b → Weak (Plus Step) a b
    sequence (inl (_, on v, (_, h, on w))) = step (one (inl h.0))
    sequence (inr (_, on v, stay e)) = stay tt
    sequence (inr (_, on v, step p)) = step (flat pair p)

    observed : {a b : E} → ⟦ rfᵢ ∪ opt po_loc ⨾ rfₑ ⟧ G a b → Plus Step a b
    observed (inl h) = one (inr h.0)
    observed (inr (b, l, h)) = weak_join (local l) (one (inr h.0))

    acquiring : {a b : E} → ⟦ ⟨ Racq ⟩ ∪ po ⨾ ⟨ Facq ⟩ ⟧ G a b → Weak (Plus Step) a b
    acquiring (inl (on q)) = stay tt
    acquiring (inr (_, h, on x)) = step (one (inl h))

    sw_steps : {a b : E} → ⟦ sw ⟧ G a b → Plus Step a b
    sw_steps (b, (a, l, k), (c, v, q)) = weak_join (releasing l) (weak_join (sequence k) (join_weak (observed v) (acquiring q)))

    module _ (decided : (a b : E) → Dec (G.po a b)) (m : Allowed TSO G) where
      -- Release points are writes and SC fences, acquire points are reads and SC fences.
      abbrev L : E → Type 0
      L a = G.set W a ⊎ G.set Fsc a

      abbrev Q : E → Type 0
      Q a = G.set R a ⊎ G.set Fsc a

      acyclic : (a : E) → Plus Tso a a → ⊥
      acyclic a p = m.rule5 a (mapped tso_step p)

      into : {a b : E} → Node a → G.po a b → L b → Tso a b
      into (read r) h (inl w) = tso_read_write r h w
      into (write v) h (inl w) = tso_write_write v h w
      into (sc c) h (inl w) = tso_out_sc c h (write w)
      into n h (inr c) = tso_into_sc n h c

      out : {a b : E} → Q a → G.po a b → Node b → Tso a b
      out (inl r) h (read s) = tso_read_read r h s
      out (inl r) h (write w) = tso_read_write r h w
      out (inl r) h (sc c) = tso_into_sc (read r) h c
      out (inr c) h n = tso_out_sc c h n

      acquire : {a : E} → Q a → Node a
      acquire (inl r) = read r
      acquire (inr c) = sc c

      no_read : {a : E} → G.set R a → L a → ⊥
      no_read r (inl w) = f.read_write r w
      no_read r (inr c) = f.read_fence r (f.release_fence_lem (f.sc_release c))

      joins : (a b : E) → Q a → G.po a b → L b → Tso a b
      joins a b q = into (acquire q)

      -- Steps of po and rf, so those of sw, lie in HB.
      rf_HB : {a b : E} → G.rf a b → HB G Tso L Q a b
      rf_HB {a} {b} h = elim (decided a b) [
        | yes p ↦ along p
        | no n ↦ across (stay tt) (inl (f.rf_write h)) (one (tso_rfe h n)) (inl (f.rf_read h)) (stay tt)
      ]

      steps_HB : {a b : E} → Plus Step a b → HB G Tso L Q a b
      steps_HB p = collapse (HB_trans f joins) (mapped (λ x y. elim [ inl h ↦ along h | inr h ↦ rf_HB h ]) p)

      synced : Synced G Tso L Q Node
      synced = record {
        acyclic = λ {a} p. acyclic a p;
        rfe = λ a b h. tso_rfe h.0 h.1;
        co = λ a b h. tso_co h;
        fr = λ a b h. tso_fr h.1 h.2;
        into = into;
        out = out;
        into_sc = λ n h c. tso_into_sc n h c;
        out_sc = λ c h n. tso_out_sc c h n;
        read = λ r. read r;
        write = λ w. write w;
        sc = λ c. sc c;
        acquire = acquire;
        no_read = no_read;
        synchronizes = λ a b h. steps_HB (sw_steps h);
      }

      -- So do all steps of ar: psc is ordered from SC fence to SC fence, rfe is a step of rf, and the others lie in po.
      lies_HB : {a b : E} → Lies G a b → HB G Tso L Q a b
      lies_HB (in_po h) = along h
      lies_HB (by_rf h) = rf_HB h.0
      lies_HB {a} {b} (by_psc (_, on c, (x, h, (y, e, (_, k, on d))))) =
          across (stay tt) (inr c) (psc_order f decided m.rule3 synced a b (a, on c, (x, h, (y, e, (b, k, on d))))) (inr d) (stay tt)

      ar_HB : (a b : E) → ⟦ ar ⟧ G a b → HB G Tso L Q a b
      ar_HB a b h = lies_HB (ar_lies f h)

      no_thin_air : Rule5 IMM G
      no_thin_air a p = no_HB_ring f joins acyclic a (collapse (HB_trans f joins) (mapped ar_HB p))

      pub tso_theorem : Allowed IMM G
      tso_theorem = record {
        rule1 = m.rule1;
        rule2 = m.rule2;
        rule3 = hb_coherent f decided m.rule3 synced;
        rule4 = m.rule4;
        rule5 = no_thin_air;
      }

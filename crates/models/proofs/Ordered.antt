-- From an order O on the events of a graph to IMM: an order that fits `Ordered` gives IMM's rules 3 and 5.
use mathlib.Core.Logic.{◌⊎◌, inl, inr}
use Rattle.models.specs.Steps.{Plus, one, cons, on, stay, step}
use Rattle.models.specs.Recording.{R, W, F, Racq, Wrel, Wstrong, Facq, Frel}
use Rattle.models.specs.Graph.{Graph}
use Rattle.models.specs.Term.{⟨◌⟩, po, rf, rmw, opt, ◌⨾◌, ◌∪◌, fr, po_loc, rfₑ, rfᵢ, ⟦◌⟧}
use Rattle.models.specs.Imm.{rs, sw, bob, ppo, ar}
use Rattle.models.specs.Rules.{IMM, ARMv8, Rule1, Rule2, Rule3, Rule4, Allowed}
use Rattle.models.proofs.Closure.{join, snoc, Weak, weak_join}
use Rattle.models.proofs.Formed.{Formed}
use Rattle.models.proofs.Location.{po_co, loc_writes, rf_rmw, pair_steps}
use Rattle.models.proofs.Synced.{HB, along, across, Synced, hb_coherent, psc_order}
use Rattle.models.proofs.Rings.{Entry, Good, direct, behind, ar_acyclic}

module _ {E : Type 0} (G : Graph E) (O : E → E → Type 0) where
  pub record Ordered : Type 0 where
    pub acyclic : (a : E) → Plus O a a → ⊥
    pub rfe : (a b : E) → ⟦ rfₑ ⟧ G a b → O a b
    pub co : (a b : E) → G.co a b → O a b
    pub fr : (a b : E) → ⟦ fr ⟧ G a b → O a b
    pub rmw : (a b : E) → G.rmw a b → O a b
    pub ppo : (a b : E) → ⟦ ppo ⟧ G a b → Plus O a b
    -- A pair's write, read within its thread by an acquire read.
    pub pair_acquire : {a b c : E} → G.rmw a b → G.rf b c → G.po b c → G.set Racq c → O b c
    pub into_release : {a b : E} → G.po a b → G.set Wrel b → O a b
    pub out_acquire : {a b : E} → G.set Racq a → G.po a b → O a b
    pub into_fence : {a b : E} → G.po a b → G.set Frel b → O a b
    pub read_fence : {a b : E} → G.set R a → G.po a b → G.set F b → O a b
    pub out_fence : {a b : E} → G.set F a → G.po a b → O a b
    -- Across a strong write.
    pub strong : {a b c : E} → G.set R a → G.po a b → G.set Wstrong b → G.po b c → G.set W c → Plus O a c

  module _ (f : Formed G) (decided : (a b : E) → Dec (G.po a b)) (coherent : Rule3 ARMv8 G) (total : Rule2 G) (o : Ordered) where
    -- The repeated part of a release sequence.
    abbrev Pairs : E → E → Type 0
    Pairs = ⟦ opt po_loc ⨾ rf ⨾ rmw ⟧ G

    writes : {a b : E} → G.set W a → G.set W b → ⟦ opt po_loc ⟧ G a b → Weak (Plus O) a b
    writes = loc_writes f coherent total decided o.co o.rfe o.rmw

    pairs : {a b : E} → G.set W a → Plus Pairs a b → Plus O a b
    pairs = pair_steps f coherent total decided o.co o.rfe o.rmw

    loc_po : {a b c : E} → ⟦ opt po_loc ⟧ G a b → G.po b c → G.po a c
    loc_po (stay e) h = h
    loc_po {c = c} (step {a} {b} k) h = f.po_trans a b c k.0 h

    -- One pair of a release sequence, before a later fence.
    pair_fence : {a a₁ r w c : E} → G.set W a → ⟦ opt po_loc ⟧ G a a₁ → G.rf a₁ r → G.rmw r w → G.po w c ⊎ Plus O w c → G.set F c → G.po a c ⊎ Plus O a c
    pair_fence {a} {a₁} {r} {w} {c} v l h k (inl p) x =
        let q : G.po r c = f.po_trans r w c (f.rmw_po k) p in
        elim (decided a₁ r) [
          | yes i ↦ inl (loc_po l (f.po_trans a₁ r c i q))
          | no n ↦ inr (weak_join (writes v (f.rf_write h) l) (cons (o.rfe a₁ r (h, n)) (one (o.read_fence (f.rf_read h) q x))))
        ]
    pair_fence v l h k (inr q) x = inr (weak_join (writes v (f.rf_write h) l) (join (rf_rmw f coherent total decided o.co o.rfe o.rmw h k) q))

    -- Pairs before a later fence: all within the thread, or ordered.
    pairs_fence : {a b c : E} → G.set W a → Plus Pairs a b → G.po b c → G.set F c → G.po a c ⊎ Plus O a c
    pairs_fence v (one (a₁, l, (r, h, k))) p x = pair_fence v l h k (inl p) x
    pairs_fence v (cons (a₁, l, (r, h, k)) q) p x = pair_fence v l h k (pairs_fence (f.rmw_write k) q p x) x

    -- Pairs before an acquire read of the last one's write.
    last_pair : {a b : E} → Plus Pairs a b → (r : E) × G.rmw r b
    last_pair (one (a₁, l, (r, h, k))) = (r, k)
    last_pair (cons h q) = last_pair q

    -- What ends sw: an acquire read, or a later acquire fence.
    abbrev Q : E → Type 0
    Q a = G.set Racq a ⊎ G.set Facq a

    -- What begins it.
    abbrev L : E → Type 0
    L a = G.set Wrel a ⊎ G.set Frel a

    data Acquires : E → E → Type 0 where
      reads : {a : E} → G.set Racq a → Acquires a a
      fences : {a b : E} → G.po a b → G.set Facq b → Acquires a b

    acquired : {a b : E} → Acquires a b → Q b
    acquired (reads q) = inl q
    acquired (fences h x) = inr x

    -- Observed within the thread: po all the way, or ordered.
    pairs_inside : {a b c d : E} → G.set W a → Plus Pairs a b → G.rf b c → G.po b c → Acquires c d → G.po a d ⊎ Plus O a d
    pairs_inside {b = b} {c = c} v p h i (reads q) = inr (snoc (pairs v p) (o.pair_acquire (last_pair p).1 h i q))
    pairs_inside {b = b} v p h i (fences {a = c} {b = d} k x) = pairs_fence v p (f.po_trans b c d i k) (f.acquire_fence_lem x)

    inside_po : {b c d : E} → G.po b c → Acquires c d → G.po b d
    inside_po i (reads q) = i
    inside_po {b} i (fences {a = c} {b = d} k x) = f.po_trans b c d i k

    -- Observed from outside: ordered.
    outside : {a c d : E} → Plus O a c → G.set R c → Acquires c d → Plus O a d
    outside p r (reads q) = p
    outside p r (fences k x) = snoc p (o.read_fence r k (f.acquire_fence_lem x))

    -- A release sequence, its observation, and the acquire.
    observed : {a b c d : E} → ⟦ rs ⟧ G a b → ⟦ rfᵢ ∪ opt po_loc ⨾ rfₑ ⟧ G b c → Acquires c d → G.po a d ⊎ Plus O a d
    observed {a} {b} {c} {d} (inl (_, on v, (_, p, on w))) (inl (h, i)) k = inl (f.po_trans a b d p.0 (inside_po i k))
    observed {a} {b} (inl (_, on v, (_, p, on w))) (inr (b₁, l, (h, n))) k =
        inr (outside (cons (o.co a b (po_co f coherent total v w p.1 p.0)) (weak_join (writes w (f.rf_write h) l) (one (o.rfe b₁ _ (h, n))))) (f.rf_read h) k)
    observed (inr (_, on v, stay e)) (inl (h, i)) k = inl (inside_po i k)
    observed (inr (_, on v, stay e)) (inr (b₁, l, (h, n))) k = inr (outside (weak_join (writes v (f.rf_write h) l) (one (o.rfe b₁ _ (h, n)))) (f.rf_read h) k)
    observed (inr (_, on v, step p)) (inl (h, i)) k = pairs_inside v p h i k
    observed (inr (_, on v, step p)) (inr (b₁, l, (h, n))) k =
        inr (outside (join (pairs v p) (weak_join (writes (f.rmw_write (last_pair p).1) (f.rf_write h) l) (one (o.rfe b₁ _ (h, n))))) (f.rf_read h) k)

    acquires : {a b : E} → ⟦ ⟨ Racq ⟩ ∪ po ⨾ ⟨ Facq ⟩ ⟧ G a b → Acquires a b
    acquires (inl (on q)) = reads q
    acquires (inr (_, h, on x)) = fences h x

    -- The domain of O is every event.
    abbrev All : E → Type 0
    All a = Unit {0}

    -- sw lies along po, or is ordered from a release point to an acquire point.
    from_write : {a d : E} → G.set Wrel a → Q d → G.po a d ⊎ Plus O a d → HB G O L Q a d
    from_write w q (inl h) = along h
    from_write w q (inr p) = across (stay tt) (inl w) p q (stay tt)

    from_fence : {x a d : E} → G.set Frel x → G.po x a → Q d → G.po a d ⊎ Plus O a d → HB G O L Q x d
    from_fence {x} {a} {d} r h q (inl k) = along (f.po_trans x a d h k)
    from_fence r h q (inr p) = across (stay tt) (inr r) (cons (o.out_fence (f.release_fence_lem r) h) p) q (stay tt)

    sw_HB : (a b : E) → ⟦ sw ⟧ G a b → HB G O L Q a b
    sw_HB x d (b, (a, inl (on w), k), (c, v, q)) = from_write w (acquired (acquires q)) (observed k v (acquires q))
    sw_HB x d (b, (a, inr (_, on r, h), k), (c, v, q)) = from_fence r h (acquired (acquires q)) (observed k v (acquires q))

    no_read : {a : E} → G.set R a → L a → ⊥
    no_read r (inl w) = f.read_write r (f.release_write_lem w)
    no_read r (inr x) = f.read_fence r (f.release_fence_lem x)

    into : {a b : E} → All a → G.po a b → L b → O a b
    into u h (inl w) = o.into_release h w
    into u h (inr x) = o.into_fence h x

    out : {a b : E} → Q a → G.po a b → All b → O a b
    out (inl q) h u = o.out_acquire q h
    out (inr x) h u = o.out_fence (f.acquire_fence_lem x) h

    synced : Synced G O L Q All
    synced = record {
      acyclic = λ {a} p. o.acyclic a p;
      rfe = o.rfe;
      co = o.co;
      fr = o.fr;
      into = into;
      out = out;
      into_sc = λ u h c. o.into_fence h (f.sc_release c);
      out_sc = λ c h u. o.out_fence (f.release_fence_lem (f.sc_release c)) h;
      read = λ r. tt;
      write = λ w. tt;
      sc = λ c. tt;
      acquire = λ q. tt;
      no_read = no_read;
      synchronizes = sw_HB;
    }

    -- Every ar step is good. Two are not direct: a write before a fence, and a strong write before a write.
    entry_fence : {u c : E} → Entry G u → G.po u c → G.set F c → Plus O u c
    entry_fence (inl r) h x = one (o.read_fence r h x)
    entry_fence (inr y) h x = one (o.out_fence y h)

    fence_good : {a c : E} → G.po a c → G.set F c → G.set R a ⊎ G.set W a ⊎ G.set F a → Good G O a c
    fence_good h x (inl r) = direct (one (o.read_fence r h x))
    fence_good {a} {c} h x (inr (inl w)) = behind w (λ u e k. entry_fence e (f.po_trans u a c k h) x)
    fence_good h x (inr (inr y)) = direct (one (o.out_fence y h))

    strong_entry : {u a c : E} → Entry G u → G.po u a → G.set Wstrong a → G.po a c → G.set W c → Plus O u c
    strong_entry (inl r) k s h w = o.strong r k s h w
    strong_entry {u} {a} {c} (inr y) k s h w = one (o.out_fence y (f.po_trans u a c k h))

    bob_good : (a b : E) → ⟦ bob ⟧ G a b → Good G O a b
    bob_good a b (inl (inl (inl (inl (_, h, on w))))) = direct (one (o.into_release h w))
    bob_good a b (inl (inl (inl (inr (_, on q, h))))) = direct (one (o.out_acquire q h))
    bob_good a b (inl (inl (inr (_, h, on x)))) = fence_good h x (f.classes (f.po_source h))
    bob_good a b (inl (inr (_, on x, h))) = direct (one (o.out_fence x h))
    bob_good a b (inr (_, on w, (_, h, on v))) = direct (one (o.co a b (po_co f coherent total (f.release_write_lem w) v h.1 h.0)))

    ar_good : (a b : E) → ⟦ ar ⟧ G a b → Good G O a b
    ar_good a b (inl (inl (inl (inl (inl h))))) = direct (one (o.rfe a b h))
    ar_good a b (inl (inl (inl (inl (inr h))))) = bob_good a b h
    ar_good a b (inl (inl (inl (inr h)))) = direct (o.ppo a b h)
    ar_good a b (inl (inl (inr ((c, h, k), p)))) = direct (cons (o.co a c h.0) (one (o.rfe c b k)))
    ar_good a b (inl (inr h)) = direct (psc_order f decided coherent synced a b h)
    ar_good a b (inr (_, on s, (_, h, on w))) = behind (f.strong_write_lem s) (λ u e k. strong_entry e k s h w)

    -- IMM allows the graph.
    pub imm_allows : Rule1 G → Rule4 G → Allowed IMM G
    imm_allows complete atomic = record {
      rule1 = complete;
      rule2 = total;
      rule3 = hb_coherent f decided coherent synced;
      rule4 = atomic;
      rule5 = ar_acyclic f ar_good o.acyclic;
    }

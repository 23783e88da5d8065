-- Happens-before, coherence and psc within an abstract order O of events: what an order must give so that IMM's rule 3 holds and psc lies in it.
-- Any model whose order fits `Synced` has both from here.
use mathlib.Core.Logic.{inl, inr}
use Rattle.models.specs.Steps.{Plus, one, cons, on, stay, step}
use Rattle.models.specs.Recording.{R, W, Fsc}
use Rattle.models.specs.Graph.{Graph}
use Rattle.models.specs.Term.{fr, rfₑ, ⟦◌⟧}
use Rattle.models.specs.Imm.{sw, hb, eco, psc}
use Rattle.models.specs.Rules.{IMM, ARMv8, Rule3}
use Rattle.models.proofs.Closure.{join, snoc, mapped, collapse, Weak, weak_step, weak_join, join_weak, weak_trans}
use Rattle.models.proofs.Formed.{Formed}
use Rattle.models.proofs.Location.{Com, by_rf, by_co, by_fr, no_po_com}

module _ {E : Type 0} (G : Graph E) (O : E → E → Type 0) (L Q : E → Type 0) where
  -- Along po, or from a release point over O to an acquire point.
  pub data HB : E → E → Type 0 where
    along : {x y : E} → G.po x y → HB x y
    across : {x a b y : E} → Weak G.po x a → L a → Plus O a b → Q b → Weak G.po b y → HB x y

-- Where O leads along po from an acquire point to a release point, HB is transitive, and it is irreflexive if O is acyclic.
module _ {E : Type 0} {G : Graph E} {O : E → E → Type 0} {L Q : E → Type 0} (f : Formed G) (joins : (a b : E) → Q a → G.po a b → L b → O a b) where
  between : {a b : E} → Q a → Weak G.po a b → L b → Weak (Plus O) a b
  between {a} {b} q p l = weak_step (λ h. joins a b q h l) p

  pub HB_trans : (x y z : E) → HB G O L Q x y → HB G O L Q y z → HB G O L Q x z
  HB_trans x y z (along h) (along k) = along (f.po_trans x y z h k)
  HB_trans x y z (along h) (across p l o q t) = across (weak_trans f.po_trans (step h) p) l o q t
  HB_trans x y z (across p l o q t) (along k) = across p l o q (weak_trans f.po_trans t (step k))
  HB_trans x y z (across p l o q t) (across p' l' o' q' t') = across p l (join (join_weak o (between q (weak_trans f.po_trans t p') l')) o') q' t'

  pub no_HB_ring : ((a : E) → Plus O a a → ⊥) → (x : E) → HB G O L Q x x → ⊥
  no_HB_ring acyclic x (along h) = f.po_irreflexive h
  no_HB_ring acyclic x (across {a = a} p l o q t) = acyclic a (join_weak o (between q (weak_trans f.po_trans t p) l))

module _ {E : Type 0} (G : Graph E) (O : E → E → Type 0) (L Q N : E → Type 0) where
  -- L are the release points, Q the acquire points, N the domain of O.
  pub record Synced : Type 0 where
    pub acyclic : {a : E} → Plus O a a → ⊥
    pub rfe : (a b : E) → ⟦ rfₑ ⟧ G a b → O a b
    pub co : (a b : E) → G.co a b → O a b
    pub fr : (a b : E) → ⟦ fr ⟧ G a b → O a b
    pub into : {a b : E} → N a → G.po a b → L b → O a b
    pub out : {a b : E} → Q a → G.po a b → N b → O a b
    pub into_sc : {a b : E} → N a → G.po a b → G.set Fsc b → O a b
    pub out_sc : {a b : E} → G.set Fsc a → G.po a b → N b → O a b
    pub read : {a : E} → G.set R a → N a
    pub write : {a : E} → G.set W a → N a
    pub sc : {a : E} → G.set Fsc a → N a
    pub acquire : {a : E} → Q a → N a
    pub no_read : {a : E} → G.set R a → L a → ⊥
    pub synchronizes : (a b : E) → ⟦ sw ⟧ G a b → HB G O L Q a b

module _ {E : Type 0} {G : Graph E} {O : E → E → Type 0} {L Q N : E → Type 0}
    (f : Formed G) (decided : (a b : E) → Dec (G.po a b)) (coherent : Rule3 ARMv8 G) (s : Synced G O L Q N) where
  -- From a point of N along po to a release point, and from an acquire point to a point of N.
  to_release : {a b : E} → N a → Weak G.po a b → L b → Weak (Plus O) a b
  to_release n p l = weak_step (λ h. s.into n h l) p

  from_acquire : {a b : E} → Q a → Weak G.po a b → N b → Weak (Plus O) a b
  from_acquire q p n = weak_step (λ h. s.out q h n) p

  joins : (a b : E) → Q a → G.po a b → L b → O a b
  joins a b q = s.into (s.acquire q)

  pub hb_HB : {x y : E} → ⟦ hb ⟧ G x y → HB G O L Q x y
  hb_HB p = collapse (HB_trans f joins) (mapped (λ a b. elim [ inl h ↦ along h | inr h ↦ s.synchronizes a b h ]) p)

  -- eco is O⁺, or O* then an internal rf; it joins accesses, and is communication.
  pub data Eco : E → E → Type 0 where
    ordered : {x y : E} → N x → N y → Plus O x y → Plus (Com G) x y → Eco x y
    read_inside : {x z y : E} → N x → Weak (Plus O) x z → G.rf z y → G.po z y → Plus (Com G) x y → Eco x y

  then_rf : {x z y : E} → N x → Weak (Plus O) x z → G.rf z y → Plus (Com G) x y → Eco x y
  then_rf {x} {z} {y} n o h c = elim (decided z y) [
    | yes p ↦ read_inside n o h p c
    | no p ↦ ordered n (s.read (f.rf_read h)) (weak_join o (one (s.rfe z y (h, p)))) c
  ]

  eco_Eco : (x y : E) → ⟦ eco ⟧ G x y → Eco x y
  eco_Eco x y (inl (inl h)) = then_rf (s.write (f.rf_write h)) (stay tt) h (one (by_rf h))
  eco_Eco x y (inl (inr (z, h, stay e))) = ordered (s.write (f.co_source h)) (s.write (f.co_target h)) (one (s.co x z h)) (one (by_co h))
  eco_Eco x y (inl (inr (z, h, step k))) = then_rf (s.write (f.co_source h)) (step (one (s.co x z h))) k (cons (by_co h) (one (by_rf k)))
  eco_Eco x y (inr (z, (w, h, k), stay e)) = ordered (s.read (f.rf_read h)) (s.write (f.co_target k)) (one (s.fr x z (w, h, k))) (one (by_fr h k))
  eco_Eco x y (inr (z, (w, h, k), step l)) = then_rf (s.read (f.rf_read h)) (step (one (s.fr x z (w, h, k)))) l (cons (by_fr h k) (one (by_rf l)))

  -- An internal rf before a release point is ordered.
  read_release : {z x a : E} → G.rf z x → G.po z x → Weak G.po x a → L a → O z a
  read_release h p (stay u) l = absurd (s.no_read (f.rf_read h) l)
  read_release {z} h p (step {a = x} {b = a} k) l = s.into (s.write (f.rf_write h)) (f.po_trans z x a p k) l

  -- eco and then along po to a release point.
  eco_release : {y x a : E} → Eco y x → Weak G.po x a → L a → Plus O y a
  eco_release (ordered n m o c) p l = join_weak o (to_release m p l)
  eco_release (read_inside n o h q c) p l = weak_join o (one (read_release h q p l))

  eco_source : {x y : E} → Eco x y → N x
  eco_source (ordered n m o c) = n
  eco_source (read_inside n o h q c) = n

  eco_com : {x y : E} → Eco x y → Plus (Com G) x y
  eco_com (ordered n m o c) = c
  eco_com (read_inside n o h q c) = c

  no_HB_eco : {x y : E} → HB G O L Q x y → Eco y x → ⊥
  no_HB_eco (along h) e = no_po_com f coherent h (eco_com e)
  no_HB_eco (across p l o q t) e = s.acyclic (join o (weak_join (from_acquire q t (eco_source e)) (eco_release e p l)))

  -- Rule 3 of IMM.
  pub hb_coherent : Rule3 IMM G
  hb_coherent a (b, h, stay e) = no_HB_ring f joins (λ x p. s.acyclic p) a (hb_HB h)
  hb_coherent a (b, h, step k) = no_HB_eco (hb_HB h) (eco_Eco b a k)

  -- From an SC fence by hb to a point of N, and from eco by hb to an SC fence.
  sc_HB : {x y : E} → G.set Fsc x → HB G O L Q x y → N y → Plus O x y
  sc_HB c (along h) n = one (s.out_sc c h n)
  sc_HB c (across p l o q t) n = weak_join (to_release (s.sc c) p l) (join_weak o (from_acquire q t n))

  eco_HB_sc : {x y z : E} → Eco x y → HB G O L Q y z → G.set Fsc z → Plus O x z
  eco_HB_sc (ordered n m o c) (along h) k = snoc o (s.into_sc m h k)
  eco_HB_sc (read_inside n o h q c) (along {x = y} {y = z} k) l = weak_join o (one (s.into_sc (s.write (f.rf_write h)) (f.po_trans _ y z q k) l))
  eco_HB_sc e (across p l o q t) k = join (eco_release e p l) (join_weak o (from_acquire q t (s.sc k)))

  pub psc_order : (a b : E) → ⟦ psc ⟧ G a b → Plus O a b
  psc_order a b (_, on c, (x, h, (y, e, (_, k, on d)))) =
      let e' = eco_Eco x y e in
      join (sc_HB c (hb_HB h) (eco_source e')) (eco_HB_sc e' (hb_HB k) d)

-- ARMv8's ordered-before, enlarged: with internal co and fr, and with barriers as events of the order, it still has no ring.
use mathlib.Core.Logic.{◌⊎◌, inl, inr}
use mathlib.Core.Path.{subst}
use Rattle.models.specs.Steps.{Plus, one, cons, on, Opt, stay, step}
use Rattle.models.specs.Recording.{R, W, F, Racq, Wrel, Fld, Fsy}
use Rattle.models.specs.Graph.{Graph}
use Rattle.models.specs.Term.{coᵢ, ⟦◌⟧}
use Rattle.models.specs.Armv8.{ob}
use Rattle.models.specs.Rules.{ARMv8, Allowed}
use Rattle.models.proofs.Closure.{join, mapped, collapse, Weak, weak_join, weak_trans, turned_to_lem}
use Rattle.models.proofs.Formed.{Formed}
use Rattle.models.proofs.Location.{Com, by_rf, by_co, by_fr, no_com_ring, no_po_com, rmw_fr}

module _ {E : Type 0} (A : Graph E) where
  -- Steps of ob, one constructor a clause. Those that the theorem does not need are left out.
  pub data Ob : E → E → Type 0 where
    ob_rfe : {a b : E} → A.rf a b → ¬ A.po a b → Ob a b
    ob_fre : {w a b : E} → A.rf w a → A.co w b → ¬ A.po a b → Ob a b
    ob_coe : {a b : E} → A.co a b → ¬ A.po a b → Ob a b
    ob_addr : {a b : E} → A.addr a b → Ob a b
    ob_addr_po : {a b c : E} → A.addr a b → A.po b c → A.set W c → Ob a c
    ob_data_rfi : {a b c : E} → A.«data» a b → A.rf b c → A.po b c → Ob a c
    ob_data_coi : {a b c : E} → A.«data» a b → Weak (⟦ coᵢ ⟧ A) b c → Ob a c
    ob_ctrl : {a b : E} → A.ctrl a b → A.set W b → Ob a b
    ob_rmw : {a b : E} → A.rmw a b → Ob a b
    ob_pair : {c a b : E} → A.rmw c a → A.rf a b → A.po a b → A.set Racq b → Ob a b
    ob_sy : {a b c : E} → A.po a b → A.set Fsy b → A.po b c → Ob a c
    ob_ld : {a b c : E} → A.set R a → A.po a b → A.set Fld b → A.po b c → Ob a c
    ob_acquire : {a b : E} → A.set Racq a → A.po a b → Ob a b
    ob_release : {a b c : E} → A.po a b → A.set Wrel b → Weak (⟦ coᵢ ⟧ A) b c → Ob a c

  -- Internal co and fr.
  pub data Inner : E → E → Type 0 where
    coi : {a b : E} → A.co a b → A.po a b → Inner a b
    fri : {w a b : E} → A.rf w a → A.co w b → A.po a b → Inner a b

  abbrev pub Base : E → E → Type 0
  Base a b = Ob a b ⊎ Inner a b

  -- With barriers as events of the order.
  pub data Ord : E → E → Type 0 where
    plain : {a b : E} → Base a b → Ord a b
    into_sy : {a b : E} → A.po a b → A.set Fsy b → Ord a b
    into_ld : {a b : E} → A.set R a → A.po a b → A.set Fld b → Ord a b
    out_sy : {a b : E} → A.set Fsy a → A.po a b → Ord a b
    out_ld : {a b : E} → A.set Fld a → A.po a b → Ord a b

  module _ (f : Formed A) where
    -- Each is a step of ob.
    coi_opt : {a b : E} → A.set W a → Weak (⟦ coᵢ ⟧ A) a b → Opt A.E (⟦ coᵢ ⟧ A) a b
    coi_opt w (stay u) = stay (f.write_event w)
    coi_opt w (step h) = step h

    ob_step : (a b : E) → Ob a b → ⟦ ob ⟧ A a b
    ob_step a b (ob_rfe h n) = inl (inl (inl (inl (inl (h, n)))))
    ob_step a b (ob_fre {w = w} h k n) = inl (inl (inl (inl (inr ((w, h, k), n)))))
    ob_step a b (ob_coe h n) = inl (inl (inl (inr (h, n))))
    ob_step a b (ob_addr h) = inl (inl (inr (inl (inl (inl (b, inl h, stay (f.po_target (f.addr_po h))))))))
    ob_step a c (ob_addr_po {b = b} h k w) = inl (inl (inr (inl (inr (b, h, (c, k, on w))))))
    ob_step a c (ob_data_rfi {b = b} h k i) = inl (inl (inr (inl (inl (inl (b, inr h, step (k, i)))))))
    ob_step a c (ob_data_coi {b = b} h o) = inl (inl (inr (inl (inl (inr (b, inr h, (b, on (f.data_write h), coi_opt (f.data_write h) o)))))))
    ob_step a b (ob_ctrl h w) = inl (inl (inr (inl (inl (inr (b, inl h, (b, on w, stay (f.write_event w))))))))
    ob_step a b (ob_rmw h) = inl (inr (inl h))
    ob_step a b (ob_pair {c = c} x h i q) = inl (inr (inr (a, on (c, x), (b, (h, i), on q))))
    ob_step a c (ob_sy {b = b} h s k) = inr (inl (inl (inl (inl (b, h, (b, on s, k))))))
    ob_step a c (ob_ld {b = b} r h l k) = inr (inl (inl (inl (inr (a, on r, (b, h, (b, on l, k)))))))
    ob_step a b (ob_acquire q h) = inr (inl (inl (inr (a, on q, h))))
    ob_step a c (ob_release {b = b} h w o) = inr (inl (inr (b, h, (b, on w, coi_opt (f.release_write_lem w) o))))

    inner_po : {a b : E} → Inner a b → A.po a b
    inner_po (coi h p) = p
    inner_po (fri h k p) = p

    inner_write : {a b : E} → Inner a b → A.set W b
    inner_write (coi h p) = f.co_target h
    inner_write (fri h k p) = f.co_target k

    coi_trans : (a b c : E) → ⟦ coᵢ ⟧ A a b → ⟦ coᵢ ⟧ A b c → ⟦ coᵢ ⟧ A a c
    coi_trans a b c h k = (f.co_trans h.0 k.0, f.po_trans a b c h.1 k.1)

    -- After a write, Inner is internal co; after a read, internal fr.
    after_write : {a b : E} → A.set W a → Inner a b → ⟦ coᵢ ⟧ A a b
    after_write w (coi h p) = (h, p)
    after_write w (fri h k p) = absurd (f.read_write (f.rf_read h) w)

    after_read : {w a b : E} → A.rf w a → Inner a b → A.co w b
    after_read h (coi k p) = absurd (f.read_write (f.rf_read h) (f.co_source k))
    after_read {b = b} h (fri {w = v} k l p) = subst (λ x. A.co x b) (f.rf_functional k h) l

    weak_target : {a b : E} → A.set W a → Weak (⟦ coᵢ ⟧ A) a b → A.set W b
    weak_target w (stay u) = w
    weak_target w (step h) = f.co_target h.0

    weak_po : {a b c : E} → A.po a b → Weak (⟦ coᵢ ⟧ A) b c → A.po a c
    weak_po h (stay u) = h
    weak_po {a} h (step {a = b} {b = c} k) = f.po_trans a b c h k.1

    module _ (m : Allowed ARMv8 A) where
      -- Communication from another thread is external also to what follows in po.
      external : {a b c : E} → Com A a b → ¬ A.po a b → ¬ A.Init b → A.po b c → ¬ A.po a c
      external {a} {b} h n i k p = elim (f.po_comparable p k i) [
        | inl l ↦ n l
        | inr e ↦ elim e [
          | inl q ↦ no_com_ring f m.rule3 (one (subst (λ x. Com A x b) q h))
          | inr l ↦ no_po_com f m.rule3 l (one h)
        ]
      ]

      -- ob then Inner is ob⁺ or Inner.
      ob_inner : {a b c : E} → Ob a b → Inner b c → Plus Ob a c ⊎ Inner a c
      ob_inner (ob_rfe h n) i = inl (one (ob_coe (after_read h i) (external (by_rf h) n (f.read_recorded (f.rf_read h)) (inner_po i))))
      ob_inner (ob_fre h k n) i = inl (one (ob_fre h (f.co_trans k (after_write (f.co_target k) i).0) (external (by_fr h k) n (f.co_recorded k) (inner_po i))))
      ob_inner (ob_coe h n) i = inl (one (ob_coe (f.co_trans h (after_write (f.co_target h) i).0) (external (by_co h) n (f.co_recorded h) (inner_po i))))
      ob_inner (ob_addr h) i = inl (one (ob_addr_po h (inner_po i) (inner_write i)))
      ob_inner {c = d} (ob_addr_po {b = b} {c = c} h k w) i = inl (one (ob_addr_po h (f.po_trans b c d k (inner_po i)) (inner_write i)))
      ob_inner {c = d} (ob_data_rfi {b = b} {c = c} h k p) i = inl (one (ob_data_coi h (step (after_read k i, f.po_trans b c d p (inner_po i)))))
      ob_inner (ob_data_coi h o) i = inl (one (ob_data_coi h (weak_trans coi_trans o (step (after_write (weak_target (f.data_write h) o) i)))))
      ob_inner (ob_ctrl h w) i = inl (one (ob_ctrl (f.ctrl_closed h (inner_po i)) (inner_write i)))
      ob_inner {a} {b} {c} (ob_rmw h) i =
          let k = rmw_fr f m.rule3 m.rule2 m.rule1 h in
          inr (fri k.1 (f.co_trans k.2 (after_write (f.rmw_write h) i).0) (f.po_trans a b c (f.rmw_po h) (inner_po i)))
      ob_inner (ob_pair x h p q) i = inl (cons (ob_pair x h p q) (one (ob_acquire q (inner_po i))))
      ob_inner {c = d} (ob_sy {b = b} {c = c} h s k) i = inl (one (ob_sy h s (f.po_trans b c d k (inner_po i))))
      ob_inner {c = d} (ob_ld {b = b} {c = c} r h l k) i = inl (one (ob_ld r h l (f.po_trans b c d k (inner_po i))))
      ob_inner {a} {b} {c} (ob_acquire q h) i = inl (one (ob_acquire q (f.po_trans a b c h (inner_po i))))
      ob_inner (ob_release h w o) i = inl (one (ob_release h w (weak_trans coi_trans o (step (after_write (weak_target (f.release_write_lem w) o) i)))))

      obs_inner : {a b c : E} → Plus Ob a b → Inner b c → Plus Ob a c ⊎ Inner a c
      obs_inner (one h) i = ob_inner h i
      obs_inner (cons h p) i = elim (obs_inner p i) [ inl q ↦ inl (cons h q) | inr j ↦ ob_inner h j ]

      inner_inner : {a b c : E} → Inner a b → Inner b c → Inner a c
      inner_inner {a} {b} {c} (coi h p) j = (let k = coi_trans a b c (h, p) (after_write (f.co_target h) j) in coi k.0 k.1)
      inner_inner {a} {b} {c} (fri h k p) j = fri h (f.co_trans k (after_write (f.co_target k) j).0) (f.po_trans a b c p (inner_po j))

      -- A path of both is a path of ob, behind at most one Inner.
      data Path : E → E → Type 0 where
        outer : {a b : E} → Plus Ob a b → Path a b
        inner : {a b : E} → Inner a b → Path a b
        mixed : {a b c : E} → Inner a b → Plus Ob b c → Path a c

      extend : {a b c : E} → Base a b → Path b c → Path a c
      extend (inl h) (outer p) = outer (cons h p)
      extend (inl h) (inner i) = elim (ob_inner h i) [ inl p ↦ outer p | inr j ↦ inner j ]
      extend (inl h) (mixed i p) = elim (ob_inner h i) [ inl q ↦ outer (join q p) | inr j ↦ mixed j p ]
      extend (inr i) (outer p) = mixed i p
      extend (inr i) (inner j) = inner (inner_inner i j)
      extend (inr i) (mixed j p) = mixed (inner_inner i j) p

      paths : {a b : E} → Plus Base a b → Path a b
      paths (one (inl h)) = outer (one h)
      paths (one (inr i)) = inner i
      paths (cons h p) = extend h (paths p)

      no_ob_ring : {a : E} → Plus Ob a a → ⊥
      no_ob_ring {a} p = m.rule5 a (mapped ob_step p)

      no_path_ring : {a : E} → Path a a → ⊥
      no_path_ring (outer p) = no_ob_ring p
      no_path_ring (inner i) = f.po_irreflexive (inner_po i)
      no_path_ring (mixed i p) = elim (obs_inner p i) [ inl q ↦ no_ob_ring q | inr j ↦ f.po_irreflexive (inner_po j) ]

      no_base_ring : {a : E} → Plus Base a a → ⊥
      no_base_ring p = no_path_ring (paths p)

    -- Barriers. A step of ob starts at an access or lies in po; it ends in an access, or lies in po and goes on along it.
    data Access (a : E) : Type 0 where
      reads : A.set R a → Access a
      writes : A.set W a → Access a

    access_fence : {a : E} → Access a → A.set F a → ⊥
    access_fence (reads r) x = f.read_fence r x
    access_fence (writes w) x = f.write_fence w x

    ob_starts : {a b : E} → Ob a b → Access a ⊎ A.po a b
    ob_starts (ob_rfe h n) = inl (writes (f.rf_write h))
    ob_starts (ob_fre h k n) = inl (reads (f.rf_read h))
    ob_starts (ob_coe h n) = inl (writes (f.co_source h))
    ob_starts (ob_addr h) = inl (reads (f.addr_read h))
    ob_starts (ob_addr_po h k w) = inl (reads (f.addr_read h))
    ob_starts (ob_data_rfi h k i) = inl (reads (f.data_read h))
    ob_starts (ob_data_coi h o) = inl (reads (f.data_read h))
    ob_starts (ob_ctrl h w) = inl (reads (f.ctrl_read h))
    ob_starts (ob_rmw h) = inr (f.rmw_po h)
    ob_starts (ob_pair x h i q) = inr i
    ob_starts {a} {b = c} (ob_sy {b = b} h s k) = inr (f.po_trans a b c h k)
    ob_starts (ob_ld r h l k) = inl (reads r)
    ob_starts (ob_acquire q h) = inr h
    ob_starts (ob_release h w o) = inr (weak_po h o)

    ob_ends : {a b : E} → Ob a b → Access b ⊎ (A.po a b × ((c : E) → A.po b c → Ob a c))
    ob_ends (ob_rfe h n) = inl (reads (f.rf_read h))
    ob_ends (ob_fre h k n) = inl (writes (f.co_target k))
    ob_ends (ob_coe h n) = inl (writes (f.co_target h))
    ob_ends (ob_addr h) = inl (elim (f.addr_access h) [ inl r ↦ reads r | inr w ↦ writes w ])
    ob_ends (ob_addr_po h k w) = inl (writes w)
    ob_ends (ob_data_rfi h k i) = inl (reads (f.rf_read k))
    ob_ends (ob_data_coi h o) = inl (writes (weak_target (f.data_write h) o))
    ob_ends (ob_ctrl h w) = inl (writes w)
    ob_ends (ob_rmw h) = inl (writes (f.rmw_write h))
    ob_ends (ob_pair x h i q) = inl (reads (f.rf_read h))
    ob_ends {a} {b = c} (ob_sy {b = b} h s k) = inr (f.po_trans a b c h k, λ d l. ob_sy h s (f.po_trans b c d k l))
    ob_ends {a} {b = c} (ob_ld {b = b} r h l k) = inr (f.po_trans a b c h k, λ d j. ob_ld r h l (f.po_trans b c d k j))
    ob_ends {a} {b} (ob_acquire q h) = inr (h, λ c k. ob_acquire q (f.po_trans a b c h k))
    ob_ends (ob_release h w o) = inl (writes (weak_target (f.release_write_lem w) o))

    -- A step of the order ends in an access or lies in po; one from a barrier lies in po.
    ord_ends : (a b : E) → Ord a b → Access b ⊎ A.po a b
    ord_ends a b (plain (inl h)) = elim (ob_ends h) [ inl c ↦ inl c | inr k ↦ inr k.0 ]
    ord_ends a b (plain (inr i)) = inl (writes (inner_write i))
    ord_ends a b (into_sy h s) = inr h
    ord_ends a b (into_ld r h l) = inr h
    ord_ends a b (out_sy s h) = inr h
    ord_ends a b (out_ld l h) = inr h

    ord_event : {a b : E} → Ord a b → A.E b
    ord_event {a} {b} h = elim (ord_ends a b h) [ inl c ↦ elim c [ reads r ↦ f.read_event r | writes w ↦ f.write_event w ] | inr p ↦ f.po_target p ]

    ord_barrier : {a b : E} → A.set F a → Ord a b → A.po a b
    ord_barrier x (plain (inl h)) = elim (ob_starts h) [ inl c ↦ absurd (access_fence c x) | inr p ↦ p ]
    ord_barrier x (plain (inr i)) = inner_po i
    ord_barrier x (into_sy h s) = h
    ord_barrier x (into_ld r h l) = h
    ord_barrier x (out_sy s h) = h
    ord_barrier x (out_ld l h) = h

    -- How far a path from the access x has come at y: at an access, or at a barrier behind u, from which ob goes on along po.
    data At (x : E) : E → Type 0 where
      at_access : {y : E} → Weak (Plus Base) x y → Access y → At x y
      at_barrier : {u y : E} → Weak (Plus Base) x u → ((c : E) → A.po y c → Ob u c) → A.set F y → At x y

    to_access : {x y z : E} → At x y → Ord y z → Access z → Plus Base x z
    to_access (at_access p c) (plain h) d = weak_join p (one h)
    to_access (at_access p c) (into_sy h s) d = absurd (access_fence d (f.sy_fence s))
    to_access (at_access p c) (into_ld r h l) d = absurd (access_fence d (f.ld_fence l))
    to_access (at_access p c) (out_sy s h) d = absurd (access_fence c (f.sy_fence s))
    to_access (at_access p c) (out_ld l h) d = absurd (access_fence c (f.ld_fence l))
    to_access {z = z} (at_barrier p g x) h d = weak_join p (one (inl (g z (ord_barrier x h))))

    to_barrier : {x y z : E} → At x y → Ord y z → A.set F z → At x z
    to_barrier (at_access p c) (plain (inl h)) x = elim (ob_ends h) [ inl d ↦ absurd (access_fence d x) | inr k ↦ at_barrier p k.1 x ]
    to_barrier (at_access p c) (plain (inr i)) x = absurd (f.write_fence (inner_write i) x)
    to_barrier (at_access p c) (into_sy h s) x = at_barrier p (λ d k. ob_sy h s k) x
    to_barrier (at_access p c) (into_ld r h l) x = at_barrier p (λ d k. ob_ld r h l k) x
    to_barrier (at_access p c) (out_sy s h) x = absurd (access_fence c (f.sy_fence s))
    to_barrier (at_access p c) (out_ld l h) x = absurd (access_fence c (f.ld_fence l))
    to_barrier {y = y} {z = z} (at_barrier p g x) h v = at_barrier p (λ d k. g d (f.po_trans y z d (ord_barrier x h) k)) v

    to_any : {x y z : E} → At x y → Ord y z → A.set R z ⊎ A.set W z ⊎ A.set F z → At x z
    to_any t h (inl r) = at_access (step (to_access t h (reads r))) (reads r)
    to_any t h (inr (inl w)) = at_access (step (to_access t h (writes w))) (writes w)
    to_any t h (inr (inr x)) = to_barrier t h x

    run : {x y z : E} → At x y → Plus Ord y z → Access z → Plus Base x z
    run t (one h) c = to_access t h c
    run t (cons h p) c = run (to_any t h (f.classes (ord_event h))) p c

    pub no_ord_ring : Allowed ARMv8 A → (a : E) → Plus Ord a a → ⊥
    no_ord_ring m a p = elim (turned_to_lem {s = A.po} {P = Access} ord_ends p) [
      | inl q ↦ f.po_irreflexive (collapse f.po_trans q)
      | inr (b, c, q) ↦ no_base_ring m (run (at_access (stay tt) c) q c)
    ]

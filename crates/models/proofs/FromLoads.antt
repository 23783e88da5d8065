-- The graph of a recording that loads is an execution graph as Def. 2.3 of 003 asks.
use mathlib.Core.Logic.{◌⊎◌, inl, inr}
use mathlib.Core.Path.{◌≡◌, sym, ◌∙◌, subst}
use native.Mathlib.Omega.{arith}
use lib.Dec.{T}
use Rattle.models.specs.Recording.{Recording, event, read, write, fence, co_step}
use Rattle.models.specs.Steps.{Plus, one, cons, stay, step}
use Rattle.models.specs.Graph.{graph}
use Rattle.models.specs.Loads.{Loads}
use Rattle.models.proofs.Closure.{join, collapse, path_source, path_target, mapped, reversed, comparable}
use Rattle.models.proofs.MemberLaws.{initial_event, recorded_event, event_cases, class_event, class_intro, class_apart, mode_class, flag_class, acquire_fence_lem, release_fence_lem, sc_release, access_cases, read_access, write_access, same_intro, same_first, same_second, same_location_lem, CoStep, linked, initially, step_cases}
use Rattle.models.proofs.Formed.{Formed}

module _ {E : Type 0} (r : Recording E) (l : Loads r) where
  abbrev Next : E → E → Type 0
  Next a b = T (r.next a b)

  abbrev Po : E → E → Type 0
  Po = (graph r).po

  -- Classes.
  initial_is_write : (a : E) → T (r.initial a) → T (write r a)
  initial_is_write a h = class_intro r 2 a (initial_event r a h) (l.initial_write a h)

  classes : (a : E) → T (event r a) → T (read r a) ⊎ T (write r a) ⊎ T (fence r a)
  classes a h = elim (event_cases r a h) [
    | inl i ↦ inr (inl (initial_is_write a i))
    | inr c ↦ elim (l.class a c) [
      | inl p ↦ inl (class_intro r 1 a h p)
      | inr q ↦ elim q [ inl p ↦ inr (inl (class_intro r 2 a h p)) | inr p ↦ inr (inr (class_intro r 3 a h p)) ]
    ]
  ]

  pub read_uninitial : (a : E) → T (read r a) → ¬ T (r.initial a)
  read_uninitial a h i = class_apart r 1 2 a (omega arith) h (initial_is_write a i)

  -- Program order.
  nexts_source : {a b : E} → Plus Next a b → T (r.recorded a)
  nexts_source = path_source l.next_source

  nexts_target : {a b : E} → Plus Next a b → T (r.recorded b)
  nexts_target = path_target l.next_target

  po_source : {a b : E} → Po a b → T (event r a)
  po_source {a} (inl h) = initial_event r a h.0
  po_source {a} (inr p) = recorded_event r a (nexts_source p)

  po_recorded : {a b : E} → Po a b → T (r.recorded b)
  po_recorded (inl h) = h.1
  po_recorded (inr p) = nexts_target p

  po_trans : (a b c : E) → Po a b → Po b c → Po a c
  po_trans a b c (inl h) k = inl (h.0, po_recorded k)
  po_trans a b c (inr p) (inl k) = absurd (l.initial_unrecorded b k.0 (nexts_target p))
  po_trans a b c (inr p) (inr q) = inr (join p q)

  po_irreflexive : {a : E} → Po a a → ⊥
  po_irreflexive {a} (inl h) = l.initial_unrecorded a h.0 h.1
  po_irreflexive {a} (inr p) = l.next_acyclic a p

  -- From an event that is not initial, po is the chain.
  pub po_next : {a b : E} → ¬ T (r.initial a) → Po a b → Plus Next a b
  po_next n (inl h) = absurd (n h.0)
  po_next n (inr p) = p

  po_comparable : {a b c : E} → Po a c → Po b c → ¬ T (r.initial b) → Po a b ⊎ (a ≡ b) ⊎ Po b a
  po_comparable {a} {b} (inl h) k n = inl (inl (h.0, nexts_source (po_next n k)))
  po_comparable {a} {b} {c} (inr p) k n = elim (comparable {r = λ x y. Next y x} (λ x y z h i. l.next_injective y z x h i) (reversed p) (reversed (po_next n k))) [
    | inl q ↦ inr (inr (inr (reversed q)))
    | inr e ↦ elim e [ inl q ↦ inr (inl q) | inr q ↦ inl (inr (reversed q)) ]
  ]

  -- rmw pairs are adjacent.
  pub rmw_next : (a b : E) → T (r.link 3 a b) → T (r.next a b)
  rmw_next a b h = (l.rmw a b h).2

  rmw_read : (a b : E) → T (r.link 3 a b) → T (read r a)
  rmw_read a b h = flag_class r 1 a (l.rmw a b h).0

  rmw_after : {a b c : E} → Next a b → Plus Next a c → Plus Next c b → ⊥
  rmw_after {a} {b} {c} h (one k) q = l.next_acyclic b (subst (λ x. Plus Next x b) (l.next_functional a c b k h) q)
  rmw_after {a} {b} {c} h (cons {b = d} k p) q = l.next_acyclic b (join (subst (λ x. Plus Next x c) (l.next_functional a d b k h) p) q)

  rmw_immediate : {a b c : E} → T (r.link 3 a b) → Po a c → Po c b → ⊥
  rmw_immediate {a} {b} {c} h k (inl q) = l.initial_unrecorded c q.0 (po_recorded k)
  rmw_immediate {a} {b} {c} h k (inr q) = rmw_after (rmw_next a b h) (po_next (read_uninitial a (rmw_read a b h)) k) q

  -- ctrl, taken on along po.
  ctrl_po : {a c : E} → (graph r).ctrl a c → Po a c
  ctrl_po {a} {c} (b, h, stay e) = (l.ctrl a b h).1
  ctrl_po {a} {c} (b, h, step k) = po_trans a b c (l.ctrl a b h).1 k

  ctrl_closed : (a b c : E) → (graph r).ctrl a b → Po b c → (graph r).ctrl a c
  ctrl_closed a b c (d, h, stay e) k = (d, h, step k)
  ctrl_closed a b c (d, h, step p) k = (d, h, step (po_trans d b c p k))

  -- co
  abbrev Co : E → E → Type 0
  Co a b = T (co_step r a b)

  co_step_lem : (a b : E) → Co a b → T (write r a) × T (write r b) × T (r.recorded b) × (r.location a ≡ r.location b)
  co_step_lem a b h = go (step_cases r a b h)
    where
      go : CoStep r a b → T (write r a) × T (write r b) × T (r.recorded b) × (r.location a ≡ r.location b)
      go (linked k) = l.co a b k
      go (initially i c w s) = (initial_is_write a i, w, c, same_location_lem r a b s)

  co_source : {a b : E} → Plus Co a b → T (write r a)
  co_source = path_source (λ a b h. (co_step_lem a b h).0)

  co_target : {a b : E} → Plus Co a b → T (write r b)
  co_target = path_target (λ a b h. (co_step_lem a b h).1)

  co_location : {a b : E} → Plus Co a b → r.location a ≡ r.location b
  co_location p = collapse (λ a b c. ◌∙◌) (mapped (λ a b h. (co_step_lem a b h).3) p)

  pub formed : Formed (graph r)
  formed = record {
    classes = λ {a} h. classes a h;
    read_event = λ {a} h. class_event r 1 a h;
    write_event = λ {a} h. class_event r 2 a h;
    fence_event = λ {a} h. class_event r 3 a h;
    read_write = λ {a} h k. class_apart r 1 2 a (omega arith) h k;
    read_fence = λ {a} h k. class_apart r 1 3 a (omega arith) h k;
    write_fence = λ {a} h k. class_apart r 2 3 a (omega arith) h k;
    acquire_read_lem = λ {a} h. mode_class r 1 1 a h;
    exclusive_read_lem = λ {a} h. flag_class r 1 a h;
    release_write_lem = λ {a} h. mode_class r 2 2 a h;
    strong_write_lem = λ {a} h. flag_class r 2 a h;
    acquire_fence_lem = λ {a} h. acquire_fence_lem r a h;
    release_fence_lem = λ {a} h. release_fence_lem r a h;
    sc_release = λ {a} h. sc_release r a h;
    ld_fence = λ {a} h. mode_class r 3 5 a h;
    sy_fence = λ {a} h. mode_class r 3 6 a h;
    po_source = po_source;
    po_target = λ {a} {b} h. recorded_event r b (po_recorded h);
    po_trans = po_trans;
    po_irreflexive = po_irreflexive;
    po_comparable = po_comparable;
    loc_sym = λ {a} {b} h. same_intro r b a (same_second r a b h) (same_first r a b h) (sym (same_location_lem r a b h));
    loc_trans = λ {a} {b} {c} h k. same_intro r a c (same_first r a b h) (same_second r b c k) (same_location_lem r a b h ∙ same_location_lem r b c k);
    rmw_exclusive = λ {a} {b} h. (l.rmw a b h).0;
    rmw_write = λ {a} {b} h. (l.rmw a b h).1;
    rmw_po = λ {a} {b} h. inr (one (rmw_next a b h));
    rmw_immediate = rmw_immediate;
    rmw_loc = λ {a} {b} h. same_intro r a b (read_access r a (rmw_read a b h)) (write_access r b (l.rmw a b h).1) (l.rmw a b h).3;
    strong_pair_lem = λ {b} h. l.strong b h;
    data_read = λ {a} {b} h. (l.«data» a b h).0;
    data_write = λ {a} {b} h. (l.«data» a b h).1;
    data_po = λ {a} {b} h. (l.«data» a b h).2;
    addr_read = λ {a} {b} h. (l.addr a b h).0;
    addr_access = λ {a} {b} h. access_cases r b (l.addr a b h).1;
    addr_po = λ {a} {b} h. (l.addr a b h).2;
    ctrl_read = λ {a} h. (l.ctrl a h.0 h.1).0;
    ctrl_po = ctrl_po;
    ctrl_closed = λ {a} {b} {c} h k. ctrl_closed a b c h k;
    casdep_read = λ {a} {b} h. (l.casdep a b h).0;
    casdep_exclusive = λ {a} {b} h. (l.casdep a b h).1;
    casdep_po = λ {a} {b} h. (l.casdep a b h).2;
    rf_write = λ {a} {b} h. (l.rf a b h).0;
    rf_read = λ {a} {b} h. (l.rf a b h).1;
    rf_loc = λ {a} {b} h. same_intro r a b (write_access r a (l.rf a b h).0) (read_access r b (l.rf a b h).1) (l.rf a b h).2;
    rf_functional = λ {a} {b} {c} h k. l.rf_once a b c h k;
    read_recorded = λ {a} h. read_uninitial a h;
    co_source = co_source;
    co_target = co_target;
    co_loc = λ {a} {b} h. same_intro r a b (write_access r a (co_source h)) (write_access r b (co_target h)) (co_location h);
    co_trans = λ h k. join h k;
    co_irreflexive = λ {a} h. l.co_acyclic a h;
    co_recorded = λ {a} {b} h i. l.initial_unrecorded b i (path_target (λ x y k. (co_step_lem x y k).2) h);
  }

-- The translation of a recording that loads: it loads again, and its graph corresponds to the source's as Def. 4.4 of 003 asks.
use mathlib.Core.Bool.{◌&&◌}
use mathlib.Core.Logic.{◌⊎◌, inl, inr, ◌↔◌}
use mathlib.Core.Path.{◌≡◌, refl, sym, ◌∙◌, ap, subst}
use Prim.Native.Nat.{ℕ}
use native.Mathlib.Omega.{arith}
use lib.Dec.{T, leb, lit≤}
use Rattle.models.specs.Recording.{Recording, event, of_class, read, write, access, exclusive_read, strong_write, fence_of, same_location, co_step}
use Rattle.models.specs.Steps.{Plus, one, cons, stay, step}
use Rattle.models.specs.Graph.{graph}
use Rattle.models.specs.Loads.{Loads}
use Rattle.models.specs.Translated.{Control, kept, after_read, after_pair, after_casdep, Translated}
use Rattle.models.proofs.Closure.{join, snoc, path_source, path_target, flat, mapped, unchained}
use Rattle.relation.proofs.Truth.{T_and, T_and_left, T_and_right, T_cases}
use Rattle.models.proofs.MemberLaws.{initial_event, recorded_event, event_cases, class_event, class_is, class_intro, class_apart, mode_class, mode_is, mode_intro, flag_class, flag_is, flag_intro, release_fence_lem, release_fence_mode, access_cases, read_access, write_access, access_event, same_intro, same_first, same_second, same_location_lem, CoStep, linked, initially, step_cases, step_intro}
use Rattle.models.proofs.FromLoads.{po_next, read_uninitial, rmw_next}
use Rattle.models.proofs.Corresponds.{Corresponds}

module _ {E : Type 0} (S C : Recording E) (l : Loads S) (t : Translated S C) where
  abbrev NextS : E → E → Type 0
  NextS a b = T (S.next a b)

  abbrev NextC : E → E → Type 0
  NextC a b = T (C.next a b)

  -- A strong write has a record, and an inserted fence is none of the source's.
  strong_recorded : (w : E) → T (strong_write S w) → T (S.recorded w)
  strong_recorded w h = (let a = l.strong w h in l.next_target a.0 w (rmw_next S l a.0 w a.1))

  fresh : (w e : E) → T (strong_write S w) → e ≡ t.inserted w → ¬ T (event S e)
  fresh w e h p k = t.inserted_new w h (subst (λ x. T (event S x)) p k)

  fresh_recorded : (w e : E) → T (strong_write S w) → e ≡ t.inserted w → ¬ T (S.recorded e)
  fresh_recorded w e h p k = fresh w e h p (recorded_event S e k)

  -- The steps of C's chains.
  data Step (a b : E) : Type 0 where
    plainly : T (S.recorded a) → ¬ T (strong_write S a) → T (S.next a b) → Step a b
    into : T (strong_write S a) → b ≡ t.inserted a → Step a b
    out : (w : E) → T (strong_write S w) → a ≡ t.inserted w → T (S.next w b) → Step a b

  -- What follows an inserted fence followed its write.
  next_from : (w a b : E) → T (strong_write S w) → a ≡ t.inserted w → NextC a b → NextS w b
  next_from w a b s p h = subst T (ap (λ x. C.next x b) p ∙ t.next_inserted w b s) h

  next_step : (a b : E) → T (C.next a b) → Step a b
  next_step a b h = elim (t.recorded_only a (t.next_source a b h)) [
    | inl r ↦ elim (T_cases (strong_write S a)) [
      | inl s ↦ into s ((t.next_strong a b s).0 h)
      | inr n ↦ plainly r n (subst T (t.next_kept a b r n) h)
    ]
    | inr (w, s, p) ↦ out w s p (next_from w a b s p h)
  ]

  next_into : (w : E) → T (strong_write S w) → NextC w (t.inserted w)
  next_into w s = (t.next_strong w (t.inserted w) s).1 refl

  next_out : (w b : E) → T (strong_write S w) → NextS w b → NextC (t.inserted w) b
  next_out w b s h = subst T (sym (t.next_inserted w b s)) h

  next_plain : (a b : E) → ¬ T (strong_write S a) → NextS a b → NextC a b
  next_plain a b n h = subst T (sym (t.next_kept a b (l.next_source a b h) n)) h

  -- Chaining the fences in keeps program order both ways.
  next_chained : (a b : E) → NextS a b → Plus NextC a b
  next_chained a b h = elim (T_cases (strong_write S a)) [
    | inl s ↦ cons (next_into a s) (one (next_out a b s h))
    | inr n ↦ one (next_plain a b n h)
  ]

  step_unchained : (a x : E) → T (S.recorded a) → Step a x → (T (S.recorded x) × NextS a x) ⊎ (¬ T (S.recorded x) × ((b : E) → NextC x b → T (S.recorded b) × NextS a b))
  step_unchained a x r (plainly q n h) = inl (l.next_target a x h, h)
  step_unchained a x r (into s p) = inr (fresh_recorded a x s p, λ b h. (let k = next_from a x b s p h in (l.next_target a b k, k)))
  step_unchained a x r (out w s p h) = absurd (fresh_recorded w a s p r)

  nexts_unchained : {a b : E} → T (S.recorded a) → T (S.recorded b) → Plus NextC a b → Plus NextS a b
  nexts_unchained p q h = unchained {old = λ e. T (S.recorded e)} (λ a x r k. step_unchained a x r (next_step a x k)) p q h

  -- Events.
  initial_to : (e : E) → T (S.initial e) → T (C.initial e)
  initial_to e h = subst T (sym (t.initial e)) h

  initial_from : (e : E) → T (C.initial e) → T (S.initial e)
  initial_from e h = subst T (t.initial e) h

  event_to : (e : E) → T (event S e) → T (event C e)
  event_to e h = elim (event_cases S e h) [ inl i ↦ initial_event C e (initial_to e i) | inr r ↦ recorded_event C e (t.recorded e r) ]

  recorded_from : (e : E) → T (event S e) → T (C.recorded e) → T (S.recorded e)
  recorded_from e h r = elim (t.recorded_only e r) [ inl k ↦ k | inr (w, s, p) ↦ absurd (fresh w e s p h) ]

  event_from : (e : E) → T (event C e) → T (event S e) ⊎ (C.class e ≡ 3)
  event_from e h = elim (event_cases C e h) [
    | inl i ↦ inl (initial_event S e (initial_from e i))
    | inr r ↦ elim (t.recorded_only e r) [ inl k ↦ inl (recorded_event S e k) | inr (w, s, p) ↦ inr (ap C.class p ∙ t.inserted_class w s) ]
  ]

  unrecorded : (e : E) → T (C.initial e) → ¬ T (C.recorded e)
  unrecorded e i r = (let h = initial_from e i in l.initial_unrecorded e h (recorded_from e (initial_event S e h) r))

  class_to : (n : ℕ) (e : E) → T (of_class S n e) → T (of_class C n e)
  class_to n e h = (let k = class_event S n e h in class_intro C n e (event_to e k) (t.class e k ∙ class_is S n e h))

  exclusive_to : (e : E) → T (exclusive_read S e) → T (exclusive_read C e)
  exclusive_to e h = (let k = flag_class S 1 e h in flag_intro C 1 e (class_to 1 e k) (t.read_flag e k ∙ flag_is S 1 e h))

  access_to : (e : E) → T (access S e) → T (access C e)
  access_to e h = elim (access_cases S e h) [ inl r ↦ read_access C e (class_to 1 e r) | inr w ↦ write_access C e (class_to 2 e w) ]

  write_from : (e : E) → T (write C e) → T (write S e)
  write_from e h = elim (event_from e (class_event C 2 e h)) [
    | inl k ↦ class_intro S 2 e k (sym (t.class e k) ∙ class_is C 2 e h)
    | inr p ↦ absurd (let q = sym p ∙ class_is C 2 e h in omega arith)
  ]

  location_to : (a b : E) → T (event S a) → T (event S b) → S.location a ≡ S.location b → C.location a ≡ C.location b
  location_to a b h k p = t.location a h ∙ (p ∙ sym (t.location b k))

  same_to : (a b : E) → T (same_location S a b) → T (same_location C a b)
  same_to a b h =
      let p = same_first S a b h in
      let q = same_second S a b h in
      same_intro C a b (access_to a p) (access_to b q) (location_to a b (access_event S a p) (access_event S b q) (same_location_lem S a b h))

  -- Links.
  links : (n : ℕ) → T (leb 1 n) → T (leb n 5) → (a b : E) → T (S.link n a b) ↔ T (C.link n a b)
  links n p q a b = (let e = t.link n (lit≤ p) (lit≤ q) a b in (subst T (sym e), subst T e))

  -- Program order and co.
  po_to : {a b : E} → (graph S).po a b → (graph C).po a b
  po_to {a} {b} (inl h) = inl (initial_to a h.0, t.recorded b h.1)
  po_to (inr p) = inr (flat next_chained p)

  nexts_recorded : {a b : E} → Plus NextC a b → T (C.recorded a)
  nexts_recorded = path_source t.next_source

  next_target : (a b : E) → NextC a b → T (C.recorded b)
  next_target a b h = target (next_step a b h)
    where
      target : Step a b → T (C.recorded b)
      target (plainly r n k) = t.recorded b (l.next_target a b k)
      target (into s p) = subst (λ x. T (C.recorded x)) (sym p) (t.recorded_new a s)
      target (out w s p k) = t.recorded b (l.next_target w b k)

  po_from : {a b : E} → T (event S a) → T (event S b) → (graph C).po a b → (graph S).po a b
  po_from {a} {b} p q (inl h) = inl (initial_from a h.0, recorded_from b q h.1)
  po_from {a} {b} p q (inr h) = inr (nexts_unchained (recorded_from a p (nexts_recorded h)) (recorded_from b q (path_target next_target h)) h)

  co_to : (a b : E) → T (co_step S a b) → T (co_step C a b)
  co_to a b h = step_intro C a b (go (step_cases S a b h))
    where
      go : CoStep S a b → CoStep C a b
      go (linked k) = linked ((links 2 tt tt a b).0 k)
      go (initially i r w s) = initially (initial_to a i) (t.recorded b r) (class_to 2 b w) (same_to a b s)

  co_from : (a b : E) → T (co_step C a b) → T (co_step S a b)
  co_from a b h = step_intro S a b (go (step_cases C a b h))
    where
      go : CoStep C a b → CoStep S a b
      go (linked k) = linked ((links 2 tt tt a b).1 k)
      go (initially i r w s) =
          let i' = initial_from a i in
          let w' = write_from b w in
          let ea = initial_event S a i' in
          let eb = class_event S 2 b w' in
          initially i' (recorded_from b eb r) w' (same_intro S a b (write_access S a (class_intro S 2 a ea (l.initial_write a i'))) (write_access S b w') (sym (t.location a ea) ∙ (same_location_lem C a b s ∙ t.location b eb)))

  -- The translation loads.
  one_next : (a b c : E) → NextC a b → NextC a c → b ≡ c
  one_next a b c h k = elim (t.recorded_only a (t.next_source a b h)) [
    | inl r ↦ elim (T_cases (strong_write S a)) [
      | inl s ↦ (t.next_strong a b s).0 h ∙ sym ((t.next_strong a c s).0 k)
      | inr n ↦ l.next_functional a b c (subst T (t.next_kept a b r n) h) (subst T (t.next_kept a c r n) k)
    ]
    | inr (w, s, p) ↦ l.next_functional w b c (next_from w a b s p h) (next_from w a c s p k)
  ]

  one_before : (a b c : E) → Step a c → Step b c → a ≡ b
  one_before a b c (plainly r n h) (plainly r' n' k) = l.next_injective a b c h k
  one_before a b c (plainly r n h) (into s p) = absurd (fresh_recorded b c s p (l.next_target a c h))
  one_before a b c (plainly r n h) (out w s p k) = absurd (n (subst (λ x. T (strong_write S x)) (l.next_injective w a c k h) s))
  one_before a b c (into s p) (plainly r n k) = absurd (fresh_recorded a c s p (l.next_target b c k))
  one_before a b c (into s p) (into s' q) = t.inserted_once a b s s' (sym p ∙ q)
  one_before a b c (into s p) (out w s' q k) = absurd (fresh_recorded a c s p (l.next_target w c k))
  one_before a b c (out w s p h) (plainly r n k) = absurd (n (subst (λ x. T (strong_write S x)) (l.next_injective w b c h k) s))
  one_before a b c (out w s p h) (into s' q) = absurd (fresh_recorded b c s' q (l.next_target w c h))
  one_before a b c (out v s p h) (out w s' q k) = p ∙ (ap t.inserted (l.next_injective v w c h k) ∙ sym q)

  -- A ring of the chains would be one of the source's, at the event itself or at the one after an inserted fence.
  no_ring_at : (a : E) → T (S.recorded a) → ¬ Plus NextC a a
  no_ring_at a r p = l.next_acyclic a (nexts_unchained r r p)

  no_ring : (a : E) → ¬ Plus NextC a a
  no_ring a p = elim (t.recorded_only a (nexts_recorded p)) [ inl r ↦ no_ring_at a r p | inr (w, s, q) ↦ leave w s q p ]
    where
      after : (w b : E) → T (strong_write S w) → a ≡ t.inserted w → NextC a b → T (S.recorded b)
      after w b s q h = l.next_target w b (next_from w a b s q h)

      leave : (w : E) → T (strong_write S w) → a ≡ t.inserted w → ¬ Plus NextC a a
      leave w s q (one h) = fresh_recorded w a s q (after w a s q h)
      leave w s q (cons {b = b} h k) = no_ring_at b (after w b s q h) (snoc k h)

  strong_none : (e : E) → ¬ T (strong_write C e)
  strong_none e h = (let p = sym (t.write_flag e (write_from e (flag_class C 2 e h))) ∙ flag_is C 2 e h in omega arith)

  control_source : (a b : E) → Control S C a b → T (read S a)
  control_source a b (kept h) = (l.ctrl a b h).0
  control_source a b (after_read x n h) = flag_class S 1 a x
  control_source a b (after_pair w x h k m) = flag_class S 1 a x
  control_source a b (after_casdep e h m) = (l.casdep a e h).0

  read_next : (a b : E) → T (read S a) → NextS a b → NextC a b
  read_next a b r h = next_plain a b (λ s. class_apart S 1 2 a (omega arith) r (flag_class S 2 a s)) h

  control_po : (a b : E) → Control S C a b → (graph C).po a b
  control_po a b (kept h) = po_to (l.ctrl a b h).1
  control_po a b (after_read x n h) = inr (one h)
  control_po a b (after_pair w x h k m) = inr (cons (read_next a w (flag_class S 1 a x) (rmw_next S l a w h)) (one m))
  control_po a b (after_casdep e h m) = (let d = l.casdep a e h in inr (snoc (flat next_chained (po_next S l (read_uninitial S l a d.0) d.2)) m))

  pub translation_loads : Loads C
  translation_loads = record {
    initial_write = λ e i. (let h = initial_from e i in t.class e (initial_event S e h) ∙ l.initial_write e h);
    initial_unrecorded = unrecorded;
    class = λ e r. elim (t.recorded_only e r) [
      | inl k ↦ (let p = t.class e (recorded_event S e k) in elim (l.class e k) [
        | inl q ↦ inl (p ∙ q)
        | inr q ↦ elim q [ inl x ↦ inr (inl (p ∙ x)) | inr x ↦ inr (inr (p ∙ x)) ]
      ])
      | inr (w, s, p) ↦ inr (inr (ap C.class p ∙ t.inserted_class w s))
    ];
    next_source = t.next_source;
    next_target = next_target;
    next_functional = one_next;
    next_injective = λ a b c h k. one_before a b c (next_step a c h) (next_step b c k);
    next_acyclic = no_ring;
    rf = λ a b h. (let k = l.rf a b ((links 1 tt tt a b).1 h) in let ea = class_event S 2 a k.0 in let eb = class_event S 1 b k.1 in
        (class_to 2 a k.0, class_to 1 b k.1, location_to a b ea eb k.2));
    rf_once = λ a b c h k. l.rf_once a b c ((links 1 tt tt a c).1 h) ((links 1 tt tt b c).1 k);
    co = λ a b h. (let k = l.co a b ((links 2 tt tt a b).1 h) in (class_to 2 a k.0, class_to 2 b k.1, t.recorded b k.2, location_to a b (class_event S 2 a k.0) (class_event S 2 b k.1) k.3));
    rmw = λ a b h. (let k = l.rmw a b ((links 3 tt tt a b).1 h) in let r = flag_class S 1 a k.0 in
        (exclusive_to a k.0, class_to 2 b k.1, read_next a b r k.2, location_to a b (class_event S 1 a r) (class_event S 2 b k.1) k.3));
    «data» = λ a b h. (let k = l.«data» a b ((links 4 tt tt a b).1 h) in (class_to 1 a k.0, class_to 2 b k.1, po_to k.2));
    addr = λ a b h. (let k = l.addr a b ((links 5 tt tt a b).1 h) in (class_to 1 a k.0, access_to b k.1, po_to k.2));
    ctrl = λ a b h. (let k = (t.ctrl a b).0 h in (class_to 1 a (control_source a b k), control_po a b k));
    casdep = λ a b h. absurd (t.casdep a b h);
    co_acyclic = λ a p. l.co_acyclic a (mapped co_from p);
    strong = λ e h. absurd (strong_none e h);
  }

  -- ctrl links to the event directly after e reach all that follows e.
  ctrl_along : (q : E) {e b : E} → ((x : E) → NextC e x → T (C.link 6 q x)) → Plus NextC e b → (graph C).ctrl q b
  ctrl_along q f (one {a = e} {b = b} h) = (b, f b h, stay (recorded_event C b (next_target e b h)))
  ctrl_along q f (cons {b = x} h p) = (x, f x h, step (inr p))

  ctrl_to : (a b : E) → (graph S).ctrl a b → (graph C).ctrl a b
  ctrl_to a b (x, h, stay e) = (x, (t.ctrl a x).1 (kept h), stay (event_to x e))
  ctrl_to a b (x, h, step p) = (x, (t.ctrl a x).1 (kept h), step (po_to p))

  casdep_to : (a b c : E) → T (S.link 7 a b) → (graph S).po b c → (graph C).ctrl a c
  casdep_to a b c h p =
      let r = flag_class S 1 b (l.casdep a b h).1 in
      ctrl_along a (λ x k. (t.ctrl a x).1 (after_casdep b h k)) (flat next_chained (po_next S l (read_uninitial S l b r) p))

  -- An exclusive read a, with d directly after it.
  module _ (a d : E) (x : T (exclusive_read S a)) (h : NextS a d) where
    -- With rmw and data to d, ctrl reaches what follows d; otherwise d and what follows it.
    both_links : T (S.link 3 a d) → T (S.link 4 a d) → (b : E) → Plus NextS d b → (graph C).ctrl a b
    both_links m k b p = ctrl_along a (λ y n. (t.ctrl a y).1 (after_pair d x m k n)) (flat next_chained p)

    not_both : ¬ T (S.link 3 a d && S.link 4 a d) → (w : E) → T (S.link 3 a w) → ¬ T (S.link 4 a w)
    not_both n w m k =
        let e : w ≡ d = l.next_functional a w d (rmw_next S l a w m) h in
        n (T_and (S.link 3 a d) (S.link 4 a d) (subst (λ y. T (S.link 3 a y)) e m) (subst (λ y. T (S.link 4 a y)) e k))

    after_it : ¬ T (S.link 3 a d && S.link 4 a d) → (b : E) → Plus NextC a b → (graph C).ctrl a b
    after_it n b p = ctrl_along a (λ y m. (t.ctrl a y).1 (after_read x (not_both n) m)) p

  exclusive_to_ctrl : (a b : E) → T (exclusive_read S a) → Plus NextS a b → (graph C).ctrl a b ⊎ (T (C.link 3 a b) × T (C.link 4 a b))
  exclusive_to_ctrl a b x (one h) = elim (T_cases (S.link 3 a b && S.link 4 a b)) [
    | inl k ↦ inr ((links 3 tt tt a b).0 (T_and_left (S.link 3 a b) (S.link 4 a b) k), (links 4 tt tt a b).0 (T_and_right (S.link 3 a b) (S.link 4 a b) k))
    | inr n ↦ inl (after_it a b x h n b (next_chained a b h))
  ]
  exclusive_to_ctrl a b x (cons {b = d} h p) = elim (T_cases (S.link 3 a d && S.link 4 a d)) [
    | inl k ↦ inl (both_links a d x h (T_and_left (S.link 3 a d) (S.link 4 a d) k) (T_and_right (S.link 3 a d) (S.link 4 a d) k) b p)
    | inr n ↦ inl (after_it a d x h n b (join (next_chained a d h) (flat next_chained p)))
  ]

  -- The inserted fence of a strong write comes before all that follows the write.
  inserted_before : (w b : E) → T (strong_write S w) → Plus NextS w b → Plus NextC (t.inserted w) b
  inserted_before w b s (one h) = one (next_out w b s h)
  inserted_before w b s (cons {b = d} h p) = cons (next_out w d s h) (flat next_chained p)

  inserted_ld : (w : E) → T (strong_write S w) → T (fence_of C 5 (t.inserted w))
  inserted_ld w s = (let d = t.inserted w in mode_intro C 3 5 d (class_intro C 3 d (recorded_event C d (t.recorded_new w s)) (t.inserted_class w s)) (t.inserted_mode w s))

  strong_uninitial : (w : E) → T (strong_write S w) → ¬ T (S.initial w)
  strong_uninitial w s i = l.initial_unrecorded w i (strong_recorded w s)

  pub corresponds : Corresponds (graph S) (graph C)
  corresponds = record {
    read = λ {a} h. class_to 1 a h;
    write = λ {a} h. class_to 2 a h;
    acquire = λ {a} h. (let r = mode_class S 1 1 a h in mode_intro C 1 1 a (class_to 1 a r) (t.mode a (read_access S a r) ∙ mode_is S 1 1 a h));
    release = λ {a} h. (let w = mode_class S 2 2 a h in mode_intro C 2 2 a (class_to 2 a w) (t.mode a (write_access S a w) ∙ mode_is S 2 2 a h));
    loc = λ {a} {b} h. same_to a b h;
    fence = λ {a} h. elim (t.fence_mode a h) [ inl k ↦ inl (mode_intro C 3 5 a (class_to 3 a h) k.1) | inr k ↦ inr (mode_intro C 3 6 a (class_to 3 a h) k.1) ];
    release_fence_lem = λ {a} h. (let x = release_fence_lem S a h in elim (t.fence_mode a x) [ inl k ↦ absurd (release_fence_mode S a h k.0) | inr k ↦ mode_intro C 3 6 a (class_to 3 a x) k.1 ]);
    po_to = po_to;
    po_from = λ {a} {b} p q h. po_from p q h;
    strong = λ {a} s. (t.inserted a, inserted_ld a s, inr (one (next_into a s)), λ b h. inr (inserted_before a b s (po_next S l (strong_uninitial a s) h)));
    rf = links 1 tt tt;
    co = λ a b. (mapped co_to, mapped co_from);
    rmw = links 3 tt tt;
    «data» = links 4 tt tt;
    addr = links 5 tt tt;
    ctrl = λ {a} {b} h. ctrl_to a b h;
    exclusive = λ {a} {b} x h. exclusive_to_ctrl a b x (po_next S l (read_uninitial S l a (flag_class S 1 a x)) h);
    casdep = λ {a} {b} {c} h p. casdep_to a b c h p;
  }

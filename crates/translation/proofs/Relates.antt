-- Where a recording says what contents say, and another what their translation says, the second is the translation of the first
-- as `models` has it.
use mathlib.Core.Path.{◌≡◌, refl, sym, ap, ◌∙◌}
use mathlib.Core.Bool.{Bool, true, false, ◌&&◌, ◌||◌, false≢true}
use mathlib.Core.Logic.{◌⊎◌, inl, inr, ◌↔◌}
use Prim.Native.Nat.{ℕ, ◌<◌, ◌≤◌}
use native.Mathlib.Omega.{arith}
use native.Mathlib.Decide.{ℕ_discrete, dec_le}
use lib.Dec.{T}
use Rattle.models.specs.Recording.{Recording, event, of_class, read, write, fence, access, exclusive_read, strong_write, release_fence, fence_of}
use Rattle.models.specs.Translated.{Translated, Control, kept, after_read, after_pair, after_casdep}
use Rattle.models.proofs.MemberLaws.{class_event, class_is, mode_intro, access_event, access_cases}
use Rattle.translation.specs.Contents.{Contents}
use Rattle.translation.specs.Translate.{exclusive, strong, inserted, new_events, after, kept_or, new_mode, new_flag, translated}
use Rattle.relation.proofs.Truth.{is_true, holds, same_test, is_false, by_test, and_left, and_right, and_both, T_or_left, T_or_right}
use Rattle.translation.proofs.TranslateLaws as law
use Rattle.translation.proofs.TranslateLaws.{flagged_is, Linked, stays, exclusively, casdep, New, new_is, new_intro}
use Rattle.translation.proofs.Says.{Says, Event, initially, recorded, event_says, flagged_says}

-- What loading ensures of contents for this.
pub record Sound (s : Contents) : Type 0 where
  pub few : new_events s < 56
  pub next : (e : ℕ) → 1 ≤ e → e ≤ s.events → s.next e ≤ s.events
  pub target : (t a b : ℕ) → s.link t a b ≡ true → (1 ≤ b) × (b ≤ s.events)
  pub rmw : (a b : ℕ) → s.link 3 a b ≡ true → s.next a ≡ b
  pub fence : (e : ℕ) → 1 ≤ e → e ≤ s.events → s.class e ≡ 3 → (1 ≤ s.mode e) × (s.mode e ≤ 4)
  pub write : (e : ℕ) → 1 ≤ e → e ≤ s.events → s.class e ≡ 2 → (s.flag e ≡ 0) ⊎ (s.flag e ≡ 1)

module _ (S C : Recording ℕ) (s : Contents) (p : Says S s) (q : Says C (translated s)) (ok : Sound s) where
  unfolded_few : s.events < 64
  unfolded_few = omega (arith, p.few)

  strong_is : (w : ℕ) → T (strong_write S w) → strong s w ≡ true
  strong_is w h = sym (flagged_says S s p 2 w) ∙ is_true (strong_write S w) h

  strong_not : (w : ℕ) → ¬ T (strong_write S w) → strong s w ≡ false
  strong_not w h = is_false (strong s w) (λ e. h (holds (strong_write S w) (flagged_says S s p 2 w ∙ e)))

  exclusive_is : (r : ℕ) → T (exclusive_read S r) → exclusive s r ≡ true
  exclusive_is r h = sym (flagged_says S s p 1 r) ∙ is_true (exclusive_read S r) h

  is_exclusive : (r : ℕ) → exclusive s r ≡ true → T (exclusive_read S r)
  is_exclusive r h = holds (exclusive_read S r) (flagged_says S s p 1 r ∙ h)

  old_event : (e : ℕ) → e ≤ s.events → e ≤ new_events s
  old_event e h = omega (arith, law.more_events s)

  same_initial : (e : ℕ) → C.initial e ≡ S.initial e
  unfolding translated
  same_initial e =
      same_test (C.initial e) (S.initial e)
      (λ h. (let w = q.initial e (holds (C.initial e) h) in is_true (S.initial e) (p.is_initial_lem e w.0 w.1)))
      (λ h. (let w = p.initial e (holds (S.initial e) h) in is_true (C.initial e) (q.is_initial_lem e w.0 w.1)))

  -- A field that the translation keeps, at an event of the source.
  module _ (cf sf : ℕ → ℕ) (old new : ℕ → ℕ) (n : ℕ)
      (at-chip : (e : ℕ) → 1 ≤ e → e ≤ new_events s → cf e ≡ kept_or s new n e) (at_source : (e : ℕ) → 1 ≤ e → e ≤ s.events → sf e ≡ old e)
      (at-initial : (e : ℕ) → 56 ≤ e → cf e ≡ sf e) where
    kept_at : (e : ℕ) → Event S s p e → (1 ≤ e → e ≤ s.events → new e ≡ old e) → cf e ≡ sf e
    kept_at e (initially h g) same = at-initial e h
    kept_at e (recorded h g) same = at-chip e h (old_event e g) ∙ law.kept s new n e g ∙ same h g ∙ sym (at_source e h g)

  same_class : (e : ℕ) → T (event S e) → C.class e ≡ S.class e
  unfolding translated
  same_class e h = kept_at C.class S.class s.class s.class 3 q.class p.class (λ x k. q.initial_class x k ∙ sym (p.initial_class x k)) e (event_says S s p e h) (λ _ _. refl)

  same_location_lem : (e : ℕ) → T (event S e) → C.location e ≡ S.location e
  unfolding translated
  same_location_lem e h = kept_at C.location S.location s.location s.location 0 q.location p.location (λ x k. q.initial_location x k ∙ sym (p.initial_location x k)) e (event_says S s p e h) (λ _ _. refl)

  -- A recorded event of class k.
  class_of : (k e : ℕ) → T (of_class S k e) → 1 ≤ e → e ≤ s.events → s.class e ≡ k
  class_of k e h i g = sym (p.class e i g) ∙ class_is S k e h

  access_not_fence : (e : ℕ) → T (access S e) → 1 ≤ e → e ≤ s.events → s.class e ≡ 3 → ⊥
  access_not_fence e h i g c = elim (access_cases S e h) [ inl k ↦ omega (arith, class_of 1 e k i g) | inr k ↦ omega (arith, class_of 2 e k i g) ]

  same_mode : (e : ℕ) → T (access S e) → C.mode e ≡ S.mode e
  unfolding translated
  same_mode e h =
      kept_at C.mode S.mode s.mode (new_mode s) 5 q.mode p.mode (λ x k. q.initial_mode x k ∙ sym (p.initial_mode x k)) e (event_says S s p e (access_event S e h))
      (λ i g. law.mode_access s e (access_not_fence e h i g))

  read_flag : (e : ℕ) → T (read S e) → C.flag e ≡ S.flag e
  unfolding translated
  read_flag e h =
      kept_at C.flag S.flag s.flag (new_flag s) 0 q.flag p.flag (λ x k. q.initial_flag x k ∙ sym (p.initial_flag x k)) e (event_says S s p e (class_event S 1 e h))
      (λ i g. law.flag_kept s e (is_false (strong s e) (λ w. omega (arith, (flagged_is s 2 e w).class, class_of 1 e h i g))))

  write_flag : (e : ℕ) → T (write S e) → C.flag e ≡ 0
  unfolding translated
  write_flag e h = go (event_says S s p e (class_event S 2 e h))
    where
      go : Event S s p e → C.flag e ≡ 0
      go (initially i _) = q.initial_flag e i
      go (recorded i g) =
          q.flag e i (old_event e g) ∙ law.kept s (new_flag s) 0 e g
          ∙ elim (by_test (strong s e)) [
            | inl w ↦ law.flag_strong s e w
            | inr w ↦ law.flag_kept s e w ∙ elim (ok.write e i g (class_of 2 e h i g)) [
              | inl z ↦ z
              | inr z ↦ absurd (false≢true (sym w ∙ law.flagged_intro s 2 e (record { low = i; high = g; class = class_of 2 e h i g; flag = z })))
            ]
          ]

  fence_mode : (e : ℕ) → T (fence S e) → ((S.mode e ≡ 1) × (C.mode e ≡ 5)) ⊎ (T (release_fence S e) × (C.mode e ≡ 6))
  unfolding translated release_fence
  fence_mode e h = go (event_says S s p e (class_event S 3 e h))
    where
      go : Event S s p e → ((S.mode e ≡ 1) × (C.mode e ≡ 5)) ⊎ (T (fence_of S 2 e || fence_of S 3 e || fence_of S 4 e) × (C.mode e ≡ 6))
      go (initially i _) = absurd (omega (arith, p.initial_class e i, class_is S 3 e h))
      go (recorded i g) =
          let c = class_of 3 e h i g in
          let m = q.mode e i (old_event e g) ∙ law.kept s (new_mode s) 5 e g in
          let old = p.mode e i g in
          let bounds = ok.fence e i g c in
          let of : (k : ℕ) → s.mode e ≡ k → T (fence_of S k e) = λ k x. mode_intro S 3 k e h (old ∙ x) in
          elim (ℕ_discrete (s.mode e) 1) [
            | yes x ↦ inl (old ∙ x, m ∙ law.mode_acquire s e c x)
            | no x ↦ (let release : T (fence_of S 2 e || fence_of S 3 e || fence_of S 4 e) = elim (ℕ_discrete (s.mode e) 2) [
              | yes y ↦ (let here = of 2 y in search (T_or_left, T_or_right))
              | no y ↦ elim (ℕ_discrete (s.mode e) 3) [
                | yes z ↦ (let here = of 3 z in search (T_or_left, T_or_right))
                | no z ↦ (let here = of 4 (omega (arith, bounds, x, y, z)) in search (T_or_left, T_or_right))
              ]
            ] in inr (release, m ∙ law.mode_other s e c x))
          ]

  -- Chains.
  -- After x here comes what comes after the record a there.
  next_same : (x a b : ℕ) → 1 ≤ x → x ≤ new_events s → 1 ≤ a → a ≤ s.events → after s x ≡ s.next a → C.next x b ≡ S.next a b
  unfolding translated
  next_same x a b i h j g e =
      same_test (C.next x b) (S.next a b)
      (λ k. (let w = q.next x b (holds (C.next x b) k) in
      is_true (S.next a b) (p.is_next a b j g w.2 (omega (arith, ok.next a j g, sym e ∙ w.4)) (sym e ∙ w.4))))
      (λ k. (let w = p.next a b (holds (S.next a b) k) in is_true (C.next x b) (q.is_next x b i h w.2 (old_event b w.3) (e ∙ w.4))))

  next_kept : (a b : ℕ) → T (S.recorded a) → ¬ T (strong_write S a) → C.next a b ≡ S.next a b
  next_kept a b h n = (let r = p.recorded a h in next_same a a b r.0 (old_event a r.1) r.0 r.1 (law.after_plain s a r.1 (strong_not a n)))

  next_strong : (w b : ℕ) → T (strong_write S w) → T (C.next w b) ↔ (b ≡ inserted s w)
  unfolding translated
  next_strong w b h =
      let st = strong_is w h in
      let f = flagged_is s 2 w st in
      let e = law.after_strong s w st in
      let a = law.inserted_above s w st in
      ((λ k. sym (q.next w b k).4 ∙ e), (λ k. q.is_next w b f.low (old_event w f.high) (omega (arith, a)) (omega (arith, a)) (e ∙ sym k)))

  next_inserted : (w b : ℕ) → T (strong_write S w) → C.next (inserted s w) b ≡ S.next w b
  next_inserted w b h =
      let st = strong_is w h in
      let f = flagged_is s 2 w st in
      let a = law.inserted_above s w st in
      next_same (inserted s w) w b (omega (arith, a)) a.1 f.low f.high (law.after_inserted s unfolded_few w st)

  -- Links.
  -- The links of C are those of the translation, by where they come from.
  link_is : (t a b : ℕ) → T (C.link t a b) → New s t a b
  unfolding translated
  link_is t a b h = new_is s t a b (sym (q.link t a b) ∙ is_true (C.link t a b) h)

  is_link_lem : (t a b : ℕ) → New s t a b → T (C.link t a b)
  unfolding translated
  is_link_lem t a b n = holds (C.link t a b) (q.link t a b ∙ new_intro s (λ x y k. (let v = ok.target 7 x y k in omega (arith, v, p.few))) t a b n)

  source_link : (t a b : ℕ) → T (S.link t a b) → s.link t a b ≡ true
  source_link t a b h = sym (p.link t a b) ∙ is_true (S.link t a b) h

  is_source_link : (t a b : ℕ) → s.link t a b ≡ true → T (S.link t a b)
  is_source_link t a b h = holds (S.link t a b) (p.link t a b ∙ h)

  link_kept : (t a b : ℕ) → s.link t a b ≡ true → 1 ≤ t → t ≤ 6 → New s t a b
  link_kept t a b e h g = (let w = ok.target t a b e in record { low = w.0; high = old_event b w.1; from = stays h g e })

  same_link : (t : ℕ) → 1 ≤ t → t ≤ 5 → (a b : ℕ) → C.link t a b ≡ S.link t a b
  same_link t h g a b =
      same_test (C.link t a b) (S.link t a b)
      (λ k. is_true (S.link t a b) (is_source_link t a b (old (link_is t a b (holds (C.link t a b) k)).from)))
      (λ k. is_true (C.link t a b) (is_link_lem t a b (link_kept t a b (sym (p.link t a b) ∙ k) h (omega arith))))
    where
      old : Linked s t a b → s.link t a b ≡ true
      old (stays _ _ l) = l
      old (exclusively e _ _) = absurd (omega arith)
      old (casdep _ e _ _) = absurd (omega arith)

  no_casdep : (a b : ℕ) → ¬ T (C.link 7 a b)
  no_casdep a b h = none (link_is 7 a b h).from
    where
      none : Linked s 7 a b → ⊥
      none (stays _ g _) = omega arith
      none (exclusively e _ _) = omega arith
      none (casdep _ e _ _) = omega arith

  control : (a b : ℕ) → New s 6 a b → Control S C a b
  unfolding translated
  control a b n = go n.from
    where
      pair : Bool
      pair = s.link 3 a (s.next a) && s.link 4 a (s.next a)

      goes : (x : ℕ) → 1 ≤ x → x ≤ new_events s → after s x ≡ b → T (C.next x b)
      goes x h g e = q.is_next x b h g n.low n.high e

      not_both : pair ≡ false → (w : ℕ) → T (S.link 3 a w) → ¬ T (S.link 4 a w)
      not_both e w h k =
          let u = source_link 3 a w h in
          let same = ok.rmw a w u in
          false≢true (sym e ∙ and_both (s.link 3 a (s.next a)) (s.link 4 a (s.next a)) (ap (s.link 3 a) same ∙ u) (ap (s.link 4 a) same ∙ source_link 4 a w k))

      go : Linked s 6 a b → Control S C a b
      go (stays _ _ l) = kept (is_source_link 6 a b l)
      go (exclusively _ x e) =
          let f = flagged_is s 1 a x in
          elim (by_test pair) [
            | inl w ↦ (let u : s.link 3 a (s.next a) ≡ true = search and_left in
                let v : s.link 4 a (s.next a) ≡ true = search and_right in
                let t = ok.target 3 a (s.next a) u in
                after_pair (s.next a) (is_exclusive a x) (is_source_link 3 a (s.next a) u) (is_source_link 4 a (s.next a) v)
                (goes (s.next a) t.0 (old_event (s.next a) t.1) (sym (law.controlled_pair s a u v) ∙ e)))
            | inr w ↦ after_read (is_exclusive a x) (not_both w) (goes a f.low (old_event a f.high) (sym (law.controlled_read s a w) ∙ e))
          ]
      go (casdep e _ l k) = (let t = ok.target 7 a e l in after_casdep e (is_source_link 7 a e l) (goes e t.0 (old_event e t.1) k))

  is_control : (a b : ℕ) → Control S C a b → New s 6 a b
  unfolding translated
  is_control a b (kept h) = link_kept 6 a b (source_link 6 a b h) (omega arith) (omega arith)
  is_control a b (after_read x n h) =
      let w = q.next a b h in
      let pair = is_false (s.link 3 a (s.next a) && s.link 4 a (s.next a)) (λ e.
      n (s.next a) (is_source_link 3 a (s.next a) (search and_left)) (is_source_link 4 a (s.next a) (search and_right))) in
      record { low = w.2; high = w.3; from = exclusively refl (exclusive_is a x) (law.controlled_read s a pair ∙ w.4) }
  is_control a b (after_pair v x h k m) =
      let w = q.next v b m in
      let u = source_link 3 a v h in
      let same = ok.rmw a v u in
      record { low = w.2; high = w.3; from = exclusively refl (exclusive_is a x) (law.controlled_pair s a (ap (s.link 3 a) same ∙ u) (ap (s.link 4 a) same ∙ source_link 4 a v k) ∙ ap (after s) same ∙ w.4) }
  is_control a b (after_casdep e h m) =
      let w = q.next e b m in
      record { low = w.2; high = w.3; from = casdep e refl (source_link 7 a e h) w.4 }

  pub relates : Translated S C
  unfolding translated
  relates = record {
    inserted = inserted s;
    initial = same_initial;
    recorded = λ e h. (let r = p.recorded e h in q.is_recorded_lem e r.0 (old_event e r.1));
    recorded_new = λ w h. (let a = law.inserted_above s w (strong_is w h) in q.is_recorded_lem (inserted s w) (omega (arith, a)) a.1);
    recorded_only = λ e h. (let r = q.recorded e h in elim (dec_le e s.events) [
      | yes g ↦ inl (p.is_recorded_lem e r.0 g)
      | no g ↦ (let v = law.inserted_every s e (omega (arith, g)) r.1 in inr (v.0, holds (strong_write S v.0) (flagged_says S s p 2 v.0 ∙ v.1), sym v.2))
    ]);
    inserted_new = λ w h k. no_event w (strong_is w h) (event_says S s p (inserted s w) k);
    inserted_once = λ v w h g e. law.inserted_apart s v w (strong_is v h) (strong_is w g) e;
    class = same_class;
    location = same_location_lem;
    mode = same_mode;
    read_flag = read_flag;
    write_flag = write_flag;
    fence_mode = fence_mode;
    inserted_class = λ w h. (let a = law.inserted_above s w (strong_is w h) in q.class (inserted s w) (omega (arith, a)) a.1 ∙ law.made s s.class 3 (inserted s w) a.0);
    inserted_mode = λ w h. (let a = law.inserted_above s w (strong_is w h) in q.mode (inserted s w) (omega (arith, a)) a.1 ∙ law.made s (new_mode s) 5 (inserted s w) a.0);
    next_source = λ a b h. (let w = q.next a b h in q.is_recorded_lem a w.0 w.1);
    next_kept = next_kept;
    next_strong = next_strong;
    next_inserted = next_inserted;
    link = same_link;
    ctrl = λ a b. ((λ h. control a b (link_is 6 a b h)), (λ h. is_link_lem 6 a b (is_control a b h)));
    casdep = no_casdep;
  }
    where
      no_event : (w : ℕ) → strong s w ≡ true → Event S s p (inserted s w) → ⊥
      no_event w h (initially i _) = omega (arith, law.inserted_above s w h, ok.few)
      no_event w h (recorded _ g) = omega (arith, law.inserted_above s w h)

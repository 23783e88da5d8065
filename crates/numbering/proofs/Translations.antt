-- The translations of contents that differ by a renumbering differ by one: an inserted fence goes with its strong write.
use mathlib.Core.Path.{◌≡◌, refl, sym, ap, ap₂, subst, ◌∙◌}
use mathlib.Core.Bool.{Bool, true, false, ◌&&◌, false≢true, and-false}
use mathlib.Core.Logic.{◌⊎◌, inl, inr}
use Prim.Native.Nat.{ℕ, suc, ◌<◌, ◌≤◌}
use native.Mathlib.Omega.{arith}
use native.Mathlib.Decide.{dec_le}
use borrow.Author.Tests.{lt-ltb, le-ltb, le-leb, lt-leb}
use lib.Dec.{eqb, leb, ltb}
use Rattle.relation.specs.Rel.{count}
use Rattle.relation.proofs.Truth.{same_test, by_test, and_left, and_right, and_both}
use Rattle.relation.proofs.Counting.{count_lt, count_injective, count_inject}
use Rattle.layout.specs.Layout.{threads}
use Rattle.translation.specs.Contents.{Contents}
use Rattle.translation.specs.Translate.{flagged, exclusive, strong, inserted, new_events, fenced, after, kept_or, new_mode, new_flag, controlled, new_link, translated}
use Rattle.translation.proofs.TranslateLaws as law
use Rattle.translation.proofs.TranslateLaws.{flagged_is, flagged_intro, Linked, stays, exclusively, casdep}
use Rattle.numbering.specs.Numbering.{Renumbering, numbers_to, Renumbers}
use Rattle.numbering.proofs.Renumberings.{injective, within, reversed, numbers_is, numbers_intro, numbers_fewer, moved_within}
use Rattle.numbering.proofs.Equivalence.{renumbers_back}

-- What loading ensures of the contents of a source file: events are few, and chains and links join events.
pub record Sourced (s : Contents) : Type 0 where
  pub few : new_events s < 56
  pub head : (t : ℕ) → t < threads → s.head t ≤ s.events
  pub next : (e : ℕ) → 1 ≤ e → e ≤ s.events → s.next e ≤ s.events
  pub source : (t a b : ℕ) → s.link t a b ≡ true → (a ≤ s.events) ⊎ (56 ≤ a)
  pub target : (t a b : ℕ) → s.link t a b ≡ true → (1 ≤ b) × (b ≤ s.events)

-- The numbers of inserted fences.
unfoldable is_new : Contents → ℕ → Bool
is_new s e = ltb s.events e && leb e (new_events s)

-- The new number of an event of the translation.
unfoldable renewed : Contents → Contents → (ℕ → ℕ) → ℕ → ℕ
renewed s c to e = elim (is_new s e) [ true ↦ inserted c (to (fenced s e)) | false ↦ to e ]

-- One way: from s to c.
module _ {s c : Contents} (w : Renumbers s c) where
  abbrev to : ℕ → ℕ
  to = w.event.to

  flagged_to : (k e : ℕ) → flagged s k e ≡ true → flagged c k (to e) ≡ true
  flagged_to k e p =
      let f = flagged_is s k e p in
      let m = moved_within w e f.low f.high in
      flagged_intro c k (to e) (record { low = m.0; high = m.1; class = w.class e f.low f.high ∙ f.class; flag = w.flag e f.low f.high ∙ f.flag })

  -- Different strong writes have different numbers of strong writes before them.
  fewer : new_events s ≤ new_events c
  unfolding new_events
  fewer = omega (arith, w.events, count_inject (suc s.events) (count (suc c.events) (strong c)) (strong s) R place once)
    where
      R : ℕ → ℕ → Type 0
      R v x = (strong c (to v) ≡ true) × (x ≡ count (to v) (strong c))

      place : (v : ℕ) → v < suc s.events → strong s v ≡ true → (x : ℕ) × (x < count (suc c.events) (strong c)) × R v x
      place v h p =
          let q = flagged_to 2 v p in
          let f = flagged_is c 2 (to v) q in
          (count (to v) (strong c), count_lt (to v) (suc c.events) (strong c) (omega (arith, f.high)) q, (q, refl))

      once : (u v x : ℕ) → R u x → R v x → u ≡ v
      once u v x (p, d) (q, e) = injective w.event u v (count_injective (to u) (to v) (strong c) p q (sym d ∙ e))

-- The translation of s, and that of c.
module _ {s c : Contents} (w : Renumbers s c) (given : Sourced s) where
  abbrev n : Renumbering (numbers_to s.events)
  n = w.event

  abbrev renew : ℕ → ℕ
  renew = renewed s c n.to

  flagged_along : (k e : ℕ) → flagged c k (n.to e) ≡ flagged s k e
  unfolding renumbers_back reversed within
  flagged_along k e = same_test _ _ (λ p. ap (flagged s k) (sym (n.back_to e)) ∙ flagged_to (renumbers_back w) k (n.to e) p) (flagged_to w k e)

  same_new : new_events c ≡ new_events s
  same_new = omega (arith, fewer w, fewer (renumbers_back w))

  renew_old : (e : ℕ) → e ≤ s.events → renew e ≡ n.to e
  unfolding renewed is_new
  renew_old e h = rw (le-ltb s.events e h, renewed)

  renew_beyond : (e : ℕ) → new_events s < e → renew e ≡ n.to e
  unfolding renewed is_new
  renew_beyond e h = rw (ap (λ (b : Bool). ltb s.events e && b) (lt-leb e (new_events s) h) ∙ and-false (ltb s.events e), renewed)

  renew_outside : (e : ℕ) → numbers_to (new_events s) e ≡ false → renew e ≡ e
  renew_outside e p =
      elim (dec_le e s.events) [ yes h ↦ renew_old e h | no h ↦ elim (dec_le e (new_events s)) [ yes k ↦ absurd (false≢true (sym p ∙ numbers_intro _ e (omega (arith, h)) k)) | no k ↦ renew_beyond e (omega (arith, k)) ] ]
      ∙ n.others e (numbers_fewer s.events (new_events s) (law.more_events s) e p)

  renew_fence : (v : ℕ) → strong s v ≡ true → renew (inserted s v) ≡ inserted c (n.to v)
  unfolding renewed is_new
  renew_fence v p =
      let a = law.inserted_above s v p in
      let new : is_new s (inserted s v) ≡ true = search (and_both, lt-ltb, le-leb) in
      rw (new, renewed) (ap (λ (x : ℕ). inserted c (n.to x)) (law.fenced_inserted s (omega (arith, given.few, law.more_events s)) v p))

  -- An event of the translation is one of the source's records or an inserted fence.
  data NewEvent : ℕ → Type 0 where
    old : (e : ℕ) → 1 ≤ e → e ≤ s.events → NewEvent e
    fence : (v : ℕ) → strong s v ≡ true → NewEvent (inserted s v)

  new_event : (e : ℕ) → 1 ≤ e → e ≤ new_events s → NewEvent e
  new_event e h g = elim (dec_le e s.events) [
    | yes k ↦ old e h k
    | no k ↦ (let (v, p, q) = law.inserted_every s e (omega (arith, k)) g in subst NewEvent q (fence v p))
  ]

  renew_within : (e : ℕ) → 1 ≤ e → e ≤ new_events s → (1 ≤ renew e) × (renew e ≤ new_events c)
  renew_within e h g = go (new_event e h g)
    where
      go : {x : ℕ} → NewEvent x → (1 ≤ renew x) × (renew x ≤ new_events c)
      go (old x h g) = (let m = moved_within w x h g in let p = renew_old x g in (omega (arith, m.0, p), omega (arith, m.1, p, law.more_events c)))
      go (fence v p) = (let a = law.inserted_above c (n.to v) (flagged_along 2 v ∙ p) in let q = renew_fence v p in (omega (arith, a.0, q), omega (arith, a.1, q)))

  -- What the records say: `kept` of the records of s, else what an inserted fence has.
  kept_along : (kept kept' : ℕ → ℕ) (new : ℕ) → ((e : ℕ) → 1 ≤ e → e ≤ s.events → kept' (n.to e) ≡ kept e)
      → (e : ℕ) → 1 ≤ e → e ≤ new_events s → kept_or c kept' new (renew e) ≡ kept_or s kept new e
  kept_along kept kept' new same e h g = go (new_event e h g)
    where
      go : {x : ℕ} → NewEvent x → kept_or c kept' new (renew x) ≡ kept_or s kept new x
      go (old x h g) =
          ap (kept_or c kept' new) (renew_old x g) ∙ law.kept c kept' new (n.to x) (moved_within w x h g).1 ∙ same x h g ∙ sym (law.kept s kept new x g)
      go (fence v p) =
          let a = law.inserted_above c (n.to v) (flagged_along 2 v ∙ p) in
          ap (kept_or c kept' new) (renew_fence v p) ∙ law.made c kept' new _ a.0 ∙ sym (law.made s kept new _ (law.inserted_above s v p).0)

  mode_along : (e : ℕ) → 1 ≤ e → e ≤ s.events → new_mode c (n.to e) ≡ new_mode s e
  unfolding new_mode
  mode_along e h g = ap₂ (λ (k m : ℕ). elim (eqb k 3) [ true ↦ elim (eqb m 1) [ true ↦ 5 | false ↦ 6 ] | false ↦ m ]) (w.class e h g) (w.mode e h g)

  flag_along : (e : ℕ) → 1 ≤ e → e ≤ s.events → new_flag c (n.to e) ≡ new_flag s e
  unfolding new_flag
  flag_along e h g = ap₂ (λ (b : Bool) (m : ℕ). elim b [ true ↦ 0 | false ↦ m ]) (flagged_along 2 e) (w.flag e h g)

  -- The new chain.
  after_along : (e : ℕ) → 1 ≤ e → e ≤ new_events s → after c (renew e) ≡ renew (after s e)
  after_along e h g = go (new_event e h g)
    where
      next : (e : ℕ) → 1 ≤ e → e ≤ s.events → c.next (n.to e) ≡ renew (s.next e)
      next e h g = w.next e h g ∙ sym (renew_old (s.next e) (given.next e h g))

      record_after : (x : ℕ) → 1 ≤ x → x ≤ s.events → after c (n.to x) ≡ renew (after s x)
      record_after x h g = elim (by_test (strong s x)) [
        | inl p ↦ law.after_strong c (n.to x) (flagged_along 2 x ∙ p) ∙ sym (renew_fence x p) ∙ ap renew (sym (law.after_strong s x p))
        | inr p ↦ law.after_plain c (n.to x) (moved_within w x h g).1 (flagged_along 2 x ∙ p) ∙ next x h g ∙ ap renew (sym (law.after_plain s x g p))
      ]

      go : {x : ℕ} → NewEvent x → after c (renew x) ≡ renew (after s x)
      go (old x h g) = ap (after c) (renew_old x g) ∙ record_after x h g
      go (fence v p) =
          let f = flagged_is s 2 v p in
          let few : s.events < 64 = omega (arith, given.few, law.more_events s) in
          ap (after c) (renew_fence v p) ∙ law.after_inserted c (omega (arith, few, w.events)) (n.to v) (flagged_along 2 v ∙ p)
          ∙ next v f.low f.high ∙ ap renew (sym (law.after_inserted s few v p))

  -- The event that control goes on to.
  controlled_along : (r : ℕ) → 1 ≤ r → r ≤ s.events → controlled c (n.to r) ≡ renew (controlled s r)
  controlled_along r h g = elim (by_test (pair s r)) [
    | inl p ↦ (let three = and_left (s.link 3 r (s.next r)) (s.link 4 r (s.next r)) p in let four = and_right (s.link 3 r (s.next r)) (s.link 4 r (s.next r)) p in
        let t = given.target 3 r (s.next r) three in
        law.controlled_pair c (n.to r) (linked 3 ∙ three) (linked 4 ∙ four) ∙ ap (after c) (w.next r h g ∙ sym (renew_old (s.next r) t.1))
        ∙ after_along (s.next r) t.0 (omega (arith, t.1, law.more_events s)) ∙ ap renew (sym (law.controlled_pair s r three four)))
    | inr p ↦ law.controlled_read c (n.to r) (ap₂ ◌&&◌ (linked 3) (linked 4) ∙ p) ∙ ap (after c) (sym (renew_old r g))
        ∙ after_along r h (omega (arith, law.more_events s)) ∙ ap renew (sym (law.controlled_read s r p))
  ]
    where
      pair : Contents → ℕ → Bool
      pair x e = x.link 3 e (x.next e) && x.link 4 e (x.next e)

      linked : (t : ℕ) → c.link t (n.to r) (c.next (n.to r)) ≡ s.link t r (s.next r)
      linked t = ap (c.link t (n.to r)) (w.next r h g) ∙ w.link t r (s.next r)

  -- The links, from s to c.
  source_along : (t a b : ℕ) → s.link t a b ≡ true → renew a ≡ n.to a
  source_along t a b l = elim (given.source t a b l) [ inl h ↦ renew_old a h | inr h ↦ renew_beyond a (omega (arith, given.few)) ]

  from_to : (t a b : ℕ) → Linked s t a b → Linked c t (renew a) (renew b)
  from_to t a b (stays p q l) =
      stays p q (ap₂ (c.link t) (source_along t a b l) (renew_old b (given.target t a b l).1) ∙ w.link t a b ∙ l)
  from_to t a b (exclusively e x q) =
      let f = flagged_is s 1 a x in
      let p = renew_old a f.high in
      exclusively e (ap (exclusive c) p ∙ flagged_along 1 a ∙ x) (ap (controlled c) p ∙ controlled_along a f.low f.high ∙ ap renew q)
  from_to t a b (casdep d e l q) =
      let m = given.target 7 a d l in
      let p = renew_old d m.1 in
      casdep (n.to d) e (ap (λ (x : ℕ). c.link 7 x (n.to d)) (source_along 7 a d l) ∙ w.link 7 a d ∙ l)
      (ap (after c) (sym p) ∙ after_along d m.0 (omega (arith, m.1, law.more_events s)) ∙ ap renew q)

  link_to : Sourced c → (t a b : ℕ) → new_link s t a b ≡ true → new_link c t (renew a) (renew b) ≡ true
  link_to given' t a b p =
      let new = law.new_is s t a b p in
      let m = renew_within b new.low new.high in
      law.new_intro c (λ x y l. omega (arith, (given'.target 7 x y l).1, given'.few, law.more_events c)) t (renew a) (renew b)
      (record { low = m.0; high = m.1; from = from_to t a b new.from })

-- Both ways.
module _ {s c : Contents} (w : Renumbers s c) (given : Sourced s) (given' : Sourced c) where
  abbrev there : ℕ → ℕ
  there = renewed s c w.event.to

  abbrev back : ℕ → ℕ
  back = renewed c s w.event.back

  returns : (e : ℕ) → back (there e) ≡ e
  unfolding renumbers_back reversed within
  returns e = elim (by_test (numbers_to (new_events s) e)) [
    | inl p ↦ (let b = numbers_is (new_events s) e p in inside (new_event w given e b.0 b.1))
    | inr p ↦ ap back (renew_outside w given e p) ∙ renew_outside (renumbers_back w) given' e (ap (λ (m : ℕ). numbers_to m e) (same_new w given) ∙ p)
  ]
    where
      inside : {x : ℕ} → NewEvent w given x → back (there x) ≡ x
      inside (old x h g) = ap back (renew_old w given x g) ∙ renew_old (renumbers_back w) given' (w.event.to x) (moved_within w x h g).1 ∙ w.event.back_to x
      inside (fence v p) =
          ap back (renew_fence w given v p) ∙ renew_fence (renumbers_back w) given' (w.event.to v) (flagged_along w given 2 v ∙ p) ∙ ap (inserted s) (w.event.back_to v)

-- The translations of renumbered contents are renumbered.
module _ {s c : Contents} (w : Renumbers s c) (given : Sourced s) (given' : Sourced c) where
  link_along : (t a b : ℕ) → new_link c t (there w given given' a) (there w given given' b) ≡ new_link s t a b
  unfolding renumbers_back reversed within
  link_along t a b =
      same_test _ _
      (λ p. sym (ap₂ (new_link s t) (returns w given given' a) (returns w given given' b)) ∙ link_to (renumbers_back w) given' given t _ _ p)
      (link_to w given given' t a b)

  pub translated_renumbers : Renumbers (translated s) (translated c)
  unfolding translated renumbers_back reversed within
  translated_renumbers =
      record {
        kind = refl;
        events = same_new w given;
        locations = w.locations;
        event = record {
          to = there w given given';
          back = back w given given';
          back_to = returns w given given';
          to_back = returns (renumbers_back w) given' given;
          others = renew_outside w given;
        };
        thread = w.thread;
        head = λ t h. w.head t h ∙ sym (renew_old w given (s.head t) (given.head t h));
        next = after_along w given;
        class = kept_along w given s.class c.class 3 w.class;
        mode = kept_along w given (new_mode s) (new_mode c) 5 (mode_along w given);
        flag = kept_along w given (new_flag s) (new_flag c) 0 (flag_along w given);
        location = kept_along w given s.location c.location 0 w.location;
        low = kept_along w given s.low c.low 0 w.low;
        high = kept_along w given s.high c.high 0 w.high;
        link = link_along;
      }

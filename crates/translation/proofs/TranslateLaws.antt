-- Laws of the translation's definitions: strong writes, inserted fences, the new chain and the new links.
use mathlib.Core.Path.{◌≡◌, refl, ap, ◌∙◌}
use mathlib.Core.Bool.{Bool, true, false, ◌&&◌, ◌||◌, and-false}
use mathlib.Core.Logic.{inl, inr}
use Prim.Native.Nat.{ℕ, suc, ◌-◌, ◌<◌, ◌≤◌}
use native.Mathlib.Omega.{arith}
use borrow.Author.Tests.{le-leb, lt-leb, leb-true, eqb-true, eq-eqb, ne_eqb}
use lib.Dec.{eqb, leb}
use Rattle.relation.specs.Rel.{Set, nodes}
use Rattle.relation.proofs.Truth.{and_left, and_right, and_both, or_either, or_left, or_right}
use Rattle.relation.proofs.Meaning.{compose_sound, compose_complete, mem_below}
use Rattle.relation.proofs.SetLaws.{least_at}
use Rattle.translation.specs.Contents.{Contents}
use Rattle.translation.specs.Translate.{flagged, exclusive, strong, inserted, new_events, fenced, after, follows, kept_or, new_mode, new_flag, controlled, from_exclusive, from_casdep, new_link}
use Rattle.relation.proofs.Counting.{count_lt, count_injective, select}
use Rattle.translation.proofs.Woven.{Weaves}

module _ (s : Contents) where
  -- What it is to be flagged.
  pub record Flagged (k e : ℕ) : Type 0 where
    pub low : 1 ≤ e
    pub high : e ≤ s.events
    pub class : s.class e ≡ k
    pub flag : s.flag e ≡ 1

  pub flagged_is : (k e : ℕ) → flagged s k e ≡ true → Flagged k e
  unfolding flagged
  flagged_is k e p = search (and_left, and_right, leb-true, eqb-true)

  pub flagged_intro : (k e : ℕ) → Flagged k e → flagged s k e ≡ true
  unfolding flagged
  flagged_intro k e w = search (and_both, le-leb, eq-eqb)

  -- Inserted fences are numbered N + 1 to the new N.
  pub inserted_above : (w : ℕ) → strong s w ≡ true → (s.events < inserted s w) × (inserted s w ≤ new_events s)
  unfolding inserted new_events
  inserted_above w h = (let f = flagged_is 2 w h in omega (arith, count_lt w (suc s.events) (strong s) (omega (arith, f.high)) h))

  pub inserted_apart : (v w : ℕ) → strong s v ≡ true → strong s w ≡ true → inserted s v ≡ inserted s w → v ≡ w
  unfolding inserted
  inserted_apart v w h g e = count_injective v w (strong s) h g (omega arith)

  pub inserted_every : (e : ℕ) → s.events < e → e ≤ new_events s → (w : ℕ) × (strong s w ≡ true) × (inserted s w ≡ e)
  unfolding inserted new_events
  inserted_every e h g =
      let m = select (suc s.events) (strong s) (e - suc s.events) (omega arith) in
      (m.at, m.member, omega (arith, m.place))

  pub more_events : s.events ≤ new_events s
  unfolding new_events
  more_events = omega arith

  -- The new chain.
  pub after_plain : (e : ℕ) → e ≤ s.events → strong s e ≡ false → after s e ≡ s.next e
  unfolding after
  after_plain e h p = rw (le-leb e s.events h, after) (rw p)

  pub after_strong : (e : ℕ) → strong s e ≡ true → after s e ≡ inserted s e
  unfolding after
  after_strong e p = rw (le-leb e s.events (flagged_is 2 e p).high, after) (rw p)

  pub after_new : (e : ℕ) → s.events < e → after s e ≡ s.next (fenced s e)
  unfolding after
  after_new e h = rw (lt-leb e s.events h, after)

  pub fenced_inserted : s.events < 64 → (w : ℕ) → strong s w ≡ true → fenced s (inserted s w) ≡ w
  unfolding fenced
  fenced_inserted small w h =
      let is : Set = λ v. strong s v && eqb (inserted s v) (inserted s w) in
      let f = flagged_is 2 w h in
      least_at 64 is w (omega (arith, f.high)) (and_both (strong s w) _ h (eq-eqb (inserted s w) (inserted s w) refl)) (λ v g. other v g (strong s v) refl)
    where
      other : (v : ℕ) → v < w → (b : Bool) → strong s v ≡ b → strong s v && eqb (inserted s v) (inserted s w) ≡ false
      other v g true e =
          ap (λ (x : Bool). strong s v && x) (ne_eqb (inserted s v) (inserted s w) (λ q. (let r = inserted_apart v w e h q in omega arith))) ∙ and-false (strong s v)
      other v g false e = ap (λ (x : Bool). x && eqb (inserted s v) (inserted s w)) e

  pub after_inserted : s.events < 64 → (w : ℕ) → strong s w ≡ true → after s (inserted s w) ≡ s.next w
  after_inserted small w h = after_new (inserted s w) (inserted_above w h).0 ∙ ap s.next (fenced_inserted small w h)

  pub weaves : s.events < 64 → Weaves s.events (new_events s) s.next (after s) (strong s) (inserted s)
  weaves small =
      record {
        wider = more_events;
        plain = λ x h g e. after_plain x g e;
        into = after_strong;
        out = after_inserted small;
        old = λ x h. (let f = flagged_is 2 x h in (f.low, f.high));
        above = inserted_above;
        apart = inserted_apart;
        every = inserted_every;
      }

  -- What the records say.
  pub kept : (v : ℕ → ℕ) (new e : ℕ) → e ≤ s.events → kept_or s v new e ≡ v e
  unfolding kept_or
  kept v new e h = rw (le-leb e s.events h, kept_or)

  pub made : (v : ℕ → ℕ) (new e : ℕ) → s.events < e → kept_or s v new e ≡ new
  unfolding kept_or
  made v new e h = rw (lt-leb e s.events h, kept_or)

  pub mode_access : (e : ℕ) → (s.class e ≡ 3 → ⊥) → new_mode s e ≡ s.mode e
  unfolding new_mode
  mode_access e d = rw (ne_eqb (s.class e) 3 d, new_mode)

  pub mode_acquire : (e : ℕ) → s.class e ≡ 3 → s.mode e ≡ 1 → new_mode s e ≡ 5
  unfolding new_mode
  mode_acquire e c p = rw (eq-eqb (s.class e) 3 c, new_mode) (rw (eq-eqb (s.mode e) 1 p))

  pub mode_other : (e : ℕ) → s.class e ≡ 3 → (s.mode e ≡ 1 → ⊥) → new_mode s e ≡ 6
  unfolding new_mode
  mode_other e c p = rw (eq-eqb (s.class e) 3 c, new_mode) (rw (ne_eqb (s.mode e) 1 p))

  pub flag_strong : (e : ℕ) → strong s e ≡ true → new_flag s e ≡ 0
  unfolding new_flag
  flag_strong e p = rw (p, new_flag)

  pub flag_kept : (e : ℕ) → strong s e ≡ false → new_flag s e ≡ s.flag e
  unfolding new_flag
  flag_kept e p = rw (p, new_flag)

  -- The event that control goes on to.
  pub controlled_pair : (r : ℕ) → s.link 3 r (s.next r) ≡ true → s.link 4 r (s.next r) ≡ true → controlled s r ≡ after s (s.next r)
  unfolding controlled
  controlled_pair r p q = rw (and_both (s.link 3 r (s.next r)) (s.link 4 r (s.next r)) p q, controlled)

  pub controlled_read : (r : ℕ) → s.link 3 r (s.next r) && s.link 4 r (s.next r) ≡ false → controlled s r ≡ after s r
  unfolding controlled
  controlled_read r p = rw (p, controlled)

  -- The links, by where they come from.
  pub data Linked (t a b : ℕ) : Type 0 where
    stays : 1 ≤ t → t ≤ 6 → s.link t a b ≡ true → Linked t a b
    exclusively : t ≡ 6 → exclusive s a ≡ true → controlled s a ≡ b → Linked t a b
    casdep : (e : ℕ) → t ≡ 6 → s.link 7 a e ≡ true → after s e ≡ b → Linked t a b

  pub record New (t a b : ℕ) : Type 0 where
    pub low : 1 ≤ b
    pub high : b ≤ new_events s
    pub from : Linked t a b

  exclusive_is : (t a b : ℕ) → t ≡ 6 → from_exclusive s a b ≡ true → Linked t a b
  unfolding from_exclusive
  exclusive_is t a b e p = exclusively e (search and_left) (search (and_right, eqb-true))

  casdep_is : (t a b : ℕ) → t ≡ 6 → from_casdep s a b ≡ true → Linked t a b
  unfolding from_casdep follows
  casdep_is t a b e p = (let w = compose_sound nodes (s.link 7) (follows s) a b p in casdep w.0 e w.2 (eqb-true (after s w.0) b w.3))

  pub new_is : (t a b : ℕ) → new_link s t a b ≡ true → New t a b
  unfolding new_link
  new_is t a b p =
      record {
        low = search (and_left, leb-true, and_right);
        high = search (and_left, leb-true, and_right);
        from = elim (or_either (leb 1 t && leb t 6 && s.link t a b) (eqb t 6 && (from_exclusive s a b || from_casdep s a b)) (search and_right)) [
          | inl q ↦ stays (search (and_left, and_right, leb-true)) (search (and_left, and_right, leb-true)) (search and_right)
          | inr q ↦ (let e : t ≡ 6 = search (and_left, eqb-true) in
              elim (or_either (from_exclusive s a b) (from_casdep s a b) (search and_right)) [ inl z ↦ exclusive_is t a b e z | inr z ↦ casdep_is t a b e z ])
        ];
      }

  -- A casdep link ends in a number that a row has a bit for.
  pub new_intro : ((a e : ℕ) → s.link 7 a e ≡ true → e < 64) → (t a b : ℕ) → New t a b → new_link s t a b ≡ true
  unfolding new_link from_exclusive from_casdep follows
  new_intro small t a b n = (let from = go n.from in search (and_both, le-leb))
    where
      go : Linked t a b → (leb 1 t && leb t 6 && s.link t a b) || (eqb t 6 && (from_exclusive s a b || from_casdep s a b)) ≡ true
      go (stays p q l) = search (or_left, and_both, le-leb)
      go (exclusively e x q) = search (or_right, or_left, and_both, eq-eqb) depth 7
      go (casdep d e l q) =
          let follows-it = compose_complete nodes (s.link 7) (follows s) a d b (mem_below 64 d (small a d l)) l (eq-eqb (after s d) b q) in
          search (or_right, and_both, eq-eqb) depth 7

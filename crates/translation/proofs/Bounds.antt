-- The translation of a source file that loads has at most 48 events and at most 232 links.
use mathlib.Core.Path.{◌≡◌, refl, sym, ap, ◌∙◌}
use mathlib.Core.Bool.{true, ◌&&◌}
use mathlib.Core.List.{List, [], ◌∷◌, Memᴰ}
use mathlib.Core.Logic.{◌⊎◌, inl, inr}
use Prim.Native.Nat.{ℕ, zero, suc, ◌+◌, ◌-◌, ◌*◌, ◌/◌, ◌%◌, ◌<◌, ◌≤◌}
use native.Mathlib.Omega.{arith}
use borrow.Author.Tests.{eqb-true}
use lib.Dec.{eqb}
use Rattle.relation.specs.Rel.{Set, count}
use Rattle.relation.proofs.Meaning.{some_sound}
use Rattle.models.specs.Recording.{flagged}
use Rattle.layout.specs.Layout.{events, links, link_byte}
use Rattle.layout.specs.Chains.{next_event, next_link, first_link, links_into, met, fresh, once_each, among}
use Rattle.layout.specs.Decode.{decode}
use Rattle.translation.specs.Contents.{contents}
use Rattle.translation.specs.Translate.{exclusive, strong, new_events, after, controlled, translated}
use Rattle.translation.specs.Encode.{is_link, links_up_to}
use Rattle.translation.specs.Translation.{chip}
use Rattle.translation.specs.Parts.{Source}
use Rattle.relation.proofs.Truth.{is_true, holds, and_left, and_right}
use Rattle.recording.proofs.Accepted.{links_sound_lem}
use Rattle.layout.proofs.ChainFacts.{among_here, among_there, fresh_within, follow_positive, met_at, one_chain}
use Rattle.relation.proofs.Counting.{count_inject, count_double}
use Rattle.translation.proofs.TranslateLaws.{Flagged, flagged_is, Linked, stays, exclusively, casdep, new_is}
use Rattle.translation.proofs.EncodedLinks.{LinksFit}
use Rattle.translation.proofs.SourceFacts.{limits, loads, says, link_source, link_target, flagged_decoded}

pub mem_among : (x : ℕ) (l : List ℕ) → Memᴰ x l → among x l ≡ true
mem_among x [] x'' = elim x'' [ ]
mem_among x (y ∷ l) (Memᴰ.head e) = among_here x y l e
mem_among x (y ∷ l) (Memᴰ.tail m) = among_there x y l (mem_among x l m)

-- Links with the same digits are one.
from_digits : (k : ℕ) → k ≡ 512 * (k / 512) + 64 * (k / 64 % 8) + k % 64
from_digits k = omega arith

same_digits : (j k : ℕ) → j / 512 ≡ k / 512 → j / 64 % 8 ≡ k / 64 % 8 → j % 64 ≡ k % 64 → j ≡ k
same_digits j k p q r = cc (from_digits j, from_digits k)

module _ (f : List ℕ) (s : Source f) where
  -- A strong write directly follows an exclusive read.
  strong_pair_lem : (w : ℕ) → strong (contents f) w ≡ true → (a : ℕ) × (exclusive (contents f) a ≡ true) × (next_event f a ≡ w)
  unfolding contents
  strong_pair_lem w h =
      let m = (loads f s).strong w (holds (flagged (decode f) 2 w) (flagged_decoded f s 2 w ∙ h)) in
      let l = (loads f s).rmw m.0 w m.1 in
      (m.0, sym (flagged_decoded f s 1 m.0) ∙ is_true (flagged (decode f) 1 m.0) l.0, ((says f s).next m.0 w l.2).4)

  -- Twice the strong writes are at most the events: each stands for itself and for the read before it.
  data Halves (k x : ℕ) : Type 0 where
    itself : k % 2 ≡ 0 → strong (contents f) (k / 2) ≡ true → k / 2 ≡ suc x → Halves k x
    before : k % 2 ≡ 1 → exclusive (contents f) (suc x) ≡ true → next_event f (suc x) ≡ k / 2 → Halves k x

  halves : (k : ℕ) → strong (contents f) (k / 2) ≡ true → (x : ℕ) × (x < (contents f).events) × Halves k x
  halves k h = go (k % 2) refl (omega arith)
    where
      whole : Flagged (contents f) 2 (k / 2)
      whole = flagged_is (contents f) 2 (k / 2) h

      go : (d : ℕ) → k % 2 ≡ d → d < 2 → (x : ℕ) × (x < (contents f).events) × Halves k x
      go zero e _ = (k / 2 - 1, omega (arith, whole.low, whole.high), itself e h (omega (arith, whole.low)))
      go (suc zero) e _ =
          let p = strong_pair_lem (k / 2) h in
          let r = flagged_is (contents f) 1 p.0 p.1 in
          let same : suc (p.0 - 1) ≡ p.0 = omega (arith, r.low) in
          (p.0 - 1, omega (arith, r.low, r.high), before e (ap (exclusive (contents f)) same ∙ p.1) (ap (next_event f) same ∙ p.2))
      go (suc (suc d)) e g = absurd (omega arith)

  pub not_both : (v w : ℕ) → v ≡ w → strong (contents f) v ≡ true → exclusive (contents f) w ≡ true → ⊥
  not_both v w e h g = omega (arith, (flagged_is (contents f) 2 v h).class, (flagged_is (contents f) 1 w g).class, ap (contents f).class e)

  halves_once : (j k x : ℕ) → Halves j x → Halves k x → j ≡ k
  halves_once j k x (itself p _ q) (itself p' _ q') = omega arith
  halves_once j k x (itself _ h q) (before _ g _) = absurd (not_both (j / 2) (suc x) q h g)
  halves_once j k x (before _ g _) (itself _ h q) = absurd (not_both (k / 2) (suc x) q h g)
  halves_once j k x (before p _ q) (before p' _ q') = omega arith

  pub few_strong : 2 * count (suc (contents f).events) (strong (contents f)) ≤ (contents f).events
  few_strong =
      let n = suc (contents f).events in
      let most = count_inject (2 * n) (contents f).events (λ k. strong (contents f) (k / 2)) Halves (λ k h e. halves k e) halves_once in
      omega (arith, count_double n (strong (contents f)))

  pub most_events_lem : new_events (contents f) ≤ 48
  unfolding new_events contents
  most_events_lem = omega (arith, few_strong, (limits f s).0)

  -- The record of a link.
  pub record Recorded (t a b : ℕ) : Type 0 where
    pub number : ℕ
    pub low : 1 ≤ number
    pub high : number ≤ links f
    pub chained : among number (links_into f b) ≡ true
    pub type : link_byte f number 1 ≡ t
    pub source : link_byte f number 2 ≡ a

  links_fresh : fresh (links f) [] (met (links f) (next_link f) (first_link f) (events f)) ≡ true
  unfolding once_each
  links_fresh = (let once = links_sound_lem f s.loads in search and_left)

  pub recorded_link : (t a b : ℕ) → (decode f).link t a b ≡ true → Recorded t a b
  unfolding decode
  recorded_link t a b e =
      let is : Set = λ m. eqb (link_byte f m 1) t && eqb (link_byte f m 2) a in
      let b-in = link_target f s t a b e in
      let w = some_sound (links_into f b) is (search and_right) in
      let m = w.0 in
      let on = mem_among m (links_into f b) w.1 in
      record {
        number = m;
        low = follow_positive (links f) (next_link f) (suc (links f)) (first_link f (b - 1)) m on;
        high = fresh_within (links f) [] (met (links f) (next_link f) (first_link f) (events f)) m links_fresh
            (met_at (links f) (next_link f) (first_link f) (events f) (b - 1) m (omega (arith, b-in)) on);
        chained = on;
        type = search (and_left, eqb-true);
        source = search (and_right, eqb-true);
      }

  -- A record stands on the chain of one event.
  one_target : (m b d : ℕ) → (1 ≤ b) × (b ≤ events f) → (1 ≤ d) × (d ≤ events f) → among m (links_into f b) ≡ true → among m (links_into f d) ≡ true → b ≡ d
  one_target m b d h g p q =
      let e = one_chain (links f) (next_link f) (first_link f) (events f) (b - 1) (d - 1) m (omega (arith, h)) (omega (arith, g)) links_fresh p q in
      omega (arith, h, g)

  -- The links of the translation fit in records.
  pub links_fit : LinksFit (chip f)
  unfolding translated contents
  links_fit =
      record {
        target_low = λ t a b e. (new_is (contents f) t a b e).low;
        target_high = λ t a b e. (new_is (contents f) t a b e).high;
        type = λ t a b e. type t a b (new_is (contents f) t a b e).from;
        source = λ t a b e. source t a b (new_is (contents f) t a b e).from;
      }
    where
      type : (t a b : ℕ) → Linked (contents f) t a b → t < 8
      type t a b (stays p q l) = omega arith
      type t a b (exclusively p x q) = omega arith
      type t a b (casdep e p l q) = omega arith

      source : (t a b : ℕ) → Linked (contents f) t a b → a < 64
      source t a b (stays p q l) = link_source f s t a b l
      source t a b (exclusively p x q) = omega (arith, (flagged_is (contents f) 1 a x).high, (limits f s).0)
      source t a b (casdep e p l q) = link_source f s 7 a e l

  -- Each link of the translation has a link record of the source to itself, or an exclusive read.
  data Origin (k x : ℕ) : Type 0 where
    from_record : (t e : ℕ) → among (suc x) (links_into f e) ≡ true → (1 ≤ e) × (e ≤ events f) → x < links f
        → link_byte f (suc x) 1 ≡ t → link_byte f (suc x) 2 ≡ k % 64
        → ((t ≡ k / 64 % 8) × (t ≤ 6) × (e ≡ k / 512)) ⊎ ((t ≡ 7) × (k / 64 % 8 ≡ 6) × (after (contents f) e ≡ k / 512)) → Origin k x
    read : x ≡ links f + (k % 64 - 1) → 1 ≤ k % 64 → k / 64 % 8 ≡ 6 → controlled (contents f) (k % 64) ≡ k / 512 → Origin k x

  of_record : (k t e : ℕ) → (decode f).link t (k % 64) e ≡ true
      → ((t ≡ k / 64 % 8) × (t ≤ 6) × (e ≡ k / 512)) ⊎ ((t ≡ 7) × (k / 64 % 8 ≡ 6) × (after (contents f) e ≡ k / 512)) → (x : ℕ) × (x < 232) × Origin k x
  of_record k t e l goes =
      let r = recorded_link t (k % 64) e l in
      let m : suc (r.number - 1) ≡ r.number = omega (arith, r.low) in (
        r.number - 1,
        omega (arith, r.low, r.high, (limits f s).2),
        from_record t e (rw m r.chained) (link_target f s t (k % 64) e l) (omega (arith, r.low, r.high)) (rw m r.type) (rw m r.source) goes,
      )

  origin : (k : ℕ) → is_link (chip f) k ≡ true → (x : ℕ) × (x < 232) × Origin k x
  unfolding is_link translated contents
  origin k h = go (new_is (contents f) (k / 64 % 8) (k % 64) (k / 512) h).from
    where
      go : Linked (contents f) (k / 64 % 8) (k % 64) (k / 512) → (x : ℕ) × (x < 232) × Origin k x
      go (stays p q l) = of_record k (k / 64 % 8) (k / 512) l (inl (refl, q, refl))
      go (exclusively p x q) =
          let w = flagged_is (contents f) 1 (k % 64) x in
          (links f + (k % 64 - 1), omega (arith, w.low, w.high, (limits f s).0, (limits f s).2), read refl w.low p q)
      go (casdep e p l q) = of_record k 7 e l (inr (refl, p, q))

  origin_once : (j k x : ℕ) → Origin j x → Origin k x → j ≡ k
  origin_once j k x (from_record t e p h _ b a v) (from_record t' e' p' h' _ b' a' v') = go v v'
    where
      same : e ≡ e'
      same = one_target (suc x) e e' h h' p p'

      go : ((t ≡ j / 64 % 8) × (t ≤ 6) × (e ≡ j / 512)) ⊎ ((t ≡ 7) × (j / 64 % 8 ≡ 6) × (after (contents f) e ≡ j / 512))
          → ((t' ≡ k / 64 % 8) × (t' ≤ 6) × (e' ≡ k / 512)) ⊎ ((t' ≡ 7) × (k / 64 % 8 ≡ 6) × (after (contents f) e' ≡ k / 512)) → j ≡ k
      go (inl u) (inl u') = same_digits j k (cc same) (cc) (cc)
      go (inr u) (inr u') = same_digits j k (cc same) (cc) (cc)
      go (inl u) (inr u') = absurd (omega arith)
      go (inr u) (inl u') = absurd (omega arith)
  origin_once j k x (read p h u q) (read p' h' u' q') =
      let a : j % 64 ≡ k % 64 = omega (arith, p, p', h, h') in
      same_digits j k (cc) (cc) a
  origin_once j k x (from_record _ _ _ _ g _ _ _) (read p _ _ _) = absurd (omega arith)
  origin_once j k x (read p _ _ _) (from_record _ _ _ _ g _ _ _) = absurd (omega arith)

  pub most_links_lem : (e : ℕ) → links_up_to (chip f) e ≤ 232
  most_links_lem e = count_inject (512 * suc e) 232 (is_link (chip f)) Origin (λ k h g. origin k g) origin_once

-- The links of an encoded file: each event's chain is a run of numbers, every link stands on one chain, and the links that
-- the file holds are those that were written.
use mathlib.Core.Path.{◌≡◌, refl, sym, ap, subst, ◌∙◌}
use mathlib.Core.Bool.{true, ◌&&◌}
use mathlib.Core.List.{List, ◌++◌}
use Prim.Native.Nat.{ℕ, zero, suc, ◌+◌, ◌-◌, ◌*◌, ◌/◌, ◌%◌, ◌<◌, ◌≤◌}
use native.Mathlib.Omega.{arith}
use native.Mathlib.Nat.{add-zero}
use native.Mathlib.Decide.{dec_lt}
use borrow.Author.Tests.{eqb-true, eq-eqb}
use lib.Dec.{eqb}
use lib.ListN.{get_or}
use Rattle.relation.specs.Rel.{Set, count, some}
use Rattle.relation.proofs.Truth.{and_both, and_left, and_right}
use Rattle.layout.specs.Layout.{links, link_start, link_byte}
use Rattle.layout.specs.Chains.{next_of, start_of, next_link, first_link, links_into, chain, follow, met, links_sound, once_each}
use Rattle.layout.specs.Decode.{is_recorded, decode}
use Rattle.layout.proofs.FieldLaws.{recorded_bounds, recorded_is}
use Rattle.relation.proofs.Truth.{is_false, same_test}
use Rattle.translation.specs.Contents.{Contents}
use Rattle.translation.specs.Encode.{chained, is_link, links_before, links_up_to, event_record, link_record, encode}
use Rattle.relation.proofs.Counting.{select, count_mono, count_lt, count_none}
use Rattle.translation.proofs.EncodeLaws.{encode_events, encode_links, encode_event, encode_link}
use Rattle.translation.proofs.Runs.{run, run_append, run_some, run_member, run_once, follow_run}

-- Links join numbers that a record can hold, and end in events of the recording.
pub record LinksFit (c : Contents) : Type 0 where
  pub target_low : (t a b : ℕ) → c.link t a b ≡ true → 1 ≤ b
  pub target_high : (t a b : ℕ) → c.link t a b ≡ true → b ≤ c.events
  pub type : (t a b : ℕ) → c.link t a b ≡ true → t < 8
  pub source : (t a b : ℕ) → c.link t a b ≡ true → a < 64

-- The digits of a link's number.
pub digits : (k t a b : ℕ) → k ≡ 512 * b + 64 * t + a → t < 8 → a < 64 → (k / 64 % 8 ≡ t) × (k % 64 ≡ a) × (k / 512 ≡ b)
digits k t a b e h g = (omega arith, omega arith, omega arith)

pub link_number : (c : Contents) (t a b : ℕ) → t < 8 → a < 64 → is_link c (512 * b + 64 * t + a) ≡ c.link t a b
unfolding is_link
link_number c t a b h g =
    let k = 512 * b + 64 * t + a in
    let d = digits k t a b refl h g in
    ap (λ (x : ℕ). c.link x (k % 64) (k / 512)) d.0 ∙ ap (λ (x : ℕ). c.link t x (k / 512)) d.1 ∙ ap (c.link t a) d.2

module _ (c : Contents) (fit : LinksFit c) where
  pub none_into_zero : links_before c 512 ≡ 0
  unfolding is_link count
  none_into_zero = count_none 0 512 (is_link c) (omega arith) (λ k h g. is_false (is_link c k) (λ e. omega (arith, fit.target_low _ _ _ e)))

  -- The link numbered m.
  pub record Numbered (m : ℕ) : Type 0 where
    pub at : ℕ
    pub below : at < 512 * suc c.events
    pub link : is_link c at ≡ true
    pub number : suc (links_before c at) ≡ m

  pub numbered : (m : ℕ) → 1 ≤ m → m ≤ links_up_to c c.events → Numbered m
  numbered m h g =
      let w = select (512 * suc c.events) (is_link c) (m - 1) (omega arith) in
      record { at = w.at; below = w.below; link = w.member; number = omega (arith, w.place) }

  pub link_byte_lem : (m j : ℕ) (w : Numbered m) → j < 4 → link_byte (encode c) m j ≡ get_or (link_record c w.at) j 0
  link_byte_lem m j w g = ap (λ (x : ℕ). link_byte (encode c) x j) (sym w.number) ∙ encode_link c w.at j w.below w.link g

  -- A link whose number is past those into smaller events and not past those into b goes into b.
  pub into_event : (b m : ℕ) (w : Numbered m) → links_before c (512 * b) < m → m ≤ links_up_to c b → w.at / 512 ≡ b
  into_event b m w h g =
      elim (dec_lt w.at (512 * b)) [
        | yes p ↦ absurd (omega (arith, count_lt w.at (512 * b) (is_link c) p w.link, w.number))
        | no p ↦ elim (dec_lt w.at (512 * suc b)) [
          | yes q ↦ omega (arith, p)
          | no q ↦ absurd (omega (arith, count_mono (512 * suc b) w.at (is_link c) (omega (arith, q)), w.number))
        ]
      ]

  -- How many links go into b.
  pub links_at : ℕ → ℕ
  links_at b = links_up_to c b - links_before c (512 * b)

  pub links_at_lem : (b : ℕ) → links_before c (512 * b) + links_at b ≡ links_up_to c b
  unfolding links_at
  links_at_lem b = omega (arith, count_mono (512 * b) (512 * suc b) (is_link c) (omega arith))

  pub links_within : (b : ℕ) → b ≤ c.events → links_up_to c b ≤ links_up_to c c.events
  links_within b h = count_mono (512 * suc b) (512 * suc c.events) (is_link c) (omega arith)

  next_link_lem : (b m : ℕ) → b ≤ c.events → links_before c (512 * b) < m → m ≤ links_up_to c b → next_link (encode c) m ≡ chained (links_up_to c b) m
  unfolding next_of link_record
  next_link_lem b m k h g =
      let w = numbered m (omega arith) (omega (arith, links_within b k)) in
      ap (λ (i : ℕ). get_or (encode c) i 0) (sym (add-zero (link_start (encode c) + 4 * (m - 1)))) ∙ link_byte_lem m 0 w (omega arith)
      ∙ ap (chained (links_up_to c (w.at / 512))) w.number ∙ ap (λ (x : ℕ). chained (links_up_to c x) m) (into_event b m w h g)

  first_link_lem : (j : ℕ) → suc j ≤ c.events → first_link (encode c) j ≡ chained (links_up_to c (suc j)) (links_before c (512 * suc j))
  unfolding start_of event_record
  first_link_lem j h =
      let place : 15 + 8 * j ≡ 8 + 8 * (suc j - 1) + 7 = omega arith in
      ap (λ (i : ℕ). get_or (encode c) i 0) place ∙ encode_event c (suc j) 7 (omega arith) h (omega arith)

  -- The chain of the links into an event.
  chain_into : (j : ℕ) → suc j ≤ c.events
      → chain (links (encode c)) (next_link (encode c)) (first_link (encode c) j) ≡ run (links_before c (512 * suc j)) (links_at (suc j))
  chain_into j h =
      let limit = links (encode c) in
      let last = links_up_to c (suc j) in
      let most : last ≤ limit = omega (arith, encode_links c, links_within (suc j) h) in
      ap (follow limit (next_link (encode c)) (suc limit)) (first_link_lem j h)
      ∙ follow_run limit (next_link (encode c)) last (links_before c (512 * suc j)) (links_at (suc j)) (suc limit) (links_at_lem (suc j)) most (omega (arith, links_at_lem (suc j)))
      (λ m p q. next_link_lem (suc j) m h p q)

  pub links_into_lem : (b : ℕ) → 1 ≤ b → b ≤ c.events → links_into (encode c) b ≡ run (links_before c (512 * b)) (links_at b)
  links_into_lem b h g =
      let one_more : suc (b - 1) ≡ b = omega arith in
      chain_into (b - 1) (omega arith) ∙ ap (λ (x : ℕ). run (links_before c (512 * x)) (links_at x)) one_more

  -- Every link stands once on the chains (cause 7).
  met_run : (n : ℕ) → n ≤ c.events → met (links (encode c)) (next_link (encode c)) (first_link (encode c)) n ≡ run 0 (links_up_to c n)
  unfolding met run
  met_run zero h = ap (run 0) (sym none_into_zero)
  met_run (suc n) h =
      ap (λ (l : List ℕ). l ++ chain (links (encode c)) (next_link (encode c)) (first_link (encode c) n)) (met_run n (omega arith))
      ∙ ap (◌++◌ (run 0 (links_up_to c n))) (chain_into n h)
      ∙ ap (λ (x : ℕ). run 0 (links_up_to c n) ++ run x (links_at (suc n))) (sym zero_add)
      ∙ sym (run_append 0 (links_up_to c n) (links_at (suc n))) ∙ ap (run 0) (links_at_lem (suc n))
    where
      zero_add : 0 + links_up_to c n ≡ links_up_to c n
      zero_add = omega arith

  pub links_sound_lem : links_sound (encode c) ≡ true
  links_sound_lem =
      ap (λ (n : ℕ). once_each (links (encode c)) (met (links (encode c)) (next_link (encode c)) (first_link (encode c)) n)) (encode_events c)
      ∙ ap (once_each (links (encode c))) (met_run c.events (omega arith) ∙ ap (run 0) (sym (encode_links c)))
      ∙ run_once (links (encode c))

  -- The links that the file holds.
  holds : ℕ → ℕ → Set
  holds t a m = eqb (link_byte (encode c) m 1) t && eqb (link_byte (encode c) m 2) a

  -- A link on the chain of b, by its bytes.
  pub on_chain : (b m t a : ℕ) → b ≤ c.events → links_before c (512 * b) < m → m ≤ links_up_to c b → link_byte (encode c) m 1 ≡ t → link_byte (encode c) m 2 ≡ a
      → c.link t a b ≡ true
  unfolding link_record is_link
  on_chain b m t a k h g p q =
      let w = numbered m (omega arith) (omega (arith, links_within b k)) in
      let type : w.at / 64 % 8 ≡ t = sym (link_byte_lem m 1 w (omega arith)) ∙ p in
      let source : w.at % 64 ≡ a = sym (link_byte_lem m 2 w (omega arith)) ∙ q in
      subst (λ (x : ℕ). c.link t a x ≡ true) (into_event b m w h g)
      (subst (λ (x : ℕ). c.link t x (w.at / 512) ≡ true) source
      (subst (λ (x : ℕ). c.link x (w.at % 64) (w.at / 512) ≡ true) type w.link))

  -- The place of a link on the chain of its target.
  pub chained_at : (t a b : ℕ) → c.link t a b ≡ true
      → (m : ℕ) × (links_before c (512 * b) < m) × (m ≤ links_up_to c b) × (link_byte (encode c) m 1 ≡ t) × (link_byte (encode c) m 2 ≡ a)
  unfolding link_record
  chained_at t a b e =
      let k = 512 * b + 64 * t + a in
      let h = fit.type t a b e in
      let g = fit.source t a b e in
      let d = digits k t a b refl h g in
      let is : is_link c k ≡ true = link_number c t a b h g ∙ e in
      let inside : k < 512 * suc c.events = omega (arith, fit.target_high t a b e) in (
        suc (links_before c k),
        omega (arith, count_mono (512 * b) k (is_link c) (omega arith)),
        count_lt k (512 * suc b) (is_link c) (omega arith) is,
        encode_link c k 1 inside is (omega arith) ∙ d.0,
        encode_link c k 2 inside is (omega arith) ∙ d.1,
      )

  held : (t a b : ℕ) → c.link t a b ≡ true → (decode (encode c)).link t a b ≡ true
  unfolding decode holds
  held t a b e =
      let h = fit.target_low t a b e in
      let g = fit.target_high t a b e in
      let w = chained_at t a b e in
      and_both (is_recorded (encode c) b) (some (links_into (encode c) b) (holds t a)) (recorded_is (encode c) b h (omega (arith, encode_events c)))
      (ap (λ (l : List ℕ). some l (holds t a)) (links_into_lem b h g)
      ∙ run_some (links_before c (512 * b)) (links_at b) (holds t a) w.0 w.1 (omega (arith, w.2, links_at_lem b)) (search (and_both, eq-eqb)))

  written : (t a b : ℕ) → (decode (encode c)).link t a b ≡ true → c.link t a b ≡ true
  unfolding decode holds
  written t a b e =
      let r = recorded_bounds (encode c) b (search and_left) in
      let g : b ≤ c.events = omega (arith, r.1, encode_events c) in
      let w = run_member (links_before c (512 * b)) (links_at b) (holds t a)
      (ap (λ (l : List ℕ). some l (holds t a)) (sym (links_into_lem b r.0 g)) ∙ search and_right) in
      on_chain b w.0 t a g w.1 (omega (arith, w.2, links_at_lem b)) (search (and_left, eqb-true)) (search (and_right, eqb-true))

  pub encoded_link : (t a b : ℕ) → (decode (encode c)).link t a b ≡ c.link t a b
  encoded_link t a b = same_test ((decode (encode c)).link t a b) (c.link t a b) (written t a b) (held t a b)

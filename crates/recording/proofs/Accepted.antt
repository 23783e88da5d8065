-- A file that loads passes the test of each cause, and one that passes each loads.
use mathlib.Core.Path.{◌≡◌, refl, sym, ap, ◌∙◌}
use mathlib.Core.Bool.{Bool, true, false, ◌&&◌, false≢true}
use mathlib.Core.List.{List, [], ◌∷◌}
use mathlib.Core.Logic.{inl, inr}
use Prim.Native.Nat.{ℕ, zero, suc, ◌<◌, ◌≤◌}
use native.Mathlib.Omega.{arith}
use borrow.Author.Tests.{eqb-true, ltb-false, not-false}
use lib.Dec.{eqb}
use lib.ListN.{length}
use Rattle.relation.specs.Rel.{Set, some, below}
use Rattle.relation.proofs.Meaning.{some_complete, mem_below}
use Rattle.relation.proofs.Truth.{is_false, and_left, and_right, and_both, or_either}
use Rattle.models.proofs.FirstLaws.{test_of, positive, first_fails, NonePass, none_first}
use Rattle.layout.specs.Layout.{kind, side_of, side, source, chip, events, locations, links, threads, kind_known, by_side, most_events, most_links, most_in_thread, full_length, link_byte, Sized}
use Rattle.layout.specs.Chains.{each, thread, threads_sound, links_sound, links_into, all_of}
use Rattle.layout.specs.Decode.{is_recorded, decode}
use Rattle.recording.specs.Causes.{event_legal, too_long, link_legal, link_sound, one_source, too_short, kind_unknown, over_limit, wrong_length, bad_event, bad_threads, long_thread, bad_chains, bad_link, co_ring, unpaired, links_sound_at, header_causes, record_causes, link_causes, causes, refusal}
use Rattle.recording.specs.Load.{LoadsAs}
use Rattle.layout.proofs.FieldLaws.{recorded_bounds}
use Rattle.layout.proofs.ChainLaws.{each_at}
use Rattle.recording.proofs.CauseLaws.{limits, sized_of}

-- The test of the cause of that number. To unfold it is to unfold the lists of causes.
unfoldable pub cause : List ℕ → ℕ → Bool
unfolding causes header_causes record_causes link_causes test_of
cause f k = test_of (causes f) k

pub passes : (f : List ℕ) → refusal f ≡ 0 → (k : ℕ) → cause f k ≡ false
unfolding cause refusal causes header_causes record_causes link_causes positive
passes f loads k = first_fails (causes f) refl loads k

-- No cause applies.
pub record Accepted (f : List ℕ) : Type 0 where
  pub cause1 : too_short f ≡ false
  pub cause2 : kind_unknown f ≡ false
  pub cause3 : over_limit f ≡ false
  pub cause4 : wrong_length f ≡ false
  pub cause5 : bad_event f ≡ false
  pub cause6 : bad_threads f ≡ false
  pub cause13 : long_thread f ≡ false
  pub cause7 : bad_chains f ≡ false
  pub cause8 : bad_link f ≡ false
  pub cause9 : co_ring f ≡ false
  pub cause10 : unpaired f ≡ false

-- Each test of the list is found among the fields, whatever the order.
pub accepts : (f : List ℕ) → Accepted f → refusal f ≡ 0
unfolding refusal causes header_causes record_causes link_causes NonePass
accepts f a = none_first (causes f) (search tt)

-- `each` and `all_of` at a number.
pub each_all : (n : ℕ) (p : ℕ → Bool) → ((x : ℕ) → 1 ≤ x → x ≤ n → p x ≡ true) → each n p ≡ true
unfolding each
each_all zero p f = refl
each_all (suc n) p f = and_both (each n p) (p (suc n)) (each_all n p (λ x h g. f x h (omega arith))) (f (suc n) (omega arith) (omega arith))

pub all_of_some : (l : List ℕ) (p : ℕ → Bool) (s : Set) → all_of l p ≡ true → some l s ≡ true → (m : ℕ) × (p m ≡ true) × (s m ≡ true)
unfolding all_of some
all_of_some [] p s e q = absurd (false≢true q)
all_of_some (x ∷ l) p s e q =
    elim (or_either (s x) (some l s) q) [
      | inl h ↦ (x, and_left (p x) (all_of l p) e, h)
      | inr h ↦ all_of_some l p s (and_right (p x) (all_of l p) e) h
    ]

-- What the tests say of a file that loads.
module _ (f : List ℕ) (loads : refusal f ≡ 0) where
  known : kind_known (kind f) ≡ true
  unfolding cause kind_unknown
  known = not-false (kind_known (kind f)) (passes f loads 2)

  within : over_limit f ≡ false
  unfolding cause
  within = passes f loads 3

  pub long : length f ≡ full_length f
  unfolding cause wrong_length
  long = eqb-true (length f) (full_length f) (not-false (eqb (length f) (full_length f)) (passes f loads 4))

  pub legal_events : each (events f) (event_legal f) ≡ true
  unfolding cause bad_event
  legal_events = not-false _ (passes f loads 5)

  pub legal_event : (e : ℕ) → 1 ≤ e → e ≤ events f → event_legal f e ≡ true
  legal_event = each_at (events f) (event_legal f) legal_events

  pub threads_sound_lem : threads_sound f ≡ true
  unfolding cause bad_threads
  threads_sound_lem = not-false _ (passes f loads 6)

  pub thread_length : (t : ℕ) → t < threads → length (thread f t) ≤ most_in_thread (side f)
  unfolding cause long_thread too_long
  thread_length t h =
      ltb-false (most_in_thread (side f)) (length (thread f t)) (is_false (too_long f t) (λ p.
      false≢true (sym (passes f loads 13) ∙ some_complete (below threads) (too_long f) t (mem_below threads t h) p)))

  pub links_sound_lem : links_sound f ≡ true
  unfolding cause bad_chains
  links_sound_lem = not-false _ (passes f loads 7)

  pub links_legal : (b : ℕ) → 1 ≤ b → b ≤ events f → all_of (links_into f b) (link_sound f b) && one_source (decode f) b ≡ true
  unfolding cause bad_link links_sound_at
  links_legal = each_at (events f) (links_sound_at f) (not-false _ (passes f loads 8))

  -- A link of the recording is legal.
  pub legal_link : (t x b : ℕ) → (decode f).link t x b ≡ true → link_legal (decode f) (side f) t x b ≡ true
  unfolding decode link_sound
  legal_link t x b e =
      let here : Set = λ m. eqb (link_byte f m 1) t && eqb (link_byte f m 2) x in
      let r = recorded_bounds f b (and_left (is_recorded f b) (some (links_into f b) here) e) in
      let all = and_left (all_of (links_into f b) (link_sound f b)) (one_source (decode f) b) (links_legal b r.0 r.1) in
      let w = all_of_some (links_into f b) (link_sound f b) here all (and_right (is_recorded f b) (some (links_into f b) here) e) in
      let m = w.0 in
      let type = eqb-true (link_byte f m 1) t (and_left (eqb (link_byte f m 1) t) (eqb (link_byte f m 2) x) w.2) in
      let source = eqb-true (link_byte f m 2) x (and_right (eqb (link_byte f m 1) t) (eqb (link_byte f m 2) x) w.2) in
      sym (ap (λ (n : ℕ). link_legal (decode f) (side f) t n b) source) ∙ sym (ap (λ (n : ℕ). link_legal (decode f) (side f) n (link_byte f m 2) b) type)
      ∙ and_left (link_legal (decode f) (side f) (link_byte f m 1) (link_byte f m 2) b) (eqb (link_byte f m 3) 0) w.1

  pub sized : Sized f
  sized = sized_of f within long

-- A source file that loads.
pub source_limits : (f : List ℕ) → LoadsAs source f → (events f ≤ 32) × (locations f ≤ 8) × (links f ≤ 200)
unfolding by_side
source_limits f s =
    let w = limits f (within f s.loads) in
    (rw (ap most_events s.side_is) at w.0, w.1, rw (ap most_links s.side_is) at w.2)

pub source_thread : (f : List ℕ) → LoadsAs source f → (t : ℕ) → t < threads → length (thread f t) ≤ most_in_thread source
source_thread f s t h = rw s.side_is at (thread_length f s.loads t h)

-- The kinds of the sides: a file that loads as source has kind 1, and one that loads as chip has kind 2.
pub source_kind : (f : List ℕ) → LoadsAs source f → kind f ≡ 1
unfolding side_of
source_kind f s = eqb-true (kind f) 1 s.side_is

pub chip_kind : (f : List ℕ) → LoadsAs chip f → kind f ≡ 2
unfolding side_of kind_known
chip_kind f s =
    elim (or_either (eqb (kind f) 1) (eqb (kind f) 2) (known f s.loads)) [
      | inl e ↦ absurd (false≢true (sym s.side_is ∙ e))
      | inr e ↦ eqb-true (kind f) 2 e
    ]

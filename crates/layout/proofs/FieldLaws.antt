-- Laws of reading a file: each test and field of the code is that of its definition.
use mathlib.Core.Path.{◌≡◌, refl, sym, ap, ◌∙◌}
use mathlib.Core.Bool.{Bool, true, false, ◌&&◌, ◌||◌}
use mathlib.Core.List.{List}
use mathlib.Core.Logic.{inl, inr}
use Prim.Native.Nat.{ℕ, ◌+◌, ◌-◌, ◌<◌, ◌≤◌}
use native.Mathlib.Omega.{arith}
use borrow.Author.Tests.{le-leb, lt-leb, leb-true, ltb-true, eq-eqb, ne_eqb, eqb-true}
use borrow.Author.Rules.{rules}
use lib.Dec.{leb, ltb, eqb}
use Rattle.relation.proofs.Truth.{and_left, and_right, or_either}
use Rattle.models.specs.Recording.{Recording, event, of_class}
use Rattle.layout.specs.Layout.{byte, Side, by_side, most_events, most_links, most_in_thread, events, event_byte, first_initial, locations, Sized}
use Rattle.layout.specs.Chains.{next_of, next_event}
use Rattle.layout.specs.Decode.{is_recorded, is_initial, record_or, field_or, decode}

-- A test by `&&` or `||` in the code, from the tests on its two sides.
pub and_yes : (a b s t : Bool) → a ≡ s → a ≡ true → b ≡ t → b ≡ s && t
and_yes a b s t p q e = e ∙ ap (λ (x : Bool). x && t) (sym q ∙ p)

pub and_no : (a s t : Bool) → a ≡ s → a ≡ false → a ≡ s && t
and_no a s t p q = q ∙ ap (λ (x : Bool). x && t) (sym q ∙ p)

pub or_yes : (a s t : Bool) → a ≡ s → a ≡ true → a ≡ s || t
or_yes a s t p q = q ∙ ap (λ (x : Bool). x || t) (sym q ∙ p)

pub or_no : (a b s t : Bool) → a ≡ s → a ≡ false → b ≡ t → b ≡ s || t
or_no a b s t p q e = e ∙ ap (λ (x : Bool). x || t) (sym q ∙ p)

pub is_number : (k a b : ℕ) → a ≡ b → eqb a k ≡ eqb b k
is_number k a b p = ap (λ (x : ℕ). eqb x k) p

-- What `search` is handed where a function answers a definition test by test.
pub ruleset tests = (rules, and_yes, and_no, or_yes, or_no, is_number, eq-eqb, ne_eqb, le-leb, lt-leb)

-- A limit of either side is at most the larger, and the limits by name.
by_side_most : (a b : ℕ) (s : Side) → a ≤ b → by_side a b s ≤ b
unfolding by_side
by_side_most a b true h = h
by_side_most a b false h = omega arith

pub most_events_48 : (s : Side) → most_events s ≤ 48
most_events_48 s = by_side_most 32 48 s (omega arith)

pub most_links_255 : (s : Side) → most_links s ≤ 255
most_links_255 s = by_side_most 200 255 s (omega arith)

pub most_in_thread_18 : (s : Side) → most_in_thread s ≤ 18
most_in_thread_18 s = by_side_most 12 18 s (omega arith)

-- Recorded events.
pub recorded_yes : (f : List ℕ) (e n : ℕ) → n ≡ events f → 1 ≤ e → leb e n ≡ is_recorded f e
unfolding is_recorded
recorded_yes f e n p h = and_yes true (leb e n) (leb 1 e) (leb e (events f)) (sym (le-leb 1 e h)) refl (ap (leb e) p)

pub recorded_no : (f : List ℕ) (e : ℕ) → e < 1 → leb 1 e ≡ is_recorded f e
unfolding is_recorded
recorded_no f e h = and_no (leb 1 e) (leb 1 e) (leb e (events f)) refl (lt-leb 1 e h)

pub recorded_bounds : (f : List ℕ) (e : ℕ) → is_recorded f e ≡ true → (1 ≤ e) × (e ≤ events f)
unfolding is_recorded
recorded_bounds f e p =
    (leb-true 1 e (and_left (leb 1 e) (leb e (events f)) p), leb-true e (events f) (and_right (leb 1 e) (leb e (events f)) p))

pub recorded_is : (f : List ℕ) (e : ℕ) → 1 ≤ e → e ≤ events f → is_recorded f e ≡ true
recorded_is f e h g = sym (recorded_yes f e (events f) refl h) ∙ le-leb e (events f) g

-- Initial writes.
pub initial_yes : (f : List ℕ) (e : ℕ) → 56 ≤ e → ltb e (56 + locations f) ≡ is_initial f e
unfolding is_initial
initial_yes f e h = and_yes true (ltb e (56 + locations f)) (leb 56 e) (ltb e (56 + locations f)) (sym (le-leb 56 e h)) refl refl

pub initial_no : (f : List ℕ) (e : ℕ) → e < 56 → leb 56 e ≡ is_initial f e
unfolding is_initial
initial_no f e h = and_no (leb 56 e) (leb 56 e) (ltb e (56 + locations f)) refl (lt-leb 56 e h)

pub initial_bounds : (f : List ℕ) (e : ℕ) → is_initial f e ≡ true → (56 ≤ e) × (e < 56 + locations f)
unfolding is_initial
initial_bounds f e p =
    (leb-true 56 e (and_left (leb 56 e) (ltb e (56 + locations f)) p), ltb-true e (56 + locations f) (and_right (leb 56 e) (ltb e (56 + locations f)) p))

pub initial_below : (f : List ℕ) (e : ℕ) → e < 56 → is_initial f e ≡ false
initial_below f e h = sym (initial_no f e h) ∙ lt-leb 56 e h

-- Fields, by the three cases of `record_or`.
module _ (f : List ℕ) (given recorded : ℕ → ℕ) (e : ℕ) where
  pub record_initial : 56 ≤ e → given e ≡ record_or f given recorded e
  unfolding record_or
  record_initial h = rw (le-leb 56 e h, record_or)

  pub record_recorded : e < 56 → is_recorded f e ≡ true → recorded e ≡ record_or f given recorded e
  unfolding record_or
  record_recorded h p = rw (lt-leb 56 e h, record_or) (rw p)

  pub record_none : e < 56 → is_recorded f e ≡ false → 0 ≡ record_or f given recorded e
  unfolding record_or
  record_none h p = rw (lt-leb 56 e h, record_or) (rw p)

pub field_initial : (f : List ℕ) (k given e : ℕ) → 56 ≤ e → given ≡ field_or f k given e
unfolding field_or
field_initial f k given e = record_initial f (λ x. given) (λ x. event_byte f x k) e

pub field_recorded : (f : List ℕ) (k given e b : ℕ) → e < 56 → b ≡ event_byte f e k → is_recorded f e ≡ true → b ≡ field_or f k given e
unfolding field_or
field_recorded f k given e b h p q = p ∙ record_recorded f (λ x. given) (λ x. event_byte f x k) e h q

pub field_none : (f : List ℕ) (k given e : ℕ) → e < 56 → is_recorded f e ≡ false → 0 ≡ field_or f k given e
unfolding field_or
field_none f k given e = record_none f (λ x. given) (λ x. event_byte f x k) e

pub location_initial : (f : List ℕ) (e : ℕ) → 56 ≤ e → e - 56 ≡ (decode f).location e
unfolding decode
location_initial f e h = record_initial f (λ x. x - first_initial) (λ x. event_byte f x 4) e h

-- Below 56 what an initial write would have does not matter.
pub location_recorded : (f : List ℕ) (e b : ℕ) → e < 56 → b ≡ field_or f 4 0 e → b ≡ (decode f).location e
unfolding decode field_or
location_recorded f e b h p = p ∙ same (is_recorded f e) refl
  where
    here : ℕ → ℕ
    here x = event_byte f x 4

    same : (c : Bool) → is_recorded f e ≡ c → record_or f (λ x. 0) here e ≡ record_or f (λ x. x - first_initial) here e
    same true q = sym (record_recorded f (λ x. 0) here e h q) ∙ record_recorded f (λ x. x - first_initial) here e h q
    same false q = sym (record_none f (λ x. 0) here e h q) ∙ record_none f (λ x. x - first_initial) here e h q

-- Events are numbered below 64.
pub event_small : (f : List ℕ) (e : ℕ) → Sized f → event (decode f) e ≡ true → e < 64
unfolding event decode
event_small f e s p =
    elim (or_either (is_initial f e) (is_recorded f e) p) [
      | inl q ↦ let (a, b) = initial_bounds f e q in omega (arith, s.most_locations)
      | inr q ↦ let (a, b) = recorded_bounds f e q in omega (arith, s.most_events)
    ]

pub class_small : (f : List ℕ) (k e : ℕ) → Sized f → of_class (decode f) k e ≡ true → e < 64
unfolding of_class
class_small f k e s p = event_small f e s (and_left (event (decode f) e) _ p)

-- What is of a class is an event, and has that class.
pub class_event : (r : Recording ℕ) (k e : ℕ) → of_class r k e ≡ true → event r e ≡ true
unfolding of_class
class_event r k e p = and_left (event r e) (eqb (r.class e) k) p

pub class_is : (r : Recording ℕ) (k e : ℕ) → of_class r k e ≡ true → r.class e ≡ k
unfolding of_class
class_is r k e p = eqb-true (r.class e) k (and_right (event r e) (eqb (r.class e) k) p)

-- The first byte of a record is the number that follows on its chain.
pub next_first : (f : List ℕ) (a : ℕ) → event_byte f a 0 ≡ next_event f a
unfolding next_of
next_first f a = ap (byte f) (omega arith)

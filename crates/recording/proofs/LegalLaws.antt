-- Laws of what records may say.
use mathlib.Core.Path.{◌≡◌, sym, ap, subst, ◌∙◌}
use mathlib.Core.Bool.{Bool, true, false, not}
use mathlib.Core.List.{List}
use mathlib.Core.Logic.{inl, inr}
use Prim.Native.Nat.{ℕ, ◌<◌}
use native.Mathlib.Omega.{arith}
use borrow.Author.Tests.{ltb-true, eq-eqb, ne_eqb, lt-ltb, le-ltb}
use lib.Dec.{eqb, ltb}
use Rattle.relation.proofs.Truth.{and_right, or_either}
use Rattle.models.specs.Recording.{event, of_class, access}
use Rattle.layout.specs.Layout.{Side, events, locations, event_byte, Sized}
use Rattle.layout.specs.Chains.{each, next_event}
use Rattle.layout.specs.Decode.{is_recorded, is_initial, decode}
use Rattle.reading.specs.Sets.{Located}
use Rattle.layout.proofs.FieldLaws.{tests, recorded_bounds, initial_bounds, location_initial, class_event, class_is, next_first}
use Rattle.layout.proofs.ChainLaws.{each_at}
use Rattle.recording.specs.Causes.{read_legal, write_legal, legal, event_legal}

-- What the code's tests of numbers say of a recording.
pub other_yes : (a b : ℕ) → (a ≡ b → ⊥) → true ≡ not (eqb a b)
other_yes a b d = ap not (sym (ne_eqb a b d))

pub other_no : (a b : ℕ) → a ≡ b → false ≡ not (eqb a b)
other_no a b e = ap not (sym (eq-eqb a b e))

pub recorded_read : (f : List ℕ) (b : ℕ) (x : Bool) → x ≡ is_recorded f b → x ≡ (decode f).recorded b
unfolding decode
recorded_read f b x e = e

pub next_read : (f : List ℕ) (a b n : ℕ) → n ≡ event_byte f a 0 → eqb n b ≡ eqb (next_event f a) b
next_read f a b n e = ap (λ (x : ℕ). eqb x b) (e ∙ next_first f a)

pub ruleset legal_tests = (tests, other_yes, other_no, recorded_read, next_read, lt-ltb, le-ltb)

-- In a file whose events are legal, reads and writes have one of its locations.
module _ (s : Side) (L class mode flag location value : ℕ) (legal-numbers : legal s L class mode flag location value ≡ true) where
  legal_as : (c : ℕ) → class ≡ c → legal s L c mode flag location value ≡ true
  legal_as c e = subst (λ (x : ℕ). legal s L x mode flag location value ≡ true) e legal-numbers

  legal_read_location : class ≡ 1 → location < L
  unfolding legal
  legal_read_location e = ltb-true location L (and_right (read_legal mode flag) (ltb location L) (legal_as 1 e))

  legal_write_location : class ≡ 2 → location < L
  unfolding legal
  legal_write_location e = ltb-true location L (and_right (write_legal s mode flag) (ltb location L) (legal_as 2 e))

module _ (f : List ℕ) (s : Sized f) (legal_events : each (events f) (event_legal f) ≡ true) where
  recorded_legal : (e : ℕ) → is_recorded f e ≡ true → event_legal f e ≡ true
  recorded_legal e p = let (a, b) = recorded_bounds f e p in each_at (events f) (event_legal f) legal_events e a b

  initial_location : (e : ℕ) → is_initial f e ≡ true → (decode f).location e < locations f
  initial_location e p = (let (h, g) = initial_bounds f e p in omega (arith, location_initial f e h))

  class_location : (k e : ℕ) → of_class (decode f) k e ≡ true → (is_recorded f e ≡ true → (decode f).location e < locations f) → (decode f).location e < locations f
  unfolding event decode
  class_location k e p g =
      elim (or_either (is_initial f e) (is_recorded f e) (class_event (decode f) k e p)) [ inl q ↦ initial_location e q | inr q ↦ g q ]

  access_location : (e : ℕ) → access (decode f) e ≡ true → (decode f).location e < locations f
  unfolding access event_legal
  access_location e p =
      elim (or_either (of_class (decode f) 1 e) (of_class (decode f) 2 e) p) [
        | inl q ↦ class_location 1 e q (λ r. legal_read_location _ _ _ _ _ _ _ (recorded_legal e r) (class_is (decode f) 1 e q))
        | inr q ↦ class_location 2 e q (λ r. legal_write_location _ _ _ _ _ _ _ (recorded_legal e r) (class_is (decode f) 2 e q))
      ]

  pub accesses_located : Located f
  accesses_located e p = omega (arith, access_location e p, s.most_locations)

-- Two files that differ in their numbering only, so that the definition is not too narrow: 01's strong release pair before a write, and the
-- same with other numbers of events and threads, links in another order, and two of them twice. What can be evaluated is.
use mathlib.Core.Path.{◌≡◌, refl, sym, ap, ap₂, ◌∙◌}
use mathlib.Core.Bool.{Bool, true, ◌&&◌, ◌||◌}
use mathlib.Core.List.{List, [], ◌∷◌}
use Prim.Native.Nat.{ℕ, ◌<◌, ◌≤◌}
use native.Mathlib.Omega.{arith}
use native.Mathlib.Decide.{dec_lt}
use borrow.Author.Tests.{eqb-true, eq-eqb}
use lib.Dec.{eqb, ltb}
use lib.ListN.{length, get_or, get_or-eq_default}
use Rattle.relation.specs.Rel.{Set, some, below}
use Rattle.relation.proofs.Truth.{same_test, and_left, and_right, and_both}
use Rattle.relation.proofs.Meaning.{some_sound, some_complete, mem_below}
use Rattle.models.specs.Rules.{first}
use Rattle.layout.specs.Layout.{events, link_byte, threads}
use Rattle.layout.specs.Chains.{each, all_of, follow, next_of, start_of, head, links_into}
use Rattle.layout.specs.Decode.{is_recorded, decode}
use Rattle.layout.proofs.ChainLaws.{each_at}
use Rattle.layout.proofs.FieldLaws.{recorded_bounds}
use Rattle.recording.specs.Causes.{refusal}
use Rattle.recording.proofs.Accepted.{all_of_some}
use Rattle.translation.specs.Contents.{contents}
use Rattle.litmus.specs.Table.{strong_pair}
use Rattle.litmus.proofs.EvaluatedLoading.{evaluated, passes_loads}
use Rattle.numbering.specs.Numbering.{Renumbering, numbers_to, Renumbered}
use Rattle.numbering.proofs.Renumberings.{recorded_moved, within, reversed, numbers_fewer}

-- Every number below n passes the test.
abbrev Every : ℕ → (ℕ → Bool) → Type 0
Every n p = all_of (below n) p ≡ true

passes : (n : ℕ) (p : ℕ → Bool) → Every n p → (x : ℕ) → x < n → p x ≡ true
passes n p all x h =
    let (y, q, e) = all_of_some (below n) p (eqb x) all (some_complete (below n) (eqb x) x (mem_below n x h) (eq-eqb x x refl)) in
    ap p (eqb-true x y e) ∙ q

-- A renumbering by tables of new and old numbers, which have n; what is beyond them stays.
unfoldable at : List ℕ → ℕ → ℕ
at l x = get_or l x x

module _ (s : Set) (n : ℕ) (new old : List ℕ) (h : length new ≤ n) (g : length old ≤ n) where
  beyond : (l : List ℕ) → length l ≤ n → (x : ℕ) → ¬ (x < n) → at l x ≡ x
  unfolding at
  beyond l h x k = get_or-eq_default l x (omega (arith, h, k))

  turned : (k l : List ℕ) → length k ≤ n → length l ≤ n → Every n (λ x. eqb (at l (at k x)) x) → (x : ℕ) → at l (at k x) ≡ x
  turned k l h g every x = elim (dec_lt x n) [
    | yes i ↦ eqb-true (at l (at k x)) x (passes n (λ y. eqb (at l (at k y)) y) every x i)
    | no i ↦ ap (at l) (beyond k h x i) ∙ beyond l g x i
  ]

  tabled : Every n (λ x. eqb (at old (at new x)) x) → Every n (λ x. eqb (at new (at old x)) x) → Every n (λ x. s x || eqb (at new x) x) → Renumbering s
  tabled p q r = record {
    to = at new;
    back = at old;
    back_to = turned new old h g p;
    to_back = turned old new g h q;
    others = λ x e. elim (dec_lt x n) [
      | yes i ↦ eqb-true (at new x) x (ap (λ (b : Bool). b || eqb (at new x) x) (sym e) ∙ passes n (λ y. s y || eqb (at new y) y) r x i)
      | no i ↦ beyond new h x i
    ];
  }

-- Each link into b of f is a link of g between the new numbers.
module _ (f g : List ℕ) (to : ℕ → ℕ) where
  unfoldable matches : ℕ → ℕ → Bool
  matches m k = eqb (link_byte g k 1) (link_byte f m 1) && eqb (link_byte g k 2) (to (link_byte f m 2))

  unfoldable carried : ℕ → Bool
  carried b = all_of (links_into f b) (λ m. some (links_into g (to b)) (matches m))

module _ (f g : List ℕ) (n : Renumbering (numbers_to (events f))) (same : events g ≡ events f) (all : each (events f) (carried f g n.to) ≡ true) where
  -- Link m of a file is of type t and comes from a.
  abbrev is_from : List ℕ → ℕ → ℕ → ℕ → Bool
  is_from x t a m = eqb (link_byte x m 1) t && eqb (link_byte x m 2) a

  both_equal : (w x y z : ℕ) → eqb w x && eqb y z ≡ true → (w ≡ x) × (y ≡ z)
  both_equal w x y z p = (eqb-true w x (and_left (eqb w x) (eqb y z) p), eqb-true y z (and_right (eqb w x) (eqb y z) p))

  links_there : (t a b : ℕ) → (decode f).link t a b ≡ true → (decode g).link t (n.to a) (n.to b) ≡ true
  unfolding decode matches carried
  links_there t a b p =
      let r = and_left (is_recorded f b) (some (links_into f b) (is_from f t a)) p in
      let h = recorded_bounds f b r in
      let l = links_into g (n.to b) in
      let (m, q, e) = all_of_some (links_into f b) (λ m. some l (matches f g n.to m)) (is_from f t a) (each_at (events f) (carried f g n.to) all b h.0 h.1) (and_right (is_recorded f b) (some (links_into f b) (is_from f t a)) p) in
      let (k, i, d) = some_sound l (matches f g n.to m) q in
      let (u, v) = both_equal (link_byte f m 1) t (link_byte f m 2) a e in
      let (x, y) = both_equal (link_byte g k 1) (link_byte f m 1) (link_byte g k 2) (n.to (link_byte f m 2)) d in
      let found = and_both (eqb (link_byte g k 1) t) (eqb (link_byte g k 2) (n.to a)) (eq-eqb _ _ (x ∙ u)) (eq-eqb _ _ (y ∙ ap n.to v)) in
      and_both (is_recorded g (n.to b)) (some l (is_from g t (n.to a))) (recorded_moved f g n same b ∙ r) (some_complete l (is_from g t (n.to a)) k i found)

-- Both ways.
links_same : (f g : List ℕ) (n : Renumbering (numbers_to (events f))) → events g ≡ events f
    → each (events f) (carried f g n.to) ≡ true → each (events g) (carried g f n.back) ≡ true
    → (t a b : ℕ) → (decode g).link t (n.to a) (n.to b) ≡ (decode f).link t a b
unfolding within reversed
links_same f g n same there back t a b =
    let m = within (reversed n) (numbers_to (events g)) (numbers_fewer (events f) (events g) (omega (arith, same))) in
    same_test _ _
    (λ p. sym (ap₂ ((decode f).link t) (n.back_to a) (n.back_to b)) ∙ links_there g f m (sym same) back t (n.to a) (n.to b) p)
    (links_there f g n same there t a b)

-- The same number of each of n records.
field_same : (n : ℕ) (p q : ℕ → ℕ) → each n (λ e. eqb (q e) (p e)) ≡ true → (e : ℕ) → 1 ≤ e → e ≤ n → q e ≡ p e
field_same n p q all e h g = eqb-true (q e) (p e) (each_at n (λ x. eqb (q x) (p x)) all e h g)

-- 2: R y 1 (rf 4, twice); 6: W z 1 (data 2, twice) | 1: R z 1 (rf 6); 3: R ex x 0 (rf 56); 5: W rel strong x 1 (rmw 3); 4: W y 1,
-- on threads 2 and 4.
unfoldable pub other : List ℕ
other =
    1 ∷ 6 ∷ 3 ∷ 7 ∷ 0 ∷ 2 ∷ 0 ∷ 1
    ∷ 3 ∷ 1 ∷ 0 ∷ 0 ∷ 2 ∷ 1 ∷ 0 ∷ 5
    ∷ 6 ∷ 1 ∷ 0 ∷ 0 ∷ 1 ∷ 1 ∷ 0 ∷ 6
    ∷ 5 ∷ 1 ∷ 0 ∷ 1 ∷ 0 ∷ 0 ∷ 0 ∷ 4
    ∷ 0 ∷ 2 ∷ 0 ∷ 0 ∷ 1 ∷ 1 ∷ 0 ∷ 0
    ∷ 4 ∷ 2 ∷ 2 ∷ 1 ∷ 0 ∷ 1 ∷ 0 ∷ 7
    ∷ 0 ∷ 2 ∷ 0 ∷ 0 ∷ 2 ∷ 1 ∷ 0 ∷ 2
    ∷ 0 ∷ 4 ∷ 2 ∷ 0
    ∷ 1 ∷ 4 ∷ 2 ∷ 0
    ∷ 0 ∷ 1 ∷ 4 ∷ 0
    ∷ 0 ∷ 1 ∷ 56 ∷ 0
    ∷ 0 ∷ 1 ∷ 6 ∷ 0
    ∷ 3 ∷ 1 ∷ 4 ∷ 0
    ∷ 0 ∷ 3 ∷ 3 ∷ 0
    ∷ []

abbrev pub one : List ℕ
one = strong_pair.bytes

unfoldable new_numbers : List ℕ
new_numbers = 0 ∷ 2 ∷ 6 ∷ 1 ∷ 3 ∷ 5 ∷ 4 ∷ []

unfoldable new_threads : List ℕ
new_threads = 1 ∷ 3 ∷ 2 ∷ 0 ∷ []

one_loads : refusal one ≡ 0
unfolding first evaluated strong_pair
one_loads = passes_loads one refl

other_loads : refusal other ≡ 0
unfolding first evaluated other
other_loads = passes_loads other refl

numbers : Renumbering (numbers_to (events one))
unfolding at numbers_to all_of below strong_pair new_numbers
numbers = tabled (numbers_to (events one)) 7 new_numbers (0 ∷ 3 ∷ 1 ∷ 4 ∷ 6 ∷ 5 ∷ 2 ∷ []) (omega arith) (omega arith) refl refl refl

threads_moved : Renumbering (λ t. ltb t threads)
unfolding at all_of below new_threads
threads_moved = tabled (λ t. ltb t threads) 4 new_threads (3 ∷ 0 ∷ 2 ∷ 1 ∷ []) (omega arith) (omega arith) refl refl refl

pub example : Renumbered one other
unfolding contents numbers threads_moved tabled at each all_of below some matches carried follow next_of start_of strong_pair other new_numbers new_threads
example = record {
  loads = one_loads;
  loads_too = other_loads;
  renumbers = record {
    kind = refl;
    events = refl;
    locations = refl;
    event = numbers;
    thread = threads_moved;
    head = λ t h. eqb-true _ _ (passes 4 (λ t. eqb (head other (at new_threads t)) (at new_numbers (head one t))) refl t h);
    next = field_same 6 (λ e. at new_numbers ((contents one).next e)) (λ e. (contents other).next (at new_numbers e)) refl;
    class = field_same 6 (contents one).class (λ e. (contents other).class (at new_numbers e)) refl;
    mode = field_same 6 (contents one).mode (λ e. (contents other).mode (at new_numbers e)) refl;
    flag = field_same 6 (contents one).flag (λ e. (contents other).flag (at new_numbers e)) refl;
    location = field_same 6 (contents one).location (λ e. (contents other).location (at new_numbers e)) refl;
    low = field_same 6 (contents one).low (λ e. (contents other).low (at new_numbers e)) refl;
    high = field_same 6 (contents one).high (λ e. (contents other).high (at new_numbers e)) refl;
    link = links_same one other numbers refl refl refl;
  };
}

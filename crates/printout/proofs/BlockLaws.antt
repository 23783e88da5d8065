-- Laws of a block: the members of a ring as a row, what is legal is shown by one digit each, and the columns of a block.
use mathlib.Core.Path.{◌≡◌, refl, sym, ap, ap₂, ◌∙◌}
use mathlib.Core.Bool.{Bool, true, false, ◌&&◌, ◌||◌, false≢true, or-false}
use mathlib.Core.List.{List, [], ◌∷◌, ◌++◌, append-nil}
use mathlib.Core.Logic.{inl, inr}
use Prim.Native.Nat.{ℕ, zero, suc, ◌+◌, ◌%◌, ◌<◌, ◌≤◌}
use native.Mathlib.Numerals.{add-one}
use native.Mathlib.Omega.{arith}
use native.Mathlib.Decide.{ℕ_discrete}
use borrow.Author.Tests.{eqb-true, eq-eqb, ne_eqb, leb-true, ltb-true}
use lib.Dec.{eqb, ltb}
use lib.ListN.{length, get_or, take, drop}
use lib.Seq.{take-suc, take_all}
use Rattle.relation.specs.Rel.{Set, empty, single, union}
use Rattle.relation.specs.Bits.{bit}
use Rattle.relation.proofs.Truth.{and_left, and_right, or_either}
use Rattle.models.specs.Recording.{Recording}
use Rattle.layout.specs.Layout.{Side, side, events, locations}
use Rattle.layout.specs.Chains.{among}
use Rattle.layout.specs.Decode.{decode}
use Rattle.layout.proofs.ChainFacts.{among_append}
use Rattle.reading.proofs.GraphLaws.{eqb_swap}
use Rattle.recording.specs.Causes.{read_legal, write_legal, fence_mode, fence_legal, legal, event_legal, refusal}
use Rattle.recording.proofs.Accepted.{legal_event, sized}
use Rattle.decimal.specs.Decimal.{digit, spaces, aligned, column}
use Rattle.decimal.proofs.DecimalLaws.{columns2, columns5}
use Rattle.printout.specs.Page.{letter, place, star, block}
use Rattle.printout.specs.Table.{Members}

-- A number that a row has no bit for adds nothing.
pub no_bit_more : (row : List ℕ) (e : ℕ) → 64 ≤ e → (j : ℕ) → j < 64 → bit row j ≡ union (bit row) (single e) j
unfolding union single
no_bit_more row e h j g = sym (ap (λ (b : Bool). bit row j || b) (ne_eqb e j (λ p. omega arith)) ∙ or-false (bit row j))

-- The members of the first k of a ring.
pub members_none : (row : List ℕ) → bit row ≡ empty → Members [] row
unfolding among empty
members_none row e = record { each = λ j h. ap (λ (s : Set). s j) e }

pub members_more : (ring row more : List ℕ) (k : ℕ) → k < length ring → Members (take k ring) row
    → ((j : ℕ) → j < 64 → bit more j ≡ union (bit row) (single (get_or ring k 0)) j) → Members (take (k + 1) ring) more
unfolding among union single
members_more ring row more k h w e =
    record {
      each = λ j g. e j g ∙ ap₂ ◌||◌ (w.each j g) (turned (get_or ring k 0) j)
          ∙ sym (among_append j (take k ring) (get_or ring k 0 ∷ []))
          ∙ ap (among j) (sym (take-suc ring k 0 h) ∙ ap (λ (n : ℕ). take n ring) (sym (add-one k)));
    }
  where
    turned : (x j : ℕ) → eqb x j ≡ eqb j x || false
    turned x j = eqb_swap x j ∙ sym (or-false (eqb j x))

pub members_all : (ring row : List ℕ) (k : ℕ) → length ring ≤ k → Members (take k ring) row → Members ring row
members_all ring row k h w = record { each = λ j g. w.each j g ∙ ap (among j) (take_all k ring h) }

-- What is legal has one digit each.
pub record OneDigit (class mode flag location : ℕ) : Type 0 where
  pub few_classes : class ≤ 3
  pub few_modes : mode ≤ 7
  pub few_flags : flag ≤ 1
  pub few_locations : location ≤ 7

module _ (s : Side) (L mode flag location value : ℕ) (few : L ≤ 8) where
  read_digits : read_legal mode flag && ltb location L ≡ true → OneDigit 1 mode flag location
  unfolding read_legal
  read_digits p =
      let m : mode ≤ 1 = search (and_left, and_right, leb-true) in
      let g : flag ≤ 1 = search (and_left, and_right, leb-true) in
      let l : location < L = search (and_right, ltb-true) in
      omega arith

  write_digits : write_legal s mode flag && ltb location L ≡ true → OneDigit 2 mode flag location
  unfolding write_legal
  write_digits p =
      let l : location < L = search (and_right, ltb-true) in
      let m : mode ≤ 7 = elim (or_either (eqb mode 0) (eqb mode 2) (search (and_left, and_right))) [ inl e ↦ omega (arith, eqb-true) | inr e ↦ omega (arith, eqb-true) ] in
      let g : flag ≤ 1 = elim (or_either (eqb flag 0) (eqb flag 1 && s) (search (and_left, and_right))) [
        | inl e ↦ omega (arith, eqb-true)
        | inr e ↦ (let one : flag ≡ 1 = search (and_left, eqb-true) in omega arith)
      ] in
      omega arith

  fence_digits : fence_legal s mode flag && (eqb location 0 && eqb value 0) ≡ true → OneDigit 3 mode flag location
  unfolding fence_legal fence_mode
  fence_digits p =
      let m = modes s (search (and_left, and_right)) in
      let g : flag ≡ 0 = search (and_left, and_right, eqb-true) in
      let l : location ≡ 0 = search (and_left, and_right, eqb-true) in
      omega arith
    where
      modes : (r : Side) → fence_mode r mode ≡ true → mode ≤ 7
      modes true q = (let m : mode ≤ 4 = search (and_right, leb-true) in omega arith)
      modes false q = search (and_right, leb-true)

  one_digit : (class : ℕ) → legal s L class mode flag location value ≡ true → OneDigit class mode flag location
  unfolding legal
  one_digit zero p = absurd (false≢true p)
  one_digit (suc zero) p = read_digits p
  one_digit (suc (suc zero)) p = write_digits p
  one_digit (suc (suc (suc zero))) p = fence_digits p
  one_digit (suc (suc (suc (suc n)))) p = absurd (false≢true p)

-- So has an event of a file that loads.
pub digits_of : (f : List ℕ) (e : ℕ) → refusal f ≡ 0 → 1 ≤ e → e ≤ events f
    → OneDigit ((decode f).class e) ((decode f).mode e) ((decode f).flag e) ((decode f).location e)
unfolding event_legal
digits_of f e loads low high =
    one_digit (side f) (locations f) _ _ _ ((decode f).value e) (sized f loads).most_locations ((decode f).class e) (legal_event f loads e low high)

-- The columns.
pub letter_other : (class : ℕ) → (class ≡ 1 → ⊥) → (class ≡ 2 → ⊥) → (class ≡ 3 → ⊥) → 32 ≡ letter class
unfolding letter
letter_other zero a b c = refl
letter_other (suc zero) a b c = absurd (a refl)
letter_other (suc (suc zero)) a b c = absurd (b refl)
letter_other (suc (suc (suc zero))) a b c = absurd (c refl)
letter_other (suc (suc (suc (suc n)))) a b c = refl

module _ (stars ring : List ℕ) (e : ℕ) (low : e < 64) (w : Members ring stars) where
  pub star_shown : (b : Bool) → b ≡ bit stars e → b ≡ true → 42 ≡ star ring e
  unfolding star
  star_shown b q p = sym (rw (sym (w.each e low) ∙ sym q ∙ p, star))

  pub star_none : (b : Bool) → b ≡ bit stars e → b ≡ false → 32 ≡ star ring e
  unfolding star
  star_none b q p = sym (rw (sym (w.each e low) ∙ sym q ∙ p, star))

module _ (r : Recording ℕ) (e : ℕ) where
  pub place_fence : r.class e ≡ 3 → spaces 7 ≡ place r e
  unfolding place
  place_fence p = sym (rw (eq-eqb (r.class e) 3 p, place))

  pub place_access : (r.class e ≡ 3 → ⊥) → (value : List ℕ) → value ≡ aligned 5 (r.value e) → (l : ℕ) → l ≡ r.location e
      → digit l ∷ 32 ∷ (value ++ []) ≡ place r e
  unfolding place
  place_access d value q l p =
      sym (rw (ne_eqb (r.class e) 3 d, place, sym p) (ap (λ (v : List ℕ). digit l ∷ 32 ∷ v) (sym (append-nil value ∙ q))))

  pub place_size : length (place r e) ≡ 7
  place_size =
      elim (ℕ_discrete (r.class e) 3) [
        | yes p ↦ sym (ap length (place_fence p))
        | no d ↦ sym (ap length (place_access d _ (sym (columns5 (r.value e))) _ refl))
      ]

  pub block_is : (ring : List ℕ) {number two at : List ℕ} {c m g t : ℕ} → e < 100 → number ≡ aligned 5 e → two ≡ take 2 (drop 3 number) → at ≡ place r e
      → c ≡ letter (r.class e) → m ≡ r.mode e → g ≡ r.flag e → t ≡ star ring e
      → two ++ (32 ∷ c ∷ digit m ∷ digit g ∷ 32 ∷ (at ++ (32 ∷ t ∷ spaces 4))) ≡ block r ring e
  unfolding block
  block_is ring few en ed ep ec em eg et =
      let last = ap (λ (l : List ℕ). take 2 (drop 3 l)) (en ∙ columns5 e) ∙ sym (columns2 e few) in
      cc

-- Laws of the sets of events of a file: ranges of numbers, and events sorted by a byte of their records.
use mathlib.Core.Path.{◌≡◌, refl, sym, ap, ap₂, subst, ◌∙◌, fun_ext}
use mathlib.Core.Bool.{Bool, true, false, not, ◌&&◌, ◌||◌, or-false, and-false, and-true, or_assoc, and_comm}
use mathlib.Core.List.{List, [], ◌∷◌}
use Prim.Native.Nat.{ℕ, ◌+◌, ◌<◌, ◌≤◌}
use native.Mathlib.Omega.{arith}
use native.Mathlib.Decide.{ℕ_discrete, dec_lt}
use borrow.Author.Tests.{eq-eqb, ne_eqb, le-leb, lt-leb, lt-ltb, le-ltb}
use lib.Dec.{eqb, leb, ltb}
use lib.ListN.{get_or, set, replicate}
use Rattle.relation.specs.Rel.{Next, members, Set, empty, single, given, union, intersection, difference}
use Rattle.relation.specs.Ring.{under}
use Rattle.relation.specs.Bits.{bit}
use Rattle.relation.proofs.ByteLaws.{bit_out}
use Rattle.relation.proofs.Truth.{and_left}
use Rattle.relation.proofs.MemberLaws.{Left, First, left_all, left_next, left_none}
use Rattle.relation.proofs.SetLaws.{upto, upto_none, upto_with, upto_keep, upto_skip, upto_done}
use Rattle.models.specs.Recording.{event, of_class, of_mode, flagged}
use Rattle.layout.specs.Layout.{events, locations, event_byte, Sized}
use Rattle.layout.specs.Decode.{is_recorded, is_initial, field_or, decode}
use Rattle.reading.specs.Sets.{holding, AllRecorded, SortedBy}
use Rattle.layout.proofs.FieldLaws.{recorded_bounds, initial_bounds, field_initial, field_recorded}
use Rattle.reading.proofs.EightRows.{Eight, eight_none, eight_keep, eight_set}

-- Ranges of numbers.
not_below : (k j : ℕ) → not (ltb j k) ≡ leb k j
not_below k j = elim (dec_lt j k) [ yes h ↦ ap not (lt-ltb j k h) ∙ sym (lt-leb k j h) | no h ↦ ap not (le-ltb j k (omega (arith, h))) ∙ sym (le-leb k j (omega (arith, h))) ]

not_zero : (j : ℕ) → not (eqb 0 j) ≡ leb 1 j
not_zero j = elim (ℕ_discrete 0 j) [ yes p ↦ ap not (eq-eqb 0 j p) ∙ sym (lt-leb 1 j (omega arith)) | no d ↦ ap not (ne_eqb 0 j d) ∙ sym (le-leb 1 j (omega (arith, d))) ]

up_to : (n j : ℕ) → ltb j (n + 1) ≡ leb j n
up_to n j = elim (dec_lt n j) [ yes h ↦ le-ltb j (n + 1) (omega arith) ∙ sym (lt-leb j n h) | no h ↦ lt-ltb j (n + 1) (omega (arith, h)) ∙ sym (le-leb j n (omega (arith, h))) ]

pub recorded_range : (f : List ℕ) (n : ℕ) (s t : Set) → n ≡ events f → s ≡ under (n + 1) → t ≡ difference s (single 0) → t ≡ is_recorded f
unfolding difference single under is_recorded
recorded_range f n s t e p q =
    q ∙ ap (λ (u : Set). difference u (single 0)) p
    ∙ fun_ext (λ j. ap₂ ◌&&◌ (up_to n j ∙ ap (leb j) e) (not_zero j) ∙ and_comm (leb j (events f)) (leb 1 j))

pub initial_range : (f : List ℕ) (l : ℕ) (s t u : Set) → l ≡ locations f → s ≡ under (56 + l) → t ≡ under 56 → u ≡ difference s t → u ≡ is_initial f
unfolding difference under is_initial
initial_range f l s t u e p q w =
    w ∙ ap₂ difference p q
    ∙ fun_ext (λ j. ap₂ ◌&&◌ (ap (λ (m : ℕ). ltb j (56 + m)) e) (not_below 56 j) ∙ and_comm (ltb j (56 + locations f)) (leb 56 j))

-- The members of a row that are in s, member by member: those below e are found.
abbrev Found : Set → Set → ℕ → Set → Type 0
Found row s e t = t ≡ upto e (intersection row s)

module _ (row s : Set) (e : ℕ) where
  -- between e and n there is no member
  found_skip : {n : ℕ} → Next row e n → (t : Set) → Found row s e t → Found row s n t
  unfolding intersection
  found_skip {n} next t w = upto_skip e n (intersection row s) t next.low w (λ j a b. ap (λ (x : Bool). x && s j) (next.before j a b))

  found_with : row e ≡ true → s e ≡ true → (t u : Set) → Found row s e t → u ≡ union t (single e) → Found row s (e + 1) u
  unfolding intersection
  found_with m q t u w p = p ∙ upto_with e (intersection row s) t w (ap₂ ◌&&◌ m q)

  found_keep : s e ≡ false → (t : Set) → Found row s e t → Found row s (e + 1) t
  unfolding intersection
  found_keep q t w = upto_keep e (intersection row s) t w (ap (λ (x : Bool). row e && x) q ∙ and-false (row e))

-- The events of s by byte k of their records, member by member: of the members those from e on are left.
pub record Sorting (f : List ℕ) (s : Set) (k : ℕ) (h : List (List ℕ)) (others : List ℕ) : Type 0 where
  pub e : ℕ
  pub left : Left s e others
  pub rows : Eight (λ v t. Found s (holding f k v) e t) h

pub sorting_start : (f : List ℕ) (s : Set) (k : ℕ) (r : List ℕ) → bit r ≡ empty → {l : List ℕ} → l ≡ members s → Sorting f s k (replicate 8 r) l
sorting_start f s k r p e = record { e = 0; left = subst (Left s 0) (sym e) (left_all s); rows = eight_none r p (λ v. upto_none (intersection s (holding f k v))) }

module _ (f : List ℕ) {s : Set} (k : ℕ) {h : List (List ℕ)} {left : List ℕ} (w : Sorting f s k h left) where
  module _ {m : ℕ} {more : List ℕ} (e : left ≡ m ∷ more) where
    first : First s w.e m more
    first = left_next w.left e

    pub sorting_recorded : AllRecorded f s → (1 ≤ m) × (m ≤ events f)
    sorting_recorded all = recorded_bounds f m (all m first.member)

    module _ {x : ℕ} (at : x ≡ event_byte f m k) where
      pub sorting_with : (r : List ℕ) → x < 8 → bit r ≡ union (bit (get_or h x [])) (single m) → Sorting f s k (set h x r) more
      unfolding holding
      sorting_with r i p =
          record {
            e = m + 1;
            left = first.left;
            rows = eight_set w.rows x r i
                (found_with s (holding f k x) m first.member (eq-eqb (event_byte f m k) x (sym at)) _ _ (found_skip s (holding f k x) w.e first.next _ (w.rows.row x i)) p)
                (λ v j d t q. found_keep s (holding f k v) m (ne_eqb (event_byte f m k) v (λ z. d (at ∙ z))) t (found_skip s (holding f k v) w.e first.next t q));
          }

      pub sorting_keep : 8 ≤ x → Sorting f s k h more
      unfolding holding
      sorting_keep i =
          record {
            e = m + 1;
            left = first.left;
            rows = eight_keep w.rows
                (λ v j t q. found_keep s (holding f k v) m (ne_eqb (event_byte f m k) v (λ z. omega (arith, at))) t (found_skip s (holding f k v) w.e first.next t q));
          }

pub sorting_all : {f : List ℕ} (row : List ℕ) {k : ℕ} {h : List (List ℕ)} {left : List ℕ} → left ≡ [] → Sorting f (bit row) k h left → SortedBy f (bit row) k h
unfolding intersection
sorting_all {f} row {k} e w =
    record {
      long = w.rows.long;
      row = λ v i. upto_done 64 64 (intersection (bit row) (holding f k v)) _ (omega arith)
          (found_skip (bit row) (holding f k v) w.e (left_none w.left e) _ (w.rows.row v i))
          (λ j g. ap (λ (x : Bool). x && holding f k v j) (bit_out row j g));
    }

-- What is sorted has a record, where all that was to sort has one.
sorted_recorded : (f : List ℕ) (s : Set) (k : ℕ) (rows : List (List ℕ)) → AllRecorded f s → SortedBy f s k rows → (v : ℕ) → v < 8 → AllRecorded f (bit (get_or rows v []))
unfolding intersection
sorted_recorded f s k rows all w v h e p = all e (and_left (s e) (holding f k v e) (sym (ap (λ (t : Set). t e) (w.row v h)) ∙ p))

-- The events of a class: recorded ones by their records, and every initial write has class 2.
module _ (f : List ℕ) (s : Sized f) where
  recorded_field : (j given e : ℕ) → is_recorded f e ≡ true → field_or f j given e ≡ event_byte f e j
  recorded_field j given e p = (let (a, b) = recorded_bounds f e p in sym (field_recorded f j given e _ (omega (arith, s.most_events)) refl p))

  disjoint : (e : ℕ) → is_initial f e ≡ true → (b : Bool) → is_recorded f e ≡ b → b ≡ false
  disjoint e p true q = absurd (let (a, b) = recorded_bounds f e q in omega (arith, s.most_events, (initial_bounds f e p).0))
  disjoint e p false q = refl

  -- The events whose byte j is x, where an initial write has `given` for it.
  event_field : (j given x : ℕ) (e : ℕ) (a b : Bool) → is_initial f e ≡ a → is_recorded f e ≡ b
      → (a || b) && eqb (field_or f j given e) x ≡ (eqb given x && a) || (b && eqb (event_byte f e j) x)
  event_field j g x e true b p q =
      ap (λ (y : ℕ). eqb y x) (sym (field_initial f j g e (initial_bounds f e p).0))
      ∙ sym (rw (disjoint e p b q) (or-false (eqb g x && true) ∙ and-true (eqb g x)))
  event_field j g x e false true p q =
      ap (λ (y : ℕ). eqb y x) (recorded_field j g e q) ∙ sym (ap (λ (y : Bool). y || eqb (event_byte f e j) x) (and-false (eqb g x)))
  event_field j g x e false false p q = sym (or-false (eqb g x && false) ∙ and-false (eqb g x))

  class_events : (k : ℕ) → of_class (decode f) k ≡ union (given (eqb 2 k) (is_initial f)) (intersection (is_recorded f) (holding f 1 k))
  unfolding of_class event decode union given intersection holding
  class_events k = fun_ext (λ e. event_field 1 2 k e (is_initial f e) (is_recorded f e) refl refl)

  recorded_class_at : (k e : ℕ) (a b : Bool) → is_recorded f e ≡ b → b && eqb (event_byte f e 1) k ≡ b && ((a || b) && eqb (field_or f 1 2 e) k)
  recorded_class_at k e true true q = ap (λ (y : ℕ). eqb y k) (sym (recorded_field 1 2 e q))
  recorded_class_at k e false true q = ap (λ (y : ℕ). eqb y k) (sym (recorded_field 1 2 e q))
  recorded_class_at k e a false q = refl

  recorded_class : (k : ℕ) → intersection (is_recorded f) (holding f 1 k) ≡ intersection (is_recorded f) (of_class (decode f) k)
  unfolding of_class event decode intersection holding
  recorded_class k = fun_ext (λ e. recorded_class_at k e (is_initial f e) (is_recorded f e) refl)

  -- An initial write has 0 for byte j: those of a class with another value are recorded.
  class_field_at : (k j x e : ℕ) (a b : Bool) → 0 < x → is_initial f e ≡ a → is_recorded f e ≡ b
      → ((a || b) && eqb (field_or f 1 2 e) k) && eqb (field_or f j 0 e) x ≡ (b && eqb (event_byte f e 1) k) && eqb (event_byte f e j) x
  class_field_at k j x e true b h p q =
      ap (λ (y : Bool). eqb (field_or f 1 2 e) k && y)
      (ap (λ (y : ℕ). eqb y x) (sym (field_initial f j 0 e (initial_bounds f e p).0)) ∙ ne_eqb 0 x (λ z. omega arith))
      ∙ and-false (eqb (field_or f 1 2 e) k)
      ∙ sym (ap (λ (y : Bool). (y && eqb (event_byte f e 1) k) && eqb (event_byte f e j) x) (disjoint e p b q))
  class_field_at k j x e false true h p q =
      ap₂ (λ (y z : ℕ). eqb y k && eqb z x) (recorded_field 1 2 e q) (recorded_field j 0 e q)
  class_field_at k j x e false false h p q = refl

  class_field : (k j x : ℕ) → 0 < x
      → intersection (intersection (is_recorded f) (holding f 1 k)) (holding f j x) ≡ intersection (of_class (decode f) k) (λ e. eqb (field_or f j 0 e) x)
  unfolding of_class event decode intersection holding
  class_field k j x h = fun_ext (λ e. sym (class_field_at k j x e (is_initial f e) (is_recorded f e) h refl refl))

-- Recorded events sorted by class, and those of a class by mode or flag.
module _ (f : List ℕ) (all : Set) (p : all ≡ is_recorded f) where
  pub all_recorded : AllRecorded f all
  all_recorded e q = sym (ap (λ (t : Set). t e) p) ∙ q

  module _ (classes : List (List ℕ)) (w : SortedBy f all 1 classes) where
    class_row : (k : ℕ) → k < 8 → bit (get_or classes k []) ≡ intersection (is_recorded f) (holding f 1 k)
    class_row k h = w.row k h ∙ ap (λ (t : Set). intersection t (holding f 1 k)) p

    pub class_recorded : (k : ℕ) → k < 8 → AllRecorded f (bit (get_or classes k []))
    class_recorded = sorted_recorded f all 1 classes all_recorded w

    pub recorded_writes : Sized f → bit (get_or classes 2 []) ≡ intersection (is_recorded f) (of_class (decode f) 2)
    recorded_writes s = class_row 2 (omega arith) ∙ recorded_class f s 2

    module _ (s : Sized f) where
      pub sorted_class : (k : ℕ) → k < 8 → eqb 2 k ≡ false → bit (get_or classes k []) ≡ of_class (decode f) k
      unfolding union given
      sorted_class k h d = class_row k h ∙ sym (class_events f s k ∙ rw d)

      pub sorted_writes : (i u : Set) → i ≡ is_initial f → u ≡ union i (bit (get_or classes 2 [])) → u ≡ of_class (decode f) 2
      unfolding union given
      sorted_writes i u q r = r ∙ ap₂ union q (class_row 2 (omega arith)) ∙ sym (class_events f s 2)

      module _ (k : ℕ) (h : k < 8) (rows : List (List ℕ)) where
        field_row : (j x : ℕ) → SortedBy f (bit (get_or classes k [])) j rows → 0 < x → x < 8
            → bit (get_or rows x []) ≡ intersection (of_class (decode f) k) (λ e. eqb (field_or f j 0 e) x)
        field_row j x v g l = v.row x l ∙ ap (λ (t : Set). intersection t (holding f j x)) (class_row k h) ∙ class_field f s k j x g

        pub sorted_mode : SortedBy f (bit (get_or classes k [])) 2 rows → (m : ℕ) → 0 < m → m < 8 → bit (get_or rows m []) ≡ of_mode (decode f) k m
        unfolding of_mode decode intersection
        sorted_mode v m g l = field_row 2 m v g l

        pub sorted_flag : SortedBy f (bit (get_or classes k [])) 3 rows → bit (get_or rows 1 []) ≡ flagged (decode f) k
        unfolding flagged decode intersection
        sorted_flag v = field_row 3 1 v (omega arith) (omega arith)

-- One set or two others, grouped as fences of at least a mode are.
pub union_three : (a b c s t u : Set) → u ≡ union s t → s ≡ a → t ≡ union b c → u ≡ union (union a b) c
unfolding union
union_three a b c s t u p q r = p ∙ ap₂ union q r ∙ fun_ext (λ e. sym (or_assoc (a e) (b e) (c e)))

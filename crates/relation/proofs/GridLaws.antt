-- Laws of grids: grids made row by row, and what each operator is outside a grid.
use mathlib.Core.Path.{◌≡◌, refl, sym, ap, ap₂, subst, ◌∙◌, fun_ext}
use mathlib.Core.List.{List, [], ◌∷◌}
use mathlib.Core.Bool.{Bool, true, false, not, ◌&&◌, ◌||◌, or-false, or-true, and-false, and-true, or_comm}
use Prim.Native.Nat.{ℕ, zero, suc, ◌+◌, ◌*◌, ◌<◌, ◌≤◌}
use native.Mathlib.Numerals.{add-one}
use native.Mathlib.Omega.{arith}
use native.Mathlib.Decide.{ℕ_discrete, dec_lt}
use borrow.Author.Count.{below_more}
use borrow.Author.Tests.{eq-eqb, ne_eqb, lt-ltb, le-ltb}
use lib.Dec.{eqb, ltb}
use lib.ListN.{length, get_or, set, replicate, length-set, get_or-eq_default}
use lib.Seq.{get_or-set_same, get_or-set_other}
use Rattle.relation.specs.Rel.{Set, Rel, empty, none, single, given, pair, union, intersection, either, inverse, from, some, image, compose, through, plus, diagonal, below, nodes, members}
use Rattle.relation.specs.Bits.{bit, edge}
use Rattle.relation.proofs.ByteLaws.{bit_none, bit_out, on_zero}
use Rattle.relation.proofs.SetLaws.{skip_to}
use Rattle.relation.proofs.SmallestLaws.{empty_nothing}
use Rattle.relation.proofs.MemberLaws.{Left, First, left_all, left_next, left_none}

-- A row that is not there holds nothing.
pub bit_nil : bit [] ≡ empty
unfolding bit empty
bit_nil = fun_ext (λ j. ap (λ (b : Bool). ltb j 64 && b) (on_zero _) ∙ and-false (ltb j 64))

pub edge_out : (g : List (List ℕ)) → length g ≡ 64 → (m : ℕ) → 64 ≤ m → edge g m ≡ empty
unfolding edge
edge_out g l m h = ap bit (get_or-eq_default g [] (omega arith)) ∙ bit_nil

-- A grid made row by row: below k its rows hold f, from k on still what they held at first, e.
pub record Rows (f e : Rel) (h : List (List ℕ)) (k : ℕ) : Type 0 where
  pub long : length h ≡ 64
  pub done : (m : ℕ) → m < k → bit (get_or h m []) ≡ f m
  pub rest : (m : ℕ) → k ≤ m → bit (get_or h m []) ≡ e m

pub rows_none_of : (f e : Rel) (h : List (List ℕ)) → length h ≡ 64 → edge h ≡ e → Rows f e h 0
unfolding edge
rows_none_of f e h l p = record { long = l; done = λ m q. absurd (omega arith); rest = λ m q. ap (λ (r : Rel). r m) p }

pub rows_set : (f e : Rel) (h : List (List ℕ)) (k : ℕ) (v : List ℕ) → Rows f e h k → k < 64 → bit v ≡ f k
    → Rows f e (set h k v) (k + 1)
rows_set f e h k v w p q =
    record {
      long = length-set h k v ∙ w.long;
      done = below_more _ k (λ m g. ap bit (get_or-set_other h k m v [] (omega arith)) ∙ w.done m g)
          (ap bit (get_or-set_same h k v [] (omega (arith, w.long))) ∙ q);
      rest = λ m g. ap bit (get_or-set_other h k m v [] (omega arith)) ∙ w.rest m (omega arith);
    }

pub rows_keep : (f e : Rel) (h : List (List ℕ)) (k : ℕ) → Rows f e h k → e k ≡ f k → Rows f e h (k + 1)
rows_keep f e h k w q =
    record {
      long = w.long;
      done = below_more _ k w.done (w.rest k (omega arith) ∙ q);
      rest = λ m g. w.rest m (omega arith);
    }

pub rows_skip : (f e : Rel) (h : List (List ℕ)) (k n : ℕ) → Rows f e h k → k ≤ n → ((m : ℕ) → k ≤ m → m < n → e m ≡ f m) → Rows f e h n
rows_skip f e h k n w l q =
    record {
      long = w.long;
      done = λ m g. elim (dec_lt m k) [ yes p ↦ w.done m p | no p ↦ w.rest m (omega (arith, p)) ∙ q m (omega (arith, p)) g ];
      rest = λ m g. w.rest m (omega arith);
    }

pub rows_all : (f e : Rel) (h : List (List ℕ)) (k : ℕ) → 64 ≤ k → Rows f e h k → ((m : ℕ) → 64 ≤ m → f m ≡ empty) → edge h ≡ f
unfolding edge
rows_all f e h k all_done w out =
    fun_ext
    (λ m. elim (dec_lt m 64) [
      | yes p ↦ w.done m (omega arith)
      | no p ↦ ap bit (get_or-eq_default h [] (omega (arith, w.long, p))) ∙ bit_nil ∙ sym (out m (omega (arith, p)))
    ])

-- A grid made of the rows of another, a, one by one: its row m is f m of row m of a.
pub record Mapped (f : ℕ → Set → Set) (a h : List (List ℕ)) (k : ℕ) : Type 0 where
  pub high : k ≤ 64
  pub rows : Rows (λ m. f m (edge a m)) (edge a) h k
  pub out : (m : ℕ) → 64 ≤ m → f m (edge a m) ≡ empty

pub mapped_start : {f : ℕ → Set → Set} {a : List (List ℕ)} → length a ≡ 64 → ((m : ℕ) → 64 ≤ m → f m empty ≡ empty) → Mapped f a a 0
mapped_start {f} {a} l z =
    record { high = omega arith; rows = rows_none_of _ _ a l refl; out = λ m h. ap (f m) (edge_out a l m h) ∙ z m h }

module _ {f : ℕ → Set → Set} {a h : List (List ℕ)} {k : ℕ} (w : Mapped f a h k) where
  pub mapped_more : k < 64 → (v : List ℕ) → bit v ≡ f k (edge a k) → Mapped f a (set h k v) (k + 1)
  mapped_more p v q = record { high = omega arith; rows = rows_set _ _ h k v w.rows p q; out = w.out }

  pub mapped_all : 64 ≤ k → edge h ≡ (λ m. f m (edge a m))
  mapped_all p = rows_all _ _ h k p w.rows w.out

-- A grid made of the rows of r at the members of a row, one by one.
pub record Chosen (row : List ℕ) (r : Rel) (h : List (List ℕ)) (k : ℕ) : Type 0 where
  pub high : k ≤ 64
  pub rows : Rows (from (bit row) r) none h k

pub chosen_start : {row : List ℕ} {r : Rel} {h : List (List ℕ)} → length h ≡ 64 → edge h ≡ none → Chosen row r h 0
chosen_start l p = record { high = omega arith; rows = rows_none_of _ _ _ l p }

module _ {row : List ℕ} {r : Rel} {h : List (List ℕ)} {k : ℕ} (w : Chosen row r h k) where
  pub chosen_with : k < 64 → bit row k ≡ true → (v : List ℕ) → bit v ≡ r k → Chosen row r (set h k v) (k + 1)
  unfolding from
  chosen_with p t v q =
      record { high = omega arith; rows = rows_set _ _ h k v w.rows p (q ∙ fun_ext (λ j. ap (λ (b : Bool). b && r k j) (sym t))) }

  pub chosen_skip : k < 64 → bit row k ≡ false → Chosen row r h (k + 1)
  unfolding from none empty
  chosen_skip p t = record { high = omega arith; rows = rows_keep _ _ h k w.rows (fun_ext (λ j. ap (λ (b : Bool). b && r k j) (sym t))) }

  pub chosen_all : 64 ≤ k → edge h ≡ from (bit row) r
  unfolding from empty
  chosen_all p = rows_all _ _ h k p w.rows (λ m g. fun_ext (λ j. ap (λ (b : Bool). b && r m j) (bit_out row m g)))

-- Nothing is reached from no event.
some_none : (es : List ℕ) → some es empty ≡ false
unfolding some empty
some_none [] = refl
some_none (e ∷ es) = some_none es

pub image_out : (es : List ℕ) (r : Rel) → image es empty r ≡ empty
unfolding image empty
image_out es r = fun_ext (λ j. some_none es)

-- The image grows by the row of one event more.
image_step : (k : ℕ) (s : Set) (r : Rel) (j : ℕ) → image (below (k + 1)) s r j ≡ image (below k) s r j || (s k && r k j)
unfolding image some below
image_step k s r j = rw (add-one k) (or_comm (s k && r k j) (some (below k) (λ i. s i && r i j)))

image_none : (s : Set) (r : Rel) → empty ≡ image (below 0) s r
unfolding empty image some below
image_none s r = refl

image_with : (k : ℕ) (s : Set) (r : Rel) (t : Set) → t ≡ image (below k) s r → s k ≡ true
    → union t (r k) ≡ image (below (k + 1)) s r
unfolding union
image_with k s r t p e =
    fun_ext
    (λ j. ap₂ ◌||◌ (ap (λ (f : Set). f j) p) (ap (λ (b : Bool). b && r k j) (sym e)) ∙ sym (image_step k s r j))

image_keep : (k : ℕ) (s : Set) (r : Rel) (t : Set) → t ≡ image (below k) s r → s k ≡ false
    → t ≡ image (below (k + 1)) s r
image_keep k s r t p e =
    fun_ext
    (λ j. ap (λ (f : Set). f j) p ∙ sym (or-false _)
    ∙ ap (λ (b : Bool). image (below k) s r j || b) (ap (λ (b : Bool). b && r k j) (sym e)) ∙ sym (image_step k s r j))

-- Events that are not in s add nothing.
image_to : (s : Set) (r : Rel) (t : Set) (i k : ℕ) → t ≡ image (below i) s r → i ≤ k → ((m : ℕ) → i ≤ m → m < k → s m ≡ false)
    → t ≡ image (below k) s r
image_to s r t i k p h f = skip_to s (λ n. t ≡ image (below n) s r) (λ n e q. image_keep n s r t q e) i k h f p

-- In a loop over the members of s, t is what r reaches from those that are not left.
pub record Reached (s : Set) (r : Rel) (t : Set) (items : List ℕ) : Type 0 where
  pub upto : ℕ
  pub left : Left s upto items
  pub holds : t ≡ image (below upto) s r

pub reached_first : {s : Set} {r : Rel} {t : Set} {left : List ℕ} → t ≡ empty → left ≡ members s → Reached s r t left
reached_first {s} {r} p e = record { upto = 0; left = subst (Left s 0) (sym e) (left_all s); holds = p ∙ image_none s r }

module _ {s : Set} {r : Rel} {t : Set} {left : List ℕ} (w : Reached s r t left) where
  pub reached_next : {u : Set} {m : ℕ} {more : List ℕ} → left ≡ m ∷ more → u ≡ union t (r m) → Reached s r u more
  reached_next {u} {m} {more} e p =
      let f : First s w.upto m more = left_next w.left e in
      record {
        upto = m + 1;
        left = f.left;
        holds = p ∙ image_with m s r t (image_to s r t w.upto m w.holds f.next.low f.next.before) f.member;
      }

  pub reached_all : left ≡ [] → t ≡ image nodes s r
  reached_all e = let n = left_none w.left e in image_to s r t w.upto 64 w.holds n.low n.before

bit_replicate : (n : ℕ) (row : List ℕ) → bit row ≡ empty → (i : ℕ) → bit (get_or (replicate n row) i []) ≡ empty
bit_replicate zero row e i = bit_nil
bit_replicate (suc n) row e zero = e
bit_replicate (suc n) row e (suc i) = bit_replicate n row e i

pub edge_empty : edge (replicate 64 (replicate 8 0)) ≡ none
unfolding none edge
edge_empty = fun_ext (bit_replicate 64 (replicate 8 0) bit_none)

-- One row gains one event.
pub edge_with : (g : List (List ℕ)) (i j : ℕ) (v : List ℕ) → length g ≡ 64 → i < 64 → bit v ≡ union (bit (get_or g i [])) (single j)
    → edge (set g i v) ≡ either (edge g) (pair i j)
unfolding edge either pair union single
edge_with g i j v l h p =
    fun_ext
    (λ m. elim (ℕ_discrete m i) [
      | yes e ↦ ap bit (rw e (get_or-set_same g i v [] (omega arith))) ∙ p
          ∙ fun_ext
          (λ k. ap₂ ◌||◌ (ap (λ (x : ℕ). bit (get_or g x []) k) (sym e)) (ap (λ (b : Bool). b && eqb j k) (sym (eq-eqb i m (sym e)))))
      | no d ↦ ap bit (get_or-set_other g i m v [] d)
          ∙ fun_ext
          (λ k. sym (or-false _)
          ∙ ap (λ (b : Bool). bit (get_or g m []) k || (b && eqb j k)) (sym (ne_eqb i m (λ q. d (sym q)))))
    ])

-- One round of the closure, row by row: a row gains y, row k, where k is in it.
pub through_row : (k : ℕ) (y : Set) {x s : Set} (t : Bool) → t ≡ x k → x ≡ s → union x (given t y) ≡ union s (given (s k) y)
through_row k y t e p = ap₂ (λ (f : Set) (b : Bool). union f (given b y)) p (e ∙ ap (λ (f : Set). f k) p)

pub through_rows : (k : ℕ) (r : Rel) (y : Set) → y ≡ r k → (λ (m : ℕ). union (r m) (given (r m k) y)) ≡ through k r
unfolding union given through
through_rows k r y p = ap (λ (s : Set). λ (m : ℕ). union (r m) (given (r m k) s)) p

-- A row without events.
pub none_in : (row : List ℕ) → not (some nodes (bit row)) ≡ true → bit row ≡ empty
unfolding empty
none_in row e = fun_ext (λ j. elim (dec_lt j 64) [ yes p ↦ empty_nothing (bit row) e j p | no p ↦ bit_out row j (omega (arith, p)) ])

pub through_none : (k : ℕ) (r : Rel) → r k ≡ empty → r ≡ through k r
unfolding through empty
through_none k r p = fun_ext (λ i. fun_ext (λ j. sym (ap (λ (s : Set). r i j || (r i k && s j)) p ∙ ap (λ (b : Bool). r i j || b) (and-false (r i k)) ∙ or-false (r i j))))

-- The inverse, pair by pair: of the pairs (b, a) of r those at a place 64 b + a below p.
unfoldable pub turned_below : Rel → ℕ → Rel
turned_below r p a b = r b a && ltb (64 * b + a) p

module _ (g : List (List ℕ)) (long : length g ≡ 64) where
  wide : (b a : ℕ) → 64 ≤ a → edge g b a ≡ false
  unfolding edge
  wide b a h = bit_out (get_or g b []) a h

  tall : (b a : ℕ) → 64 ≤ b → edge g b a ≡ false
  unfolding empty
  tall b a h = ap (λ (s : Set). s a) (edge_out g long b h)

  pub turned_none : none ≡ turned_below (edge g) 0
  unfolding none empty turned_below
  turned_none = fun_ext (λ a. fun_ext (λ b. sym (ap (λ (x : Bool). edge g b a && x) (le-ltb (64 * b + a) 0 (omega arith)) ∙ and-false (edge g b a))))

  pub turned_all : (p : ℕ) → 4096 ≤ p → turned_below (edge g) p ≡ inverse (edge g)
  unfolding turned_below inverse
  turned_all p h = fun_ext (λ a. fun_ext (λ b. go a b (dec_lt a 64) (dec_lt b 64)))
    where
      go : (a b : ℕ) → Dec (a < 64) → Dec (b < 64) → edge g b a && ltb (64 * b + a) p ≡ edge g b a
      go a b (yes q) (yes q') = ap (λ (x : Bool). edge g b a && x) (lt-ltb (64 * b + a) p (omega arith)) ∙ and-true (edge g b a)
      go a b (no q) w = ap (λ (x : Bool). x && ltb (64 * b + a) p) (wide b a (omega (arith, q))) ∙ sym (wide b a (omega (arith, q)))
      go a b (yes q) (no q') = ap (λ (x : Bool). x && ltb (64 * b + a) p) (tall b a (omega (arith, q'))) ∙ sym (tall b a (omega (arith, q')))

  -- Row i holds nothing from j on and below n.
  pub turned_skip : (i j n : ℕ) → j ≤ n → n ≤ 64 → ((a : ℕ) → j ≤ a → a < n → edge g i a ≡ false)
      → turned_below (edge g) (64 * i + j) ≡ turned_below (edge g) (64 * i + n)
  unfolding turned_below
  turned_skip i j n h top f = fun_ext (λ a. fun_ext (λ b. go a b (dec_lt a 64) (dec_lt (64 * b + a) (64 * i + j)) (dec_lt (64 * b + a) (64 * i + n))))
    where
      -- a place of row i from j on and below n
      off : (a b : ℕ) → a < 64 → (64 * b + a < 64 * i + j → ⊥) → 64 * b + a < 64 * i + n → edge g b a ≡ false
      off a b m v w = (let e : b ≡ i = omega (arith, v) in rw e (f a (omega (arith, v)) (omega (arith, v))))

      go : (a b : ℕ) → Dec (a < 64) → Dec (64 * b + a < 64 * i + j) → Dec (64 * b + a < 64 * i + n)
          → edge g b a && ltb (64 * b + a) (64 * i + j) ≡ edge g b a && ltb (64 * b + a) (64 * i + n)
      go a b (no m) v w = ap₂ ◌&&◌ (wide b a (omega (arith, m))) refl ∙ sym (ap₂ ◌&&◌ (wide b a (omega (arith, m))) refl)
      go a b (yes m) (yes v) w = ap (λ (x : Bool). edge g b a && x) (lt-ltb _ (64 * i + j) v ∙ sym (lt-ltb _ (64 * i + n) (omega arith)))
      go a b (yes m) (no v) (yes w) = ap₂ ◌&&◌ (off a b m v w) refl ∙ sym (ap₂ ◌&&◌ (off a b m v w) refl)
      go a b (yes m) (no v) (no w) = ap (λ (x : Bool). edge g b a && x) (le-ltb _ (64 * i + j) (omega (arith, v)) ∙ sym (le-ltb _ (64 * i + n) (omega (arith, w))))

  -- The pair (i, j) stands at the place 64 i + j.
  pub turned_with : (i j : ℕ) → j < 64 → edge g i j ≡ true → either (turned_below (edge g) (64 * i + j)) (pair j i) ≡ turned_below (edge g) (64 * i + j + 1)
  unfolding either union pair turned_below
  turned_with i j h t = fun_ext (λ a. fun_ext (λ b. go a b (ℕ_discrete j a) (ℕ_discrete i b)))
    where
      other : (a b : ℕ) → eqb j a && eqb i b ≡ false → (a < 64 → 64 * b + a ≡ 64 * i + j → ⊥) → Dec (a < 64) → Dec (64 * b + a < 64 * i + j)
          → (edge g b a && ltb (64 * b + a) (64 * i + j)) || (eqb j a && eqb i b) ≡ edge g b a && ltb (64 * b + a) (64 * i + j + 1)
      other a b e d (no n) v =
          ap₂ (λ (x y : Bool). (x && ltb (64 * b + a) (64 * i + j)) || y) (wide b a (omega (arith, n))) e
          ∙ sym (ap (λ (x : Bool). x && ltb (64 * b + a) (64 * i + j + 1)) (wide b a (omega (arith, n))))
      other a b e d (yes n) (yes v) =
          ap (λ (x : Bool). (edge g b a && ltb (64 * b + a) (64 * i + j)) || x) e ∙ or-false _
          ∙ ap (λ (x : Bool). edge g b a && x) (lt-ltb _ (64 * i + j) v ∙ sym (lt-ltb _ (64 * i + j + 1) (omega arith)))
      other a b e d (yes n) (no v) =
          ap (λ (x : Bool). (edge g b a && ltb (64 * b + a) (64 * i + j)) || x) e ∙ or-false _
          ∙ ap (λ (x : Bool). edge g b a && x) (le-ltb _ (64 * i + j) (omega (arith, v)) ∙ sym (le-ltb _ (64 * i + j + 1) (past (d n) v)))
        where
          past : (64 * b + a ≡ 64 * i + j → ⊥) → (64 * b + a < 64 * i + j → ⊥) → 64 * i + j + 1 ≤ 64 * b + a
          past u w = omega (arith, u, w)

      go : (a b : ℕ) → Dec (j ≡ a) → Dec (i ≡ b)
          → (edge g b a && ltb (64 * b + a) (64 * i + j)) || (eqb j a && eqb i b) ≡ edge g b a && ltb (64 * b + a) (64 * i + j + 1)
      go a b (yes p) (yes q) =
          ap₂ (λ (x y : Bool). (edge g b a && ltb (64 * b + a) (64 * i + j)) || (x && y)) (eq-eqb j a p) (eq-eqb i b q)
          ∙ or-true (edge g b a && ltb (64 * b + a) (64 * i + j))
          ∙ sym (ap₂ ◌&&◌ (ap₂ (edge g) (sym q) (sym p) ∙ t) (lt-ltb (64 * b + a) (64 * i + j + 1) (omega (arith, p, q))))
      go a b (yes p) (no q) =
          other a b (ap₂ ◌&&◌ (eq-eqb j a p) (ne_eqb i b q)) (λ n e. q (omega (arith, p, e))) (dec_lt a 64) (dec_lt (64 * b + a) (64 * i + j))
      go a b (no p) q =
          other a b (ap (λ (x : Bool). x && eqb i b) (ne_eqb j a p)) (λ n e. p (omega (arith, n, h, e))) (dec_lt a 64) (dec_lt (64 * b + a) (64 * i + j))

-- In the turn of row i, whose members are s, the pairs of the rows before and of its members that are not left are turned.
pub record Turning (g : List (List ℕ)) (i : ℕ) (h : List (List ℕ)) (items : List ℕ) : Type 0 where
  pub upto : ℕ
  pub left : Left (edge g i) upto items
  pub holds : edge h ≡ turned_below (edge g) (64 * i + upto)
  pub long : length h ≡ 64
  pub given : length g ≡ 64

pub turning_first : {g : List (List ℕ)} {i : ℕ} {h : List (List ℕ)} {left : List ℕ} → length g ≡ 64 → length h ≡ 64
    → edge h ≡ turned_below (edge g) (64 * i) → left ≡ members (edge g i) → Turning g i h left
turning_first {g} {i} {h} lg lh p e =
    record {
      upto = 0;
      left = subst (Left (edge g i) 0) (sym e) (left_all (edge g i));
      holds = p ∙ ap (turned_below (edge g)) {x = 64 * i} {y = 64 * i + 0} (omega arith);
      long = lh;
      given = lg;
    }

module _ {g : List (List ℕ)} {i : ℕ} {h : List (List ℕ)} {left : List ℕ} (w : Turning g i h left) where
  pub turning_next : {j : ℕ} {more : List ℕ} → left ≡ j ∷ more → (v : List ℕ) → bit v ≡ union (bit (get_or h j [])) (single i)
      → Turning g i (set h j v) more
  turning_next {j} {more} e v p =
      let f : First (edge g i) w.upto j more = left_next w.left e in
      record {
        upto = j + 1;
        left = f.left;
        holds = edge_with h j i v w.long f.inside p
            ∙ ap (λ (r : Rel). either r (pair j i)) (w.holds ∙ turned_skip g w.given i w.upto j f.next.low f.next.high f.next.before)
            ∙ turned_with g w.given i j f.inside f.member
            ∙ ap (turned_below (edge g)) {x = 64 * i + j + 1} {y = 64 * i + (j + 1)} (omega arith);
        long = length-set h j v ∙ w.long;
        given = w.given;
      }

  pub turning_all : left ≡ [] → edge h ≡ turned_below (edge g) (64 * (i + 1))
  turning_all e =
      let n = left_none w.left e in
      w.holds ∙ turned_skip g w.given i w.upto 64 n.low (omega arith) n.before
      ∙ ap (turned_below (edge g)) {x = 64 * i + 64} {y = 64 * (i + 1)} (omega arith)

-- The closure, round by round.
pub plus_none : (r : Rel) → r ≡ plus (below 0) r
unfolding plus below
plus_none r = refl

pub plus_step : (k : ℕ) (r t : Rel) → t ≡ plus (below k) r → through k t ≡ plus (below (k + 1)) r
unfolding plus below
plus_step k r t p = rw (add-one k) (ap (through k) p)

-- The diagonal of a ; b⁻¹: the events whose rows of a and b share a member.
pub returning_at : (a b : List (List ℕ)) (i : ℕ) (m : Set) (e f : Bool) → m ≡ intersection (bit (get_or a i [])) (bit (get_or b i [])) → e ≡ not (some nodes m)
    → f ≡ not e → f ≡ diagonal (compose nodes (edge a) (inverse (edge b))) i
unfolding diagonal compose image inverse edge intersection
returning_at a b i m e f p q r = r ∙ ap not q ∙ not_not (some nodes m) ∙ ap (some nodes) p
  where
    not_not : (x : Bool) → not (not x) ≡ x
    not_not true = refl
    not_not false = refl

pub returning_out : (a b : List (List ℕ)) → length a ≡ 64 → (i : ℕ) → 64 ≤ i → diagonal (compose nodes (edge a) (inverse (edge b))) i ≡ false
unfolding diagonal compose empty
returning_out a b l i h = ap (λ (s : Set). s i) (ap (λ (t : Set). image nodes t (inverse (edge b))) (edge_out a l i h) ∙ image_out nodes _)

-- A relation that is given the other way round.
pub inverse_back : (b e : Rel) → b ≡ inverse e → inverse b ≡ e
unfolding inverse
inverse_back b e p = ap inverse p

pub returning_by : (r b e : Rel) → b ≡ inverse e → diagonal (compose nodes r (inverse b)) ≡ diagonal (compose nodes r e)
returning_by r b e p = ap (λ (c : Rel). diagonal (compose nodes r c)) (inverse_back b e p)

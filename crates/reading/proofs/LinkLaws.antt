-- Laws of the links into an event, of walks along them and the iterator that makes one, and of what is gathered on the way.
use mathlib.Core.Path.{◌≡◌, refl, sym, ap, ap₂, subst, ◌∙◌, fun_ext}
use mathlib.Core.Bool.{Bool, true, ◌&&◌, ◌||◌, or-false, or_assoc}
use mathlib.Core.List.{List, [], ◌∷◌}
use mathlib.Core.Logic.{◌⊎◌, inl, inr}
use Prim.Native.Nat.{ℕ, zero, suc, ◌+◌, ◌-◌, ◌*◌, ◌<◌, ◌≤◌}
use native.Mathlib.Numerals.{add-one}
use native.Mathlib.Omega.{arith}
use native.Mathlib.Decide.{ℕ_discrete, dec_lt}
use borrow.Author.Tests.{ne_eqb, eq-eqb, leb-true, ltb-true, le-leb}
use lib.Dec.{eqb, ltb}
use lib.ListN.{length, get_or, set, replicate}
use lib.Bits.{bit_and, and_mask}
use Rattle.relation.specs.Rel.{Set, Rel, empty, single, union, inverse, some}
use Rattle.relation.specs.Bits.{bit, edge}
use Rattle.relation.proofs.Truth.{and_left, and_right, and_both}
use Rattle.layout.specs.Layout.{events, links, link_byte, Sized}
use Rattle.layout.specs.Chains.{follow, next_of, next_link, first_link, links_into, all_of}
use Rattle.layout.specs.Decode.{decode}
use Rattle.reading.specs.Sets.{SourcesInto}
use Rattle.reading.specs.Readable.{within, readable, links_from, Walk}
use Rattle.layout.proofs.FieldLaws.{recorded_is}
use Rattle.layout.proofs.ChainLaws.{follow_end, follow_none, follow_in, follow_over}
use Rattle.reading.proofs.EightRows.{Eight, eight_none, eight_keep, eight_set}

pub within_le : (f : List ℕ) (m : ℕ) → within f m ≡ true → m ≤ links f
unfolding within
within_le f m p = leb-true m (links f) p

pub readable_le : (f : List ℕ) (m : ℕ) → readable f m ≡ true → m ≤ links f
unfolding readable
readable_le f m p = within_le f m (and_left (within f m) (ltb (link_byte f m 2) 64) p)

pub readable_lt : (f : List ℕ) (m : ℕ) → readable f m ≡ true → link_byte f m 2 < 64
unfolding readable
readable_lt f m p = ltb-true (link_byte f m 2) 64 (and_right (within f m) (ltb (link_byte f m 2) 64) p)

-- The row of a source, whose number the code masks.
pub row_of_source : (g : List (List ℕ)) (r : Rel) (a x b : ℕ) → edge g ≡ r → a ≡ x → x < 64 → bit (get_or g (bit_and a 63) []) b ≡ r x b
unfolding edge
row_of_source g r a x b e p h =
    ap (λ (i : ℕ). bit (get_or g i []) b) {x = bit_and a 63} {y = x} (and_mask a 6 ∙ omega (arith, p)) ∙ ap (λ (q : Rel). q x b) e

-- The links into b are those from its first on; at the end of the chain none is left.
pub whole : (f : List ℕ) (b n x : ℕ) → n ≡ links f → x ≡ first_link f (b - 1) → links_from f (n + 1) x ≡ links_into f b
whole f b n x e s = sym (ap₂ (λ (k y : ℕ). links_from f k y) (ap suc (sym e) ∙ sym (add-one n)) (sym s))

pub over : (f : List ℕ) (n x : ℕ) → (n ≡ 0) ⊎ (x ≡ 0) → links_from f n x ≡ []
over f n x (inl e) = follow_none (links f) (next_link f) n x (omega arith)
over f n x (inr e) = ap (links_from f n) e ∙ follow_end (links f) (next_link f) n

-- No more are met than are followed, so that the list of the links into an event is at most one longer than the number of the file's links.
met_few : (f : List ℕ) (n x : ℕ) → length (links_from f n x) ≤ n
met_few f zero x = omega (arith, ap length (over f 0 x (inl refl)))
met_few f (suc n) x =
    elim (ℕ_discrete x 0) [
      | yes e ↦ omega (arith, ap length (over f (suc n) x (inr e)))
      | no d ↦ elim (dec_lt (links f) x) [
        | yes h ↦ omega (arith, ap length (follow_over (links f) (next_link f) n x d h))
        | no h ↦ omega (arith, ap length (follow_in (links f) (next_link f) n x d (omega (arith, h))), met_few f n (next_link f x))
      ]
    ]

pub links_few : (f : List ℕ) (b : ℕ) → length (links_into f b) ≤ links f + 1
links_few f b = omega (arith, met_few f (suc (links f)) (first_link f (b - 1)))

-- The link x at which a walk stands: it lies within the file, and the rest goes on from the one that follows it.
pub record Onward (f : List ℕ) (from n x : ℕ) : Type 0 where
  pub room : from + 4 * (x - 1) < length f
  pub next : (y : ℕ) → y ≡ next_of f from 4 x → links_from f n x ≡ x ∷ links_from f (n - 1) y
  pub on : (y : ℕ) → y ≡ next_of f from 4 x → Walk f from (n - 1) y

pub walk_onward : {f : List ℕ} {from n x : ℕ} → Walk f from n x → (n ≡ 0 → ⊥) → (x ≡ 0 → ⊥) → Onward f from n x
unfolding all_of follow
walk_onward {f} {from} {n} {x} w h d =
    let e : n ≡ suc (n - 1) = omega (arith, h) in
    let inside = within_le f x (and_left (within f x) _ (rw (ne_eqb x 0 d, follow) at (subst (λ (k : ℕ). all_of (links_from f k x) (within f) ≡ true) e w.inside))) in
    let next : (y : ℕ) → y ≡ next_of f from 4 x → links_from f n x ≡ x ∷ links_from f (n - 1) y =
    λ y s. ap (λ (k : ℕ). links_from f k x) e ∙ follow_in (links f) (next_link f) (n - 1) x d inside
    ∙ ap (λ (k : ℕ). x ∷ links_from f (n - 1) k) (sym (s ∙ ap (λ (k : ℕ). next_of f k 4 x) w.begins)) in
    record {
      room = omega (arith, inside, d, w.sized.long, w.begins);
      next = next;
      on = λ y s. record {
        sized = w.sized;
        begins = w.begins;
        inside = and_right (within f x) _ (subst (λ (l : List ℕ). all_of l (within f) ≡ true) (next y s) w.inside);
      };
    }

-- A test that another implies passes on each member of a list where the other does.
all_as : {p q : ℕ → Bool} (l : List ℕ) → ((m : ℕ) → q m ≡ true → p m ≡ true) → all_of l q ≡ true → all_of l p ≡ true
unfolding all_of
all_as [] k e = refl
all_as {p} {q} (m ∷ l) k e = and_both (p m) (all_of l p) (k m (and_left (q m) (all_of l q) e)) (all_as l k (and_right (q m) (all_of l q) e))

-- Each link of a readable chain lies within the file, and is readable.
pub all_within : (f l : List ℕ) → all_of l (readable f) ≡ true → all_of l (within f) ≡ true
unfolding readable
all_within f l e = all_as l (λ m p. and_left (within f m) _ p) e

-- A walk along the links into b: the next is x, at most n are left, and of each of them q holds, which says that it lies within the file.
-- `Walk`, which the iterator keeps, is this for the test `within`, without b.
pub record LinkWalk (f : List ℕ) (q : ℕ → Bool) (b from n x : ℕ) : Type 0 where
  pub sized : Sized f
  pub low : 1 ≤ b
  pub high : b ≤ events f
  pub begins : from ≡ 8 + 8 * events f
  pub within : (m : ℕ) → q m ≡ true → m ≤ links f
  pub rest : all_of (links_from f n x) q ≡ true

-- The link x at which it stands, and the rest from the one that follows it.
pub record Here (f : List ℕ) (q : ℕ → Bool) (from n x : ℕ) : Type 0 where
  pub sized : Sized f
  pub first : 1 ≤ x
  pub inside : x ≤ links f
  pub room : from + 4 * (x - 1) < length f
  pub good : q x ≡ true
  pub next : (y : ℕ) → y ≡ next_of f from 4 x → links_from f n x ≡ x ∷ links_from f (n - 1) y

pub walk_start : {f : List ℕ} {q : ℕ → Bool} {b e n x : ℕ} → Sized f → 1 ≤ b → b ≤ events f → e ≡ events f → n ≡ links f → x ≡ first_link f (b - 1)
    → ((m : ℕ) → q m ≡ true → m ≤ links f) → all_of (links_into f b) q ≡ true → LinkWalk f q b (8 + 8 * e) (n + 1) x
walk_start {f} {q} {b} {e} {n} {x} s l h p i j k g =
    record {
      sized = s;
      low = l;
      high = h;
      begins = omega arith;
      within = k;
      rest = subst (λ (r : List ℕ). all_of r q ≡ true) (sym (whole f b n x i j)) g;
    }

module _ {f : List ℕ} {q : ℕ → Bool} {b from n x : ℕ} (w : LinkWalk f q b from n x) where
  walk_of : Walk f from n x
  unfolding within
  walk_of = record { sized = w.sized; begins = w.begins; inside = all_as (links_from f n x) (λ m p. le-leb m (links f) (w.within m p)) w.rest }

  pub walk_here : 0 < n → (x ≡ 0 → ⊥) → Here f q from n x
  unfolding all_of
  walk_here h d =
      let on = walk_onward walk_of (λ e. omega (arith, h, e)) d in
      let good = and_left (q x) _ (subst (λ (l : List ℕ). all_of l q ≡ true) (on.next _ refl) w.rest) in
      record { sized = w.sized; first = omega (arith, d); inside = w.within x good; room = on.room; good = good; next = on.next }

  pub walk_on : {y : ℕ} → Here f q from n x → y ≡ next_of f from 4 x → LinkWalk f q b from (n - 1) y
  unfolding all_of
  walk_on {y} h s =
      record {
        sized = w.sized;
        low = w.low;
        high = w.high;
        begins = w.begins;
        within = w.within;
        rest = and_right (q x) _ (subst (λ (l : List ℕ). all_of l q ≡ true) (h.next y s) w.rest);
      }

-- On the way along the links into b: q holds of each that is left.
pub record Ahead (f : List ℕ) (q : ℕ → Bool) (b : ℕ) (left : List ℕ) : Type 0 where
  pub sized : Sized f
  pub low : 1 ≤ b
  pub high : b ≤ events f
  pub good : all_of left q ≡ true

pub ahead_start : {f : List ℕ} {q : ℕ → Bool} {b : ℕ} {l : List ℕ} → Sized f → 1 ≤ b → b ≤ events f → all_of (links_into f b) q ≡ true → l ≡ links_into f b → Ahead f q b l
ahead_start {q = q} s l h g e = record { sized = s; low = l; high = h; good = ap (λ k. all_of k q) e ∙ g }

module _ {f : List ℕ} {q : ℕ → Bool} {b m : ℕ} {left more : List ℕ} (w : Ahead f q b left) (e : left ≡ m ∷ more) where
  pub ahead_here : q m ≡ true
  unfolding all_of
  ahead_here = and_left (q m) (all_of more q) (subst (λ (l : List ℕ). all_of l q ≡ true) e w.good)

  pub ahead_on : Ahead f q b more
  unfolding all_of
  ahead_on = record { sized = w.sized; low = w.low; high = w.high; good = and_right (q m) (all_of more q) (subst (λ (l : List ℕ). all_of l q ≡ true) e w.good) }

-- The link m is of type t and from a.
unfoldable pub leads : List ℕ → ℕ → ℕ → ℕ → Bool
leads f t a m = eqb (link_byte f m 1) t && eqb (link_byte f m 2) a

-- The sources of the links of type t into b: those taken, and those of the links that are left.
pub record Taken (f : List ℕ) (t b : ℕ) (left : List ℕ) (r : Set) : Type 0 where
  pub same : (a : ℕ) → r a || some left (leads f t a) ≡ some (links_into f b) (leads f t a)

pub taken_start : {f : List ℕ} {t b : ℕ} {left : List ℕ} {r : Set} → r ≡ empty → left ≡ links_into f b → Taken f t b left r
unfolding empty
taken_start {f} {t} {left = left} e s =
    record { same = λ a. ap (λ (u : Set). u a || some left (leads f t a)) e ∙ ap (λ (l : List ℕ). some l (leads f t a)) s }

module _ {f : List ℕ} {t b : ℕ} {left : List ℕ} {r : Set} (w : Taken f t b left r) where
  pub taken_done : left ≡ [] → 1 ≤ b → b ≤ events f → r ≡ inverse ((decode f).link t) b
  unfolding inverse decode leads some
  taken_done e l h =
      fun_ext
      (λ a. sym (or-false (r a)) ∙ ap (λ (k : List ℕ). r a || some k (leads f t a)) (sym e) ∙ w.same a
      ∙ ap (λ (c : Bool). c && some (links_into f b) (leads f t a)) (sym (recorded_is f b l h)))

  -- one link more, with type v
  module _ {m v : ℕ} {more : List ℕ} (s : left ≡ m ∷ more) (k : v ≡ link_byte f m 1) where
    taken_on : (u : Set) → ((a : ℕ) → u a ≡ r a || leads f t a m) → Taken f t b more u
    unfolding some
    taken_on u g =
        record {
          same = λ a. ap (λ (c : Bool). c || some more (leads f t a)) (g a) ∙ or_assoc (r a) (leads f t a m) (some more (leads f t a))
              ∙ ap (λ (l : List ℕ). r a || some l (leads f t a)) (sym s) ∙ w.same a;
        }

    pub taken_with : {a : ℕ} {u : Set} → v ≡ t → a ≡ link_byte f m 2 → u ≡ union r (single a) → Taken f t b more u
    unfolding union single leads
    taken_with {u = u} e l o =
        taken_on u (λ a. ap (λ (z : Set). z a) o
        ∙ ap (λ (c : Bool). r a || c) (ap₂ (λ (c : Bool) (z : ℕ). c && eqb z a) (sym (eq-eqb (link_byte f m 1) t (sym k ∙ e))) l))

    pub taken_keep : (v ≡ t → ⊥) → Taken f t b more r
    unfolding leads
    taken_keep d =
        taken_on r (λ a. sym (or-false (r a)) ∙ ap (λ (c : Bool). r a || (c && eqb (link_byte f m 2) a)) (sym (ne_eqb (link_byte f m 1) t (λ z. d (k ∙ z)))))

-- The same for every type below 8 at once, a row for each.
abbrev pub Sorted : List ℕ → ℕ → List ℕ → List (List ℕ) → Type 0
Sorted f b left = Eight (λ t. Taken f t b left)

pub sorted_start : {f : List ℕ} {b : ℕ} {left : List ℕ} (r : List ℕ) → bit r ≡ empty → left ≡ links_into f b → Sorted f b left (replicate 8 r)
sorted_start r p e = eight_none r p (λ t. taken_start refl e)

module _ {f : List ℕ} {b m v : ℕ} {left more : List ℕ} {h : List (List ℕ)} (w : Sorted f b left h) (s : left ≡ m ∷ more) (k : v ≡ link_byte f m 1) where
  pub sorted_with : {a : ℕ} (r : List ℕ) → v < 8 → a ≡ link_byte f m 2 → bit r ≡ union (bit (get_or h v [])) (single a) → Sorted f b more (set h v r)
  sorted_with r g l o = eight_set w v r g (taken_with (w.row v g) s k refl l o) (λ t j d u z. taken_keep z s k d)

  pub sorted_keep : 8 ≤ v → Sorted f b more h
  sorted_keep g = eight_keep w (λ t j u z. taken_keep z s k (λ e. omega arith))

pub sorted_done : {f : List ℕ} {b : ℕ} {left : List ℕ} {h : List (List ℕ)} → Sorted f b left h → left ≡ [] → 1 ≤ b → b ≤ events f → SourcesInto f b h
sorted_done w e l h = record { long = w.long; row = λ t k. taken_done (w.row t k) e l h }

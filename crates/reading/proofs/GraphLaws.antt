-- Laws of the relations of a file as rows and grids.
use mathlib.Core.Path.{◌≡◌, refl, sym, ap, ap₂, subst, ◌∙◌, fun_ext}
use mathlib.Core.Bool.{Bool, true, false, ◌&&◌, ◌||◌, false≢true, and-false, and_assoc}
use Rattle.std.specs.Prelude.{Some, None}
use mathlib.Core.List.{List, []}
use Prim.Native.Nat.{ℕ, ◌+◌, ◌<◌, ◌≤◌}
use native.Mathlib.Omega.{arith}
use native.Mathlib.Decide.{ℕ_discrete}
use borrow.Author.Tests.{eq-eqb, ne_eqb, eqb-true}
use lib.Dec.{eqb}
use lib.ListN.{length, get_or, set, replicate, length-set, get_or-replicate}
use lib.Seq.{get_or-set_same, get_or-set_other}
use Rattle.relation.specs.Rel.{Set, Rel, empty, none, single, union, intersection, product, inverse, either, both}
use Rattle.relation.specs.Bits.{bit, edge}
use Rattle.relation.proofs.GridLaws.{Rows, rows_none_of, rows_set, rows_all}
use Rattle.relation.proofs.SetLaws.{upto, upto_none, upto_with, upto_keep, upto_done}
use Rattle.models.specs.Recording.{event, of_class, access, same_location, co_step}
use Rattle.layout.specs.Layout.{events, Sized}
use Rattle.layout.specs.Decode.{is_recorded, is_initial, decode}
use Rattle.reading.specs.Sets.{access_at, PlaceOf, Located, AccessRows, SourcesInto, LinkRows}
use Rattle.relation.proofs.Truth.{is_false, and_left, and_right, and_both}
use Rattle.layout.proofs.FieldLaws.{recorded_bounds, initial_bounds}
use Rattle.reading.proofs.EightRows.{Eight, eight_none, eight_keep, eight_set}

-- No number from 64 on is an event's.
pub recorded_out : (f : List ℕ) → Sized f → (e : ℕ) → 64 ≤ e → is_recorded f e ≡ false
recorded_out f s e h = is_false (is_recorded f e) (λ p. let (a, b) = recorded_bounds f e p in omega (arith, s.most_events))

initial_out : (f : List ℕ) → Sized f → (e : ℕ) → 64 ≤ e → is_initial f e ≡ false
initial_out f s e h = is_false (is_initial f e) (λ p. let (a, b) = initial_bounds f e p in omega (arith, s.most_locations))

-- What is no event is in no set.
module _ (f : List ℕ) (e : ℕ) (r : is_recorded f e ≡ false) (i : is_initial f e ≡ false) where
  event_none : event (decode f) e ≡ false
  unfolding event decode
  event_none = rw (i, r)

  class_none : (k : ℕ) → of_class (decode f) k e ≡ false
  unfolding of_class
  class_none k = rw event_none

  access_none : access (decode f) e ≡ false
  unfolding access
  access_none = rw (class_none 1, class_none 2)

-- No event is numbered between the records and the initial writes.
gap_recorded : (f : List ℕ) (e : ℕ) → events f < e → is_recorded f e ≡ false
gap_recorded f e h = is_false (is_recorded f e) (λ p. let (a, b) = recorded_bounds f e p in omega arith)

-- The links into what is no record.
pub link_none : (f : List ℕ) (t b : ℕ) (s : Set) → s ≡ empty → is_recorded f b ≡ false → s ≡ inverse ((decode f).link t) b
unfolding decode inverse empty
link_none f t b s e p = e ∙ fun_ext (λ x. rw p)

pub link_out : (f : List ℕ) → Sized f → (t b : ℕ) → 64 ≤ b → inverse ((decode f).link t) b ≡ empty
link_out f s t b h = sym (link_none f t b empty refl (recorded_out f s b h))

-- The links into every number, by type.
pub sources_none : (f : List ℕ) (b : ℕ) (r : List ℕ) → bit r ≡ empty → is_recorded f b ≡ false → SourcesInto f b (replicate 8 r)
sources_none f b r e p =
    let w = eight_none {P = λ t s. s ≡ inverse ((decode f).link t) b} r e (λ t. link_none f t b empty refl p) in
    record { long = refl; row = w.row }

-- The grids of the types from 1 to 7, a row at a time: those below t have the rows up to b, the others those before b.
pub record Filling (f : List ℕ) (b t : ℕ) (grids : List (List (List ℕ))) : Type 0 where
  pub long : length grids ≡ 8
  pub done : (m : ℕ) → 1 ≤ m → m < t → m < 8 → Rows (inverse ((decode f).link m)) none (get_or grids m []) (b + 1)
  pub rest : (m : ℕ) → t ≤ m → m < 8 → Rows (inverse ((decode f).link m)) none (get_or grids m []) b

pub filling_start : (f : List ℕ) (g : List (List ℕ)) → length g ≡ 64 → edge g ≡ none → Filling f 0 1 (replicate 8 g)
filling_start f g l e =
    record {
      long = refl;
      done = λ m a b c. absurd (omega arith);
      rest = λ m a b. subst (λ (h : List (List ℕ)). Rows (inverse ((decode f).link m)) none h 0) (sym (get_or-replicate 8 m g [] b))
          (rows_none_of (inverse ((decode f).link m)) none g l e);
    }

module _ {f : List ℕ} {b t : ℕ} {grids : List (List (List ℕ))} (w : Filling f b t grids) where
  pub filling_more : b < 64 → 1 ≤ t → t < 8 → (v : List ℕ) → bit v ≡ inverse ((decode f).link t) b → Filling f b (t + 1) (set grids t (set (get_or grids t []) b v))
  filling_more h low high v p =
      let new = set (get_or grids t []) b v in
      let other : (m : ℕ) → (m ≡ t → ⊥) → get_or (set grids t new) m [] ≡ get_or grids m [] = λ m d. get_or-set_other grids t m new [] d in
      record {
        long = length-set grids t new ∙ w.long;
        done = λ m a g k. elim (ℕ_discrete m t) [
          | yes e ↦ subst (λ (i : ℕ). Rows (inverse ((decode f).link i)) none (get_or (set grids t new) i []) (b + 1)) (sym e)
              (subst (λ (x : List (List ℕ)). Rows (inverse ((decode f).link t)) none x (b + 1)) (sym (get_or-set_same grids t new [] (omega (arith, w.long))))
              (rows_set (inverse ((decode f).link t)) none _ b v (w.rest t (omega arith) high) h p))
          | no d ↦ subst (λ (x : List (List ℕ)). Rows (inverse ((decode f).link m)) none x (b + 1)) (sym (other m d)) (w.done m a (omega (arith, d)) k)
        ];
        rest = λ m g k. subst (λ (x : List (List ℕ)). Rows (inverse ((decode f).link m)) none x b) (sym (other m (λ e. omega arith))) (w.rest m (omega arith) k);
      }

  pub filling_turn : 8 ≤ t → Filling f (b + 1) 1 grids
  filling_turn h = record { long = w.long; done = λ m a g k. absurd (omega arith); rest = λ m g k. w.done m g (omega arith) k }

pub filling_all : {f : List ℕ} {b : ℕ} {grids : List (List (List ℕ))} → Sized f → 64 ≤ b → Filling f b 1 grids → LinkRows f grids
filling_all {f} {b} {grids} s h w =
    record { grid = λ t a k. rows_all (inverse ((decode f).link t)) none (get_or grids t []) b h (w.rest t a k) (link_out f s t) }

no_access : (f : List ℕ) (e : ℕ) → access (decode f) e ≡ false → none e ≡ same_location (decode f) e
unfolding same_location none empty
no_access f e p = fun_ext (λ b. sym (rw p))

pub location_out : (f : List ℕ) → Sized f → (e : ℕ) → 64 ≤ e → same_location (decode f) e ≡ empty
unfolding none
location_out f s e h = sym (no_access f e (access_none f e (recorded_out f s e h) (initial_out f s e h)))

pub access_out : (f : List ℕ) → Sized f → (l e : ℕ) → 64 ≤ e → access_at f l e ≡ false
unfolding access_at
access_out f s l e h = rw (access_none f e (recorded_out f s e h) (initial_out f s e h))

-- The rows of the locations, one number more at a time.
abbrev pub Locating : List ℕ → ℕ → List (List ℕ) → Type 0
Locating f e = Eight (λ l s. s ≡ upto e (access_at f l))

pub locating_start : (f : List ℕ) (r : List ℕ) → bit r ≡ empty → Locating f 0 (replicate 8 r)
locating_start f r p = eight_none r p (λ l. upto_none (access_at f l))

module _ (f : List ℕ) (e : ℕ) {h : List (List ℕ)} (w : Locating f e h) where
  pub locating_with : {l : ℕ} → PlaceOf f e (Some l) → (v : List ℕ) → bit v ≡ union (bit (get_or h l [])) (single e) → Locating f (e + 1) (set h l v)
  locating_with {l} (k, at) v q =
      eight_set w l v k (q ∙ upto_with e (access_at f l) _ (w.row l k) (at l k ∙ eq-eqb l l refl))
      (λ m g d s z. upto_keep e (access_at f m) s z (at m g ∙ ne_eqb l m d))

  pub locating_keep : PlaceOf f e None → Locating f (e + 1) h
  locating_keep at = eight_keep w (λ m g s z. upto_keep e (access_at f m) s z (at m g))

pub locating_all : {f : List ℕ} {e : ℕ} {h : List (List ℕ)} → Sized f → 64 ≤ e → Locating f e h → AccessRows f h
locating_all {f} {e} s k w = record { long = w.long; row = λ l i. upto_done e 64 (access_at f l) _ k (w.row l i) (access_out f s l) }

-- The location of an event, as the code answers it.
pub place_none : (f : List ℕ) (e : ℕ) → access (decode f) e ≡ false → PlaceOf f e None
unfolding access_at
place_none f e p l h = rw p

pub place_far : (f : List ℕ) (e x : ℕ) → x ≡ (decode f).location e → 8 ≤ x → PlaceOf f e None
unfolding access_at
place_far f e x p g l h =
    ap (λ (c : Bool). access (decode f) e && c) (ne_eqb ((decode f).location e) l (λ q. omega (arith, p, q))) ∙ and-false (access (decode f) e)

pub place_here : (f : List ℕ) (e x : ℕ) → access (decode f) e ≡ true → x ≡ (decode f).location e → x < 8 → PlaceOf f e (Some x)
unfolding access_at
place_here f e x p q h = (h, λ l g. rw p (ap (λ (y : ℕ). eqb y l) (sym q)))

pub eqb_swap : (a b : ℕ) → eqb a b ≡ eqb b a
eqb_swap a b = elim (ℕ_discrete a b) [ yes p ↦ eq-eqb a b p ∙ sym (eq-eqb b a (sym p)) | no d ↦ ne_eqb a b d ∙ sym (ne_eqb b a (λ q. d (sym q))) ]

-- The row of an access is that of its location; what is no access has none.
module _ (f : List ℕ) (located : Located f) (e : ℕ) where
  pub location_row : {l : ℕ} → PlaceOf f e (Some l) → (x : Set) → x ≡ access_at f l → x ≡ same_location (decode f) e
  unfolding same_location access_at
  location_row {l} (h, at) x p =
      let here = at l h ∙ eq-eqb l l refl in
      let is-access = and_left (access (decode f) e) (eqb ((decode f).location e) l) here in
      let same = eqb-true ((decode f).location e) l (and_right (access (decode f) e) (eqb ((decode f).location e) l) here) in
      p ∙ fun_ext (λ b. ap (λ (c : Bool). access (decode f) b && c) (eqb_swap ((decode f).location b) l) ∙ sym (rw (is-access, same)))

  pub location_none : PlaceOf f e None → none e ≡ same_location (decode f) e
  unfolding access_at
  location_none at =
      no_access f e (is_false (access (decode f) e) (λ p.
      let q = and_both (access (decode f) e) (eqb ((decode f).location e) ((decode f).location e)) p (eq-eqb ((decode f).location e) ((decode f).location e) refl) in
      false≢true (sym (at ((decode f).location e) (located e p)) ∙ q)))

-- What co follows from, as the code makes it.
pub co_is : (f : List ℕ) (i u : Set) (a c d b g : Rel) → u ≡ intersection (is_recorded f) (of_class (decode f) 2) → i ≡ is_initial f → a ≡ product i u
    → c ≡ (decode f).link 2 → d ≡ same_location (decode f) → g ≡ both a d → b ≡ either c g → b ≡ co_step (decode f)
unfolding either union both intersection product co_step decode
co_is f i u a c d b g pu pi pa pc pd pg pb =
    let q : a ≡ product (is_initial f) (intersection (is_recorded f) (of_class (decode f) 2)) = pa ∙ ap₂ product pi pu in
    pb ∙ ap₂ either pc (pg ∙ ap₂ both q pd)
    ∙ fun_ext (λ x. fun_ext (λ y. ap (λ (z : Bool). (decode f).link 2 x y || z && same_location (decode f) x y)
    (sym (and_assoc (is_initial f x) (is_recorded f y) (of_class (decode f) 2 y)))))

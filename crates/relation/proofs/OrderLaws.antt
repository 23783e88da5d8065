-- Laws of the shown order: made event by event it is the definition, and without a ring every event comes out.
use mathlib.Core.Path.{◌≡◌, refl, sym, ap, ap₂, subst, ◌∙◌}
use mathlib.Core.List.{List, [], ◌∷◌, ◌++◌, append_assoc, append-nil}
use mathlib.Core.Bool.{Bool, true, false, not, ◌&&◌, false≢true, and-false}
use mathlib.Core.Logic.{inl, inr}
use Prim.Native.Nat.{ℕ, zero, suc, ◌+◌, ◌-◌, ◌<◌, ◌≤◌}
use native.Mathlib.Omega.{arith}
use native.Mathlib.Decide.{ℕ_discrete, dec_lt}
use borrow.Author.Tests.{lt-ltb, le-ltb, eq-eqb, ne_eqb}
use lib.ListN.{length}
use Rattle.std.specs.Prelude.{Some, None}
use Rattle.std.proofs.lemmas.List.{length-append}
use Rattle.relation.specs.Rel.{Set, Rel, single, intersection, difference, inverse, image, some, least, smallest, count, plus, nodes}
use Rattle.relation.specs.Order.{ready, order, occurrences, EachOnce}
use Rattle.relation.proofs.Truth.{is_false, by_test, and_left, and_right, and_both}
use Rattle.relation.proofs.SetLaws.{least_is, least_lt}
use Rattle.relation.proofs.SmallestLaws.{smallest_some, smallest_none, smallest_member, empty_some, empty_none}
use Rattle.relation.proofs.GridLaws.{inverse_back}
use Rattle.relation.proofs.Meaning.{Steps, one, steps_join, mem_below, below_mem, some_sound, some_complete, image_sound, image_complete, plus_complete}
use Rattle.relation.proofs.Counting.{count_le, count_lt, without_other, without_self, count_without}
use Rattle.relation.proofs.Pigeonhole.{Twice, pigeonhole}
use Rattle.relation.proofs.Walks.{Inside}

-- One event more, or no more.
pub order_next : (n : ℕ) (r : Rel) (s : Set) (k : ℕ) → k ≡ least 64 (ready r s) → k < 64
    → order (suc n) r s ≡ k ∷ order n r (difference s (single k))
unfolding order
order_next n r s k e h =
    rw (lt-ltb (least 64 (ready r s)) 64 (rw e at h), order)
    (ap (λ (j : ℕ). j ∷ order n r (difference s (single j))) (sym e))

pub order_stop : (n : ℕ) (r : Rel) (s : Set) → 64 ≤ least 64 (ready r s) → order n r s ≡ []
unfolding order
order_stop zero r s h = refl
order_stop (suc n) r s h = rw (le-ltb (least 64 (ready r s)) 64 h, order)

-- The order by the relation whose inverse is b.
pub order_inverse : (r b : Rel) (s : Set) → b ≡ inverse r → order 64 (inverse b) s ≡ order 64 r s
order_inverse r b s e = ap (λ (f : Rel). order 64 f s) (inverse_back b r e)

-- The search for the smallest ready event, where b k is the set of the events before k.
pub not_ready : (b : Rel) (s : Set) (m : ℕ) → s m ≡ false → ready (inverse b) s m ≡ false
unfolding ready difference
not_ready b s m e = ap (λ (x : Bool). x && not (image nodes s (inverse b) m)) e

-- t is what is both before k and in s.
module _ (b : Rel) (s : Set) (k : ℕ) (t : Set) (meet : t ≡ intersection (b k) s) where
  preceded_by : some nodes t ≡ true → image nodes s (inverse b) k ≡ true
  unfolding intersection inverse
  preceded_by h =
      let (f, m, both) = some_sound nodes t h in
      let e : b k f && s f ≡ true = sym (ap (λ (u : Set). u f) meet) ∙ both in
      image_complete nodes s (inverse b) f k m (and_right (b k f) (s f) e) (and_left (b k f) (s f) e)

  unpreceded : some nodes t ≡ false → image nodes s (inverse b) k ≡ false
  unfolding intersection inverse
  unpreceded h =
      is_false _
      (λ e. let (i, m, p, q) = image_sound nodes s (inverse b) k e in
      false≢true (sym h ∙ some_complete nodes t i m (ap (λ (u : Set). u i) meet ∙ and_both (b k i) (s i) q p)))

  pub preceded_not_ready : not (some nodes t) ≡ false → ready (inverse b) s k ≡ false
  unfolding ready difference
  preceded_not_ready d = ap (λ (x : Bool). s k && not x) (preceded_by (empty_some t d)) ∙ and-false (s k)

  pub unpreceded_ready : not (some nodes t) ≡ true → s k ≡ true → ready (inverse b) s k ≡ true
  unfolding ready difference
  unpreceded_ready e p = and_both (s k) _ p (ap not (unpreceded (empty_none t e)))

-- These events are out, and the order of those that are left follows them.
pub record Out (r : Rel) (s : Set) (out : List ℕ) (left : Set) : Type 0 where
  pub room : length out + count 64 left ≤ 64
  pub rest : out ++ order (64 - length out) r left ≡ order 64 r s

pub out_none : (r : Rel) (s : Set) {out : List ℕ} → out ≡ [] → Out r s out s
out_none r s {out} e =
    subst (λ (l : List ℕ). Out r s l s) (sym e) (record { room = omega (arith, count_le 64 s); rest = refl })

module _ {r : Rel} {s left : Set} {out : List ℕ} (w : Out r s out left) where
  -- What one event more is.
  pub out_next : {k : ℕ} → smallest (ready r left) ≡ Some k
      → (k < 64) × (suc (count 64 (difference left (single k))) ≡ count 64 left)
  unfolding ready difference
  out_next {k} first =
      let (e, h) = smallest_some (ready r left) k first in
      (h, count_without 64 left k h (and_left _ _ (smallest_member (ready r left) k first)))

  pub out_more : {k : ℕ} → smallest (ready r left) ≡ Some k → (z : Set) → z ≡ difference left (single k) → {more : List ℕ} → more ≡ out ++ k ∷ [] → Out r s more z
  out_more {k} first z e {more} by =
      let (q, h) = smallest_some (ready r left) k first in
      let (inside, fewer) = out_next first in
      let n : ℕ = length out in
      let long : length (out ++ k ∷ []) ≡ n + 1 = length-append out (k ∷ []) in
      let kept : count 64 z ≡ count 64 (difference left (single k)) = ap (count 64) e in
      let step : k ∷ order (64 - length (out ++ k ∷ [])) r z ≡ order (64 - n) r left =
      ap₂ (λ (m : ℕ) (f : Set). k ∷ order m r f) {x = 64 - length (out ++ k ∷ [])} {y = 63 - n} (omega (arith, long)) e
      ∙ sym (order_next (63 - n) r left k q h) ∙ ap (λ (m : ℕ). order m r left) {x = suc (63 - n)} {y = 64 - n} (omega (arith, w.room, fewer)) in
      subst (λ (l : List ℕ). Out r s l z) (sym by)
      (record {
        room = omega (arith, long, kept, fewer, w.room);
        rest = append_assoc out (k ∷ []) _ ∙ ap (λ (l : List ℕ). out ++ l) step ∙ w.rest;
      })

  pub out_all : smallest (ready r left) ≡ None → out ≡ order 64 r s
  out_all none =
      sym (append-nil out) ∙ ap (λ (l : List ℕ). out ++ l) (sym (order_stop (64 - length out) r left (omega (arith, smallest_none (ready r left) none)))) ∙ w.rest

-- Where every event of s has one of s before it, r has a ring.
module _ (r : Rel) (s : Set) (within : Inside r) (none : 64 ≤ least 64 (ready r s)) where
  preceded : (x : ℕ) → x < 64 → s x ≡ true → image nodes s r x ≡ true
  unfolding ready difference
  preceded x h p =
      elim (by_test (image nodes s r x)) [
        | inl e ↦ e
        | inr e ↦ absurd (false≢true (sym ((least_is 64 (ready r s)).smaller x (omega arith)) ∙ rw e (and_both (s x) true p refl)))
      ]

  -- the event before: the least of s that leads to x
  previous : ℕ → ℕ
  previous x = least 64 (λ y. s y && r y x)

  previous_leads : (x : ℕ) → x < 64 → s x ≡ true → (previous x < 64) × (s (previous x) ≡ true) × (r (previous x) x ≡ true)
  unfolding previous
  previous_leads x h p =
      let (y, m, a, b) = image_sound nodes s r x (preceded x h p) in
      let least-y = least_lt 64 (λ z. s z && r z x) y (below_mem 64 y m) (and_both (s y) (r y x) a b) in
      let lt : previous x < 64 = omega (arith, least-y, below_mem 64 y m) in
      let both = (least_is 64 (λ z. s z && r z x)).member lt in
      (lt, and_left _ _ both, and_right (s (previous x)) _ both)

  -- and so on backward
  back : ℕ → ℕ → ℕ
  back x zero = x
  back x (suc i) = previous (back x i)

  back_in : (x : ℕ) → x < 64 → s x ≡ true → (i : ℕ) → (back x i < 64) × (s (back x i) ≡ true)
  unfolding back
  back_in x h p zero = (h, p)
  back_in x h p (suc i) =
      let (a, b) = back_in x h p i in
      let (u, v, w) = previous_leads (back x i) a b in
      (u, v)

  back_steps : (x : ℕ) → x < 64 → s x ≡ true → (i d : ℕ) → Steps r (back x (suc (i + d))) (back x i)
  unfolding back
  back_steps x h p i zero =
      let (a, b) = back_in x h p i in
      let (u, v, w) = previous_leads (back x i) a b in
      let e : i ≡ i + 0 = omega arith in
      subst (λ (k : ℕ). Steps r (previous (back x k)) (back x i)) e (one w)
  back_steps x h p i (suc d) =
      let (a, b) = back_in x h p (suc (i + d)) in
      let (u, v, w) = previous_leads (back x (suc (i + d))) a b in
      let e : suc (i + d) ≡ i + suc d = omega arith in
      subst (λ (k : ℕ). Steps r (previous (back x k)) (back x i)) e (steps_join (one w) (back_steps x h p i d))

  no_ready_ring : (x : ℕ) → x < 64 → s x ≡ true → (y : ℕ) × (plus nodes r y y ≡ true)
  no_ready_ring x h p =
      let t : Twice (back x) 64 = pigeonhole 64 (back x) (λ i q. (back_in x h p i).0) in
      let a : ℕ = t.first in
      let b : ℕ = t.second in
      let e : suc (a + (b - suc a)) ≡ b = omega (arith, t.before) in
      let around : Steps r (back x b) (back x a) = subst (λ (k : ℕ). Steps r (back x k) (back x a)) e (back_steps x h p a (b - suc a)) in (
        back x a,
        plus_complete nodes r (λ u v e. mem_below 64 u (within.source u v e)) (back x a) (back x a)
            (subst (λ (y : ℕ). Steps r y (back x a)) (sym t.same) around),
      )

-- Where r has no ring, every event of s comes out, once.
ready_in : (r : Rel) (s : Set) → least 64 (ready r s) < 64 → s (least 64 (ready r s)) ≡ true
unfolding ready difference
ready_in r s q = and_left _ _ ((least_is 64 (ready r s)).member q)

none_once : (s : Set) → ((e : ℕ) → s e ≡ false) → EachOnce s []
unfolding occurrences
none_once s none e = rw (none e)

one_once : (s : Set) (k : ℕ) (l : List ℕ) → s k ≡ true → EachOnce (difference s (single k)) l → EachOnce s (k ∷ l)
unfolding occurrences
one_once s k l p rest e =
    elim (ℕ_discrete e k) [
      | yes q ↦ rw (eq-eqb e k q, occurrences, ap s q ∙ p)
          (ap suc (rest e ∙ ap numeral (ap (difference s (single k)) q ∙ without_self s k)))
      | no d ↦ rw (ne_eqb e k d, occurrences)
          (rest e ∙ ap numeral (without_other s k e (λ q. d (sym q))))
    ]
  where
    numeral : Bool → ℕ
    numeral b = elim b [ true ↦ 1 | false ↦ 0 ]

-- A set without members below 64 or from 64 on.
nowhere : (s : Set) → ((j : ℕ) → 64 ≤ j → s j ≡ false) → ((j : ℕ) → j < 64 → s j ≡ true → ⊥) → (e : ℕ) → s e ≡ false
nowhere s high low e = elim (dec_lt e 64) [ yes h ↦ is_false (s e) (low e h) | no h ↦ high e (omega (arith, h)) ]

once_by : (r : Rel) → Inside r → ((y : ℕ) → plus nodes r y y ≡ false) → (n : ℕ) (s : Set) → ((j : ℕ) → 64 ≤ j → s j ≡ false)
    → count 64 s ≤ n → EachOnce s (order n r s)
unfolding order
once_by r within acyclic zero s high c =
    none_once s (nowhere s high (λ j h p. omega (arith, count_lt j 64 s h p)))
once_by r within acyclic (suc n) s high c =
    let k : ℕ = least 64 (ready r s) in
    elim (dec_lt k 64) [
      | yes q ↦ let member : s k ≡ true = ready_in r s q in
          let fewer : suc (count 64 (difference s (single k))) ≡ count 64 s = count_without 64 s k q member in
          subst (EachOnce s) (sym (order_next n r s k refl q))
          (one_once s k (order n r (difference s (single k))) member
          (once_by r within acyclic n (difference s (single k)) (λ j h. without_other s k j (omega arith) ∙ high j h) (omega arith)))
      | no q ↦ subst (EachOnce s) (sym (order_stop (suc n) r s (omega (arith, q))))
          (none_once s
          (nowhere s high (λ j h p. let (y, e) = no_ready_ring r s within (omega (arith, q)) j h p in false≢true (sym (acyclic y) ∙ e))))
    ]

pub each_once : (r : Rel) → Inside r → ((y : ℕ) → plus nodes r y y ≡ false) → (s : Set) → ((j : ℕ) → 64 ≤ j → s j ≡ false)
    → EachOnce s (order 64 r s)
each_once r within acyclic s high = once_by r within acyclic 64 s high (count_le 64 s)

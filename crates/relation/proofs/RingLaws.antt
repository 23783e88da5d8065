-- Laws of the ring routine: its parts together find a ring exactly where there is one.
use mathlib.Core.Path.{◌≡◌, refl, sym, ap, ap₂, subst, ◌∙◌, fun_ext}
use mathlib.Core.List.{List, [], ◌∷◌, ◌++◌, reverse}
use mathlib.Core.Bool.{Bool, true, false, ◌&&◌, false≢true}
use mathlib.Core.Logic.{◌⊎◌, inl, inr}
use Prim.Native.Nat.{ℕ, zero, suc, ◌+◌, ◌-◌, ◌<◌, ◌≤◌}
use native.Mathlib.Numerals.{add-one}
use native.Mathlib.Omega.{arith}
use native.Mathlib.Decide.{ℕ_discrete, dec_lt}
use borrow.Author.Count.{below_more}
use borrow.Author.Tests.{lt-ltb, le-ltb}
use lib.Dec.{eqb, ltb}
use lib.ListN.{length, get_or, take, drop, get_or-eq_default, get_or-append}
use lib.Seq.{get_or-take, get_or-append_seam, get_or-append_right, length-take-le}
use Rattle.std.specs.Prelude.{Option, Some, None, IsSome}
use Rattle.std.proofs.lemmas.List.{length-append, length-drop, length-reverse, get_or-drop, get_or-reverse}
use Rattle.relation.specs.Rel.{Set, Rel, empty, single, union, intersection, inverse, identity, image, compose, plus, either, diagonal, least, smallest, nodes}
use Rattle.relation.specs.Ring.{under, power, after, closed, Ring, RingOrNone, Shortest, NoneBelow, Levels, StepsBack, Way, SmallestAt, Turned}
use Rattle.relation.proofs.Truth.{is_false, and_left, and_right, and_both, or_either}
use Rattle.relation.proofs.SetLaws.{single_only, least_is, least_lt}
use Rattle.relation.proofs.SmallestLaws.{smallest_below, smallest_some, smallest_member, smallest_nothing}
use Rattle.relation.proofs.GridLaws.{inverse_back}
use Rattle.relation.proofs.Meaning.{mem_below, below_mem, image_sound, compose_sound, compose_complete, plus_sound}
use Rattle.relation.proofs.Walks.{Inside, Walk, stay, walk_join, walk_along, steps_walk, power_sound, power_complete, shorten, walk_zero}
use Rattle.relation.proofs.RingWalks.{get_d_any, ClosedWalk, ring_walk}

-- The row of one event is where every walk from it starts.
pub power_zero : (r : Rel) (s : ℕ) (t u : Set) → s < 64 → t ≡ empty → u ≡ union t (single s) → u ≡ power zero r s
unfolding power identity single under
power_zero r s t u h p e = single_only s p e ∙ fun_ext (λ j. ap (λ (b : Bool). b && eqb s j) (sym (lt-ltb s 64 h)))

pub power_suc : (r : Rel) (s k : ℕ) (t u : Set) → t ≡ power k r s → u ≡ image nodes t r → u ≡ power (k + 1) r s
unfolding power compose
power_suc r s k t u p e = rw (add-one k) (e ∙ ap (λ (f : Set). image nodes f r) p)

-- The least of the events of s from which r leads to y.
pub record Picked (s : Set) (r : Rel) (y k : ℕ) : Type 0 where
  pub inside : k < 64
  pub member : s k ≡ true
  pub leads : r k y ≡ true

pub picked : (s c : Set) (r : Rel) (y k : ℕ) → image nodes s r y ≡ true → c ≡ intersection s (inverse r y) → k ≡ least 64 c
    → Picked s r y k
unfolding intersection inverse
picked s c r y k p e l =
    let (x, m, a, b) = image_sound nodes s r y p in
    let t : c x ≡ true = ap (λ (f : Set). f x) e ∙ and_both (s x) (r x y) a b in
    let below : k < 64 = omega (arith, least_lt 64 c x (below_mem 64 x m) t, below_mem 64 x m) in
    let q : s k && r k y ≡ true = sym (ap (λ (f : Set). f k) e) ∙ rw l ((least_is 64 c).member (omega arith)) in
    record { inside = below; member = and_left (s k) (r k y) q; leads = and_right (s k) (r k y) q }

-- It is what the search for the smallest finds.
module _ (s c : Set) (r : Rel) (y : ℕ) (reached : image nodes s r y ≡ true) (is : c ≡ intersection s (inverse r y)) where
  pub picked_some : {o : Option ℕ} → o ≡ smallest c → IsSome o
  picked_some e = subst IsSome (sym (e ∙ smallest_below c (picked s c r y (least 64 c) reached is refl).inside)) refl

  pub picked_first : {o : Option ℕ} {k : ℕ} → o ≡ smallest c → o ≡ Some k → Picked s r y k
  picked_first {o} {k} e p = picked s c r y k reached is (smallest_some c k (sym e ∙ p)).0

-- Steps back from x at level n to y at level k: the events so far, the last first.
pub record Back (h b : Rel) (n x k y : ℕ) (l : List ℕ) : Type 0 where
  pub long : length l + k ≡ n + 1
  pub bound : k ≤ n
  pub inside : y < 64
  pub end : get_or l 0 zero ≡ x
  pub here : get_or l (n - k) zero ≡ y
  pub level : (j : ℕ) → k ≤ j → j ≤ n → h j (get_or l (n - j) zero) ≡ true
  pub step : (j : ℕ) → k ≤ j → j < n → b (get_or l (n - suc j) zero) (get_or l (n - j) zero) ≡ true

pub back_start : {h b : Rel} {n x : ℕ} {l : List ℕ} → l ≡ x ∷ [] → x < 64 → h n x ≡ true → Back h b n x n x l
back_start {h} {b} {n} {x} {l} e hx p =
    subst (Back h b n x n x) (sym e)
    (record {
      long = omega arith;
      bound = omega arith;
      inside = hx;
      end = refl;
      here = at_last n (omega arith);
      level = λ j a c. let q : j ≡ n = omega arith in rw (q, at_last n (omega arith)) p;
      step = λ j a c. absurd (omega arith);
    })
  where
    at_last : (j : ℕ) → n ≤ j → get_or (x ∷ []) (n - j) zero ≡ x
    at_last j h = ap (λ (i : ℕ). get_or (x ∷ []) i zero) {x = n - j} {y = 0} (omega arith)

-- The event before y: the least of its row that leads to y.
module _ {h b : Rel} {n x j y : ℕ} {l : List ℕ} (w : Back h b n x j y l) {k : ℕ} (e : j ≡ suc k) where
  pub back_reached : n < 64 → Levels h b → image nodes (h k) (inverse b) y ≡ true
  back_reached hn levels =
      let up : h (suc k) y ≡ true = subst (λ (i : ℕ). h i y ≡ true) e (rw w.here at (w.level j (omega arith) w.bound)) in
      sym (ap (λ (f : Set). f y) (levels.leads k (omega (arith, w.bound)))) ∙ up

  pub back_more : {z : ℕ} {m : List ℕ} → m ≡ l ++ z ∷ [] → Picked (h k) (inverse b) y z → Back h b n x k z m
  unfolding inverse
  back_more {z} {m} by p =
      let last : get_or m (n - k) zero ≡ z =
      ap (λ (i : List ℕ). get_or i (n - k) zero) by ∙ ap (λ (i : ℕ). get_or (l ++ z ∷ []) i zero) {x = n - k} {y = length l} (omega (arith, w.long))
      ∙ get_or-append_seam l z [] zero in
      let kept : (i : ℕ) → i < length l → get_or m i zero ≡ get_or l i zero
      = λ i q. ap (λ (t : List ℕ). get_or t i zero) by ∙ get_or-append l (z ∷ []) zero i q in
      record {
        long = omega (arith, ap length by, length-append l (z ∷ []), w.long);
        bound = omega (arith, w.bound);
        inside = p.inside;
        end = kept 0 (omega (arith, w.long, w.bound)) ∙ w.end;
        here = last;
        level = λ i a c. elim (ℕ_discrete i k) [
          | yes q ↦ rw (q, last) p.member
          | no d ↦ rw (kept (n - i) (omega (arith, d, w.long))) (w.level i (omega (arith, d)) c)
        ];
        step = λ i a c. elim (ℕ_discrete i k) [
          | yes q ↦ rw (q, last, kept (n - suc k) (omega (arith, w.long)), ap (λ (t : ℕ). get_or l (n - t) zero) (sym e), w.here) p.leads
          | no d ↦ rw (kept (n - i) (omega (arith, d, w.long)), kept (n - suc i) (omega (arith, d, w.long))) (w.step i (omega (arith, d)) c)
        ];
      }

-- The other way round they are from the first to the last.
pub back_all : {h b : Rel} {n x k y : ℕ} {l m : List ℕ} → Back h b n x k y l → k ≤ 0 → m ≡ reverse l → StepsBack h b n x m
back_all {h} {b} {n} {x} {k} {y} {l} {m} w p e =
    record {
      long = ap length e ∙ length-reverse l ∙ omega (arith, w.long);
      end = at n (omega arith) ∙ ap (λ (i : ℕ). get_or l i zero) {x = n - n} {y = 0} (omega arith) ∙ w.end;
      level = λ j c. rw (at j c) (w.level j (omega arith) c);
      step = λ j c. rw (at j (omega arith), at (suc j) (omega arith)) (w.step j (omega arith) c);
    }
  where
    at : (j : ℕ) → j ≤ n → get_or m j zero ≡ get_or l (n - j) zero
    at j h =
        ap (λ (t : List ℕ). get_or t j zero) e ∙ get_or-reverse l j zero (omega (arith, w.long))
        ∙ ap (λ (i : ℕ). get_or l i zero) {x = length l - 1 - j} {y = n - j} (omega (arith, w.long))

-- The levels of g from s, with its inverse.
pub levels_lead : (r h b : Rel) (s : ℕ) → ((k : ℕ) → k < 64 → h k ≡ power k r s) → b ≡ inverse r → Levels h b
unfolding power compose inverse
levels_lead r h b s w p =
    record {
      leads = λ k q. w (suc k) q
          ∙ ap₂ (λ (f : Set) (t : Rel). image nodes f (λ i j. t j i)) (sym (w k (omega arith))) (sym p);
    }

-- The last event of a way: one that n steps reach and that e closes.
pub closing_reached : (r e : Rel) {h : Rel} (s : ℕ) {n : ℕ} → n < 64 → ((k : ℕ) → k < 64 → h k ≡ power k r s)
    → compose nodes (power n r) e s s ≡ true → image nodes (h n) e s ≡ true
unfolding compose
closing_reached r e s {n = n} hn w p = rw (w n hn) p

pub way_of_steps : {r e h b : Rel} {s n x : ℕ} {at : List ℕ} → n < 64 → ((k : ℕ) → k < 64 → h k ≡ power k r s) → b ≡ inverse r
    → e x s ≡ true → StepsBack h b n x at → Way r e s n at
unfolding inverse
way_of_steps {at = at} hn w p c t =
    record {
      long = t.long;
      level = λ k q. sym (ap (λ (f : Set). f (get_or at k zero)) (w k (omega arith))) ∙ t.level k q;
      step = λ k q. sym (ap (λ (f : Rel). f (get_or at (suc k) zero) (get_or at k zero)) p) ∙ t.step k q;
      close = rw t.end c;
    }

-- What a closed walk of n steps comes to.
closes : {r e : Rel} {n : ℕ} → Inside r → Inside e → (c : ClosedWalk r e n) → compose nodes (power n r) e c.start c.start ≡ true
closes {r} {e} {n} ir ie c =
    compose_complete nodes (power n r) e c.start c.end c.start (mem_below 64 c.end (ie.source c.end c.start c.close))
    (power_complete r ir n c.start c.end (ie.target c.end c.start c.close) c.walk) c.close

-- No closed walk has fewer steps than the shortest, and no ring has fewer events than that has: one more than steps.
pub no_shorter : (r e : Rel) → Inside r → Inside e → (n m : ℕ) → NoneBelow n r e → ClosedWalk r e m → n ≤ m
no_shorter r e ir ie n m w c =
    elim (dec_lt m n) [
      | no h ↦ omega (arith, h)
      | yes h ↦ absurd (false≢true (sym (w m (omega arith) c.start) ∙ closes ir ie c))
    ]

no_shorter_ring : (r e : Rel) → Inside r → Inside e → (n : ℕ) → NoneBelow n r e → (l : List ℕ) → Ring r e l → n + 1 ≤ length l
no_shorter_ring r e ir ie n w l ring =
    let round = no_shorter r e ir ie n (length l - 1) w (ring_walk r e l ring (length l - 1) (omega (arith, ring.inside))) in
    omega (arith, ring.inside)

-- Where 64 steps are not enough to come back, no number is.
pub none_back : (r e : Rel) → Inside r → Inside e → NoneBelow 64 r e → (i : ℕ) → closed r e i i ≡ false
unfolding closed either union
none_back r e ir ie w i = is_false _ (λ p. elim (or_either (e i i) (compose nodes (plus nodes r) e i i) p) [ inl c ↦ direct c | inr c ↦ around c ])
  where
    short : (m x : ℕ) → m < 64 → Walk r i m x → e x i ≡ true → ⊥
    short m x hm a c = (let least = no_shorter r e ir ie 64 m w (record { start = i; end = x; walk = a; close = c }) in omega arith)

    direct : e i i ≡ true → ⊥
    direct c = short zero i (omega arith) stay c

    around : compose nodes (plus nodes r) e i i ≡ true → ⊥
    around p =
        let (x, m, a, c) = compose_sound nodes (plus nodes r) e i i p in
        let (k, u) = steps_walk (plus_sound nodes r i x a) in
        let (l, hl, v) = shorten r ir (suc k) (suc k) i x (omega arith) (ie.target x i c) u in
        short l x hl v c

-- The events of a shortest way are distinct: what lies between two that are equal could be left out.
module _ (r e : Rel) (ir : Inside r) (ie : Inside e) (s n : ℕ) (at : List ℕ) (fewest : NoneBelow n r e)
    (way : Way r e s n at) where
  part : (j d : ℕ) → j + d ≤ n → Walk r (get_or at j zero) d (get_or at (j + d) zero)
  part j d h = walk_along (λ k. get_or at k zero) j d (λ k p q. way.step k (omega arith))

  way_distinct : (i j : ℕ) → i < j → j ≤ n → get_or at i zero ≡ get_or at j zero → ⊥
  way_distinct i j a b p =
      let first : Walk r s i (get_or at i zero) = power_sound r i s (get_or at i zero) (way.level i (omega arith)) in
      let rest : Walk r (get_or at j zero) (n - j) (get_or at n zero)
      = subst (λ (k : ℕ). Walk r (get_or at j zero) (n - j) (get_or at k zero)) (omega arith) (part j (n - j) (omega arith)) in
      let whole : Walk r s (n - j + i) (get_or at n zero)
      = walk_join first (subst (λ (y : ℕ). Walk r y (n - j) (get_or at n zero)) (sym p) rest) in
      let least = no_shorter r e ir ie n (n - j + i) fewest (record { start = s; end = get_or at n zero; walk = whole; close = way.close }) in
      omega arith

  way_start : s ≡ get_or at zero zero
  way_start = walk_zero (power_sound r zero s (get_or at zero zero) (way.level zero (omega arith)))

-- The index that comes to k when n places are rotated left by m.
unfoldable turned_to : ℕ → ℕ → ℕ → ℕ
turned_to k m n = elim (ltb (k + m) n) [ true ↦ k + m | false ↦ k + m - n ]

turned_low : (k m n : ℕ) → k + m < n → turned_to k m n ≡ k + m
unfolding turned_to
turned_low k m n h = rw (lt-ltb (k + m) n h, turned_to)

turned_high : (k m n : ℕ) → n ≤ k + m → turned_to k m n ≡ k + m - n
unfolding turned_to
turned_high k m n h = rw (le-ltb (k + m) n h, turned_to)

-- Where a place comes from: by the two cases of `turned_to`.
record Place (k m n j : ℕ) : Type 0 where
  inside : j < n
  from : (j ≡ k + m) ⊎ (j + n ≡ k + m)

place : (k m n : ℕ) → k < n → m < n → Place k m n (turned_to k m n)
place k m n hk hm =
    elim (dec_lt (k + m) n) [
      | yes h ↦ record { inside = rw (turned_low k m n h) h; from = inl (turned_low k m n h) }
      | no h ↦ let e : turned_to k m n ≡ k + m - n = turned_high k m n (omega (arith, h)) in
          record { inside = omega (arith, e); from = inr (omega (arith, e, h)) }
    ]

-- What follows of two places, case by case.
by_cases : {A B C D : Type 0} {P : Type 0} → A ⊎ B → C ⊎ D → (A → C → P) → (A → D → P) → (B → C → P) → (B → D → P) → P
by_cases (inl a) (inl c) p q s t = p a c
by_cases (inl a) (inr d) p q s t = q a d
by_cases (inr b) (inl c) p q s t = s b c
by_cases (inr b) (inr d) p q s t = t b d

same_place : {i j m n a b : ℕ} → i < n → j < n → Place i m n a → Place j m n b → a ≡ b → i ≡ j
same_place hi hj p q e =
    by_cases p.from q.from (λ x y. omega arith) (λ x y. absurd (omega (arith, p.inside)))
    (λ x y. absurd (omega (arith, q.inside))) (λ x y. omega arith)

next_place : {k m n a b : ℕ} → Place k m (n + 1) a → Place (suc k) m (n + 1) b → (a ≡ n → ⊥) → b ≡ suc a
next_place p q d =
    by_cases p.from q.from (λ x y. omega arith) (λ x y. absurd (omega (arith, p.inside, d, q.inside)))
    (λ x y. absurd (omega (arith, q.inside))) (λ x y. omega arith)

wrapped_place : {k m n a b : ℕ} → Place k m (n + 1) a → Place (suc k) m (n + 1) b → k < n → m ≤ n → a ≡ n → b ≡ 0
wrapped_place p q h g e =
    by_cases p.from q.from (λ x y. absurd (omega (arith, q.inside))) (λ x y. omega arith)
    (λ x y. absurd (omega arith)) (λ x y. absurd (omega arith))

zero_place : {m n a : ℕ} → Place 0 m n a → m < n → a ≡ m
zero_place p h = elim p.from [ inl x ↦ omega arith | inr x ↦ absurd (omega arith) ]

last_place : {m n a : ℕ} → Place n m (n + 1) a → m ≤ n → (a ≡ n → ⊥) → m ≡ suc a
last_place p h d = elim p.from [ inl x ↦ absurd (omega (arith, d, p.inside)) | inr x ↦ omega arith ]

last_back : {m n a : ℕ} → Place n m (n + 1) a → m ≤ n → a ≡ n → m ≡ 0
last_back p h e = elim p.from [ inl x ↦ omega arith | inr x ↦ absurd (omega arith) ]

end_place : {k m n a : ℕ} → Place k m (n + 1) a → k < n + 1 → m ≤ n → a ≡ n → k ≡ n - m
end_place p h g e = elim p.from [ inl x ↦ omega arith | inr x ↦ absurd (omega arith) ]

-- Where each event of a list is after the rotation.
turned_at : (l : List ℕ) (m k : ℕ) → m ≤ length l → k < length l → get_or (drop m l ++ take m l) k zero ≡ get_or l (turned_to k m (length l)) zero
turned_at l m k hm hk =
    elim (dec_lt (k + m) (length l)) [
      | yes h ↦ get_or-append (drop m l) (take m l) zero k (omega (arith, length-drop m l)) ∙ get_or-drop m l k zero
          ∙ ap (λ (i : ℕ). get_or l i zero) {x = m + k} {y = k + m} (omega arith)
          ∙ ap (λ (i : ℕ). get_or l i zero) (sym (turned_low k m (length l) h))
      | no h ↦ get_or-append_right (drop m l) (take m l) k zero (omega (arith, h, length-drop m l))
          ∙ get_or-take m l (k - length (drop m l)) zero (omega (arith, h, length-drop m l))
          ∙ ap (λ (i : ℕ). get_or l i zero) {x = k - length (drop m l)} {y = k + m - length l} (omega (arith, h, hm, length-drop m l))
          ∙ ap (λ (i : ℕ). get_or l i zero) (sym (turned_high k m (length l) (omega (arith, h))))
    ]

-- A way that comes round to a smallest event is a ring.
module _ (r e : Rel) (ir : Inside r) (ie : Inside e) (s n : ℕ) (at : List ℕ) (fewest : NoneBelow n r e)
    (way : Way r e s n at) (out : List ℕ) (turned : Turned at out) where
  pub turned_long : length out ≡ n + 1
  turned_long = ap length turned.turned ∙ length-append (drop turned.shift at) (take turned.shift at)
      ∙ omega (arith, length-drop turned.shift at, length-take-le turned.shift at (omega (arith, turned.front.inside)), turned.front.inside, way.long)

  pub ring_of_way : Ring r e out
  unfolding after
  ring_of_way =
      record {
        distinct = λ i j a b p. way_distinct_at i j a (rw long at b) p;
        smallest = λ k h. smallest_at k (rw long at h);
        closing = n - m;
        inside = rw long closing_in;
        steps = λ k h d. step_at k (rw long at h) d;
        closes = close_at;
      }
    where
      m : ℕ
      m = turned.shift

      front : SmallestAt at (n + 1) m
      front = subst (λ (k : ℕ). SmallestAt at k m) (omega (arith, way.long)) turned.front

      shift_le : m ≤ n
      shift_le = omega (arith, front.inside)

      from : ℕ → ℕ
      from k = turned_to k m (n + 1)

      long : length out ≡ n + 1
      long = turned_long

      at_place : (k : ℕ) → k < n + 1 → Place k m (n + 1) (from k)
      at_place k h = place k m (n + 1) h front.inside

      event : (k d : ℕ) → k < n + 1 → get_or out k d ≡ get_or at (from k) zero
      event k d h =
          get_d_any out k d zero (omega (arith, long)) ∙ ap (λ (l : List ℕ). get_or l k zero) turned.turned
          ∙ turned_at at m k (omega (arith, shift_le, way.long)) (omega (arith, way.long))
          ∙ ap (λ (c : ℕ). get_or at (turned_to k m c) zero) {x = length at} {y = n + 1} (omega (arith, way.long))

      first_event : get_or out zero zero ≡ get_or at m zero
      first_event = event zero zero (omega arith)
          ∙ ap (λ (j : ℕ). get_or at j zero) (zero_place (at_place zero (omega arith)) (omega (arith, shift_le)))

      -- the event after the last place is the first
      wraps : (k : ℕ) → k ≡ n → after out k ≡ get_or at m zero
      wraps k q = get_or-eq_default out _ (omega (arith, long)) ∙ first_event

      next : (k : ℕ) → k < n + 1 → (from k ≡ n → ⊥) → after out k ≡ get_or at (suc (from k)) zero
      next k h d =
          elim (dec_lt k n) [
            | yes g ↦ event (suc k) _ (omega arith)
                ∙ ap (λ (j : ℕ). get_or at j zero)
                (next_place (at_place k h) (at_place (suc k) (omega arith)) d)
            | no g ↦ let q : k ≡ n = omega (arith, g) in
                wraps k q
                ∙ ap (λ (j : ℕ). get_or at j zero) (last_place (subst (λ (x : ℕ). Place x m (n + 1) (from k)) q (at_place k h)) shift_le d)
          ]

      back : (k : ℕ) → k < n + 1 → from k ≡ n → after out k ≡ s
      back k h e' =
          elim (dec_lt k n) [
            | yes g ↦ event (suc k) _ (omega arith)
                ∙ ap (λ (j : ℕ). get_or at j zero)
                (wrapped_place (at_place k h) (at_place (suc k) (omega arith)) g shift_le e')
                ∙ sym start
            | no g ↦ let q : k ≡ n = omega (arith, g) in
                wraps k q
                ∙ ap (λ (j : ℕ). get_or at j zero) (last_back (subst (λ (x : ℕ). Place x m (n + 1) (from k)) q (at_place k h)) shift_le e')
                ∙ sym start
          ]
        where
          start : s ≡ get_or at zero zero
          start = way_start r e ir ie s n at fewest way

      way_distinct_at : (i j : ℕ) → i < j → j < n + 1 → get_or out i zero ≡ get_or out j zero → ⊥
      way_distinct_at i j a b p =
          let same : get_or at (from i) zero ≡ get_or at (from j) zero = sym (event i zero (omega arith)) ∙ p ∙ event j zero b in
          let pi = at_place i (omega arith) in
          let pj = at_place j b in
          elim (ℕ_discrete (from i) (from j)) [
            | yes q ↦ let w = same_place (omega arith) b pi pj q in omega arith
            | no d ↦ elim (dec_lt (from i) (from j)) [
              | yes q ↦ apart (from i) (from j) q (omega (arith, pj.inside)) same
              | no q ↦ apart (from j) (from i) (omega (arith, d, q)) (omega (arith, pi.inside)) (sym same)
            ]
          ]
        where
          apart : (i j : ℕ) → i < j → j ≤ n → get_or at i zero ≡ get_or at j zero → ⊥
          apart = way_distinct r e ir ie s n at fewest way

      smallest_at : (k : ℕ) → k < n + 1 → get_or out zero zero ≤ get_or out k zero
      smallest_at k h = rw (first_event, event k zero h) (front.least (from k) (at_place k h).inside)

      closing_in : n - m < n + 1
      closing_in = omega arith

      closing_end : from (n - m) ≡ n
      closing_end = turned_low (n - m) m (n + 1) (omega (arith, shift_le)) ∙ omega (arith, shift_le)

      step_at : (k : ℕ) → k < n + 1 → (k ≡ n - m → ⊥) → r (get_or out k zero) (after out k) ≡ true
      step_at k h d =
          let inner : from k ≡ n → ⊥ = λ q. d (end_place (at_place k h) h shift_le q) in
          rw (event k zero h, next k h inner) (way.step (from k) (omega (arith, inner, (at_place k h).inside)))

      close_at : e (get_or out (n - m) zero) (after out (n - m)) ≡ true
      close_at = rw (event (n - m) zero closing_in, back (n - m) closing_in closing_end, closing_end) way.close

-- The answer of the ring routine.
pub ring_none : {r e : Rel} {l : List ℕ} → Inside r → Inside e → NoneBelow 64 r e → l ≡ [] → RingOrNone r e l
ring_none ir ie w p = record { none = λ q. none_back _ _ ir ie w; ring = λ q. absurd (omega (arith, ap length p)) }

pub ring_some : {r e : Rel} {n s : ℕ} {at out : List ℕ} → Inside r → Inside e → Shortest r e n s → Way r e s n at → Turned at out → RingOrNone r e out
ring_some {r} {e} {n} {s} {at} {out} ir ie w y t =
    let long : length out ≡ n + 1 = turned_long r e ir ie s n at w.fewest y out t in
    record {
      none = λ q. absurd (omega (arith, q, long));
      ring = λ q. record {
        ring = ring_of_way r e ir ie s n at w.fewest y out t;
        fewest = λ k ring. omega (arith, long, no_shorter_ring r e ir ie n w.fewest k ring);
      };
    }

-- The rounds of `shortest`.
pub power_identity : (r p : Rel) (s : Set) → s ≡ under 64 → p ≡ identity s → p ≡ power 0 r
unfolding power
power_identity r p s a b = b ∙ ap identity a

pub power_then : (r p q : Rel) (n : ℕ) → p ≡ power n r → q ≡ compose nodes p r → q ≡ power (n + 1) r
unfolding power
power_then r p q n a b = rw (add-one n) (b ∙ ap (λ (f : Rel). compose nodes f r) a)

-- One round of `shortest`: an event that n steps and e, given the other way round, bring back to itself, or none.
module _ (r b e p : Rel) (x : Set) (n : ℕ) (other : b ≡ inverse e) (at_n : p ≡ power n r)
    (returning : x ≡ diagonal (compose nodes p (inverse b))) where
  on : x ≡ diagonal (compose nodes (power n r) e)
  on = returning ∙ ap₂ (λ (f c : Rel). diagonal (compose nodes f c)) at_n (inverse_back b e other)

  pub round_found : {s : ℕ} → smallest x ≡ Some s → n < 64 → NoneBelow n r e → Shortest r e n s
  unfolding diagonal
  round_found {s} first h fewer =
      record {
        few = h;
        inside = (smallest_some x s first).1;
        closes = ap (λ (f : Set). f s) (sym on) ∙ smallest_member x s first;
        fewest = fewer;
      }

  pub round_none : ((t : ℕ) → 64 ≤ t → x t ≡ false) → smallest x ≡ None → NoneBelow n r e → NoneBelow (n + 1) r e
  unfolding diagonal
  round_none out none fewer =
      below_more _ n fewer
      (λ t. ap (λ (f : Set). f t) (sym on)
      ∙ elim (dec_lt t 64) [ yes h ↦ smallest_nothing x none t h | no h ↦ out t (omega (arith, h)) ])

-- The place of a smallest, one event more at a time.
pub smallest_one : (at : List ℕ) → SmallestAt at 1 0
smallest_one at = record { inside = omega arith; least = λ j h. let q : j ≡ 0 = omega arith in rw q (omega arith) }

pub smallest_new : (at : List ℕ) (m k : ℕ) → SmallestAt at k m → get_or at k zero < get_or at m zero → SmallestAt at (k + 1) k
smallest_new at m k w h =
    record { inside = omega arith; least = below_more _ k (λ j q. omega (arith, w.least j q)) (omega arith) }

pub smallest_old : (at : List ℕ) (m k : ℕ) → SmallestAt at k m → get_or at m zero ≤ get_or at k zero → SmallestAt at (k + 1) m
smallest_old at m k w h = record { inside = omega (arith, w.inside); least = below_more _ k w.least h }

pub smallest_done : (at : List ℕ) (m k n : ℕ) → k ≡ n → SmallestAt at k m → SmallestAt at n m
smallest_done at m k n e w = subst (λ (j : ℕ). SmallestAt at j m) e w

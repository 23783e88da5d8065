-- Laws of chains: the walk with marks answers what the definitions say.
use mathlib.Core.Path.{◌≡◌, refl, sym, ap, ap₂, subst, ◌∙◌}
use mathlib.Core.Bool.{Bool, true, false, not, ◌&&◌, ◌||◌, false≢true, or-false, and-true, and_assoc, or_assoc, or_comm}
use mathlib.Core.List.{List, [], ◌∷◌, ◌++◌}
use Prim.Native.Nat.{ℕ, zero, suc, ◌+◌, ◌-◌, ◌<◌, ◌≤◌}
use Rattle.std.specs.List.{list_all}
use Rattle.std.proofs.lemmas.List.{take_more, get_or-drop}
use Rattle.std.proofs.lemmas.List.Folds.{list_all-append}
use native.Mathlib.Numerals.{add-one}
use native.Mathlib.Omega.{arith}
use native.Mathlib.Decide.{ℕ_discrete}
use borrow.Author.Tests.{eq-eqb, ne_eqb, le-leb, lt-leb}
use lib.Dec.{eqb, leb}
use lib.ListN.{length, get_or, set, replicate, take, drop, length-set, length-drop, get_or-replicate}
use lib.Seq.{get_or-set_same, get_or-set_other}
use Rattle.relation.proofs.Truth.{is_false, and_left, and_right}
use Rattle.layout.specs.Chains.{among, follow, chain, met, fresh, each, all_met, once_each, pushed, Marked, Followed}

-- What a chain meets next, by cases.
pub follow_end : (limit : ℕ) (next : ℕ → ℕ) (n : ℕ) → follow limit next n 0 ≡ []
unfolding follow
follow_end limit next zero = refl
follow_end limit next (suc n) = refl

pub follow_none : (limit : ℕ) (next : ℕ → ℕ) (n x : ℕ) → n ≤ 0 → follow limit next n x ≡ []
unfolding follow
follow_none limit next zero x h = refl
follow_none limit next (suc n) x h = absurd (omega arith)

pub follow_over : (limit : ℕ) (next : ℕ → ℕ) (n x : ℕ) → (x ≡ 0 → ⊥) → limit < x → follow limit next (suc n) x ≡ x ∷ []
unfolding follow
follow_over limit next n x d h = rw (ne_eqb x 0 d, follow) (rw (lt-leb x limit h))

pub follow_in : (limit : ℕ) (next : ℕ → ℕ) (n x : ℕ) → (x ≡ 0 → ⊥) → x ≤ limit → follow limit next (suc n) x ≡ x ∷ follow limit next n (next x)
unfolding follow
follow_in limit next n x d h = rw (ne_eqb x 0 d, follow) (rw (le-leb x limit h))

-- Marks.
pub marked_none : Marked [] (replicate 256 false)
unfolding among
marked_none = record { long = refl; each = λ x h. get_or-replicate 256 x false false h }

pub marked_more : (l : List ℕ) (at : List Bool) (x : ℕ) → x < 256 → Marked l at → Marked (x ∷ l) (set at x true)
unfolding among
marked_more l at x h w =
    record {
      long = length-set at x true ∙ w.long;
      each = λ y g. elim (ℕ_discrete y x) [
        | yes e ↦ ap (λ (k : ℕ). get_or (set at x true) k false) e ∙ get_or-set_same at x true false (omega (arith, w.long))
            ∙ ap (λ (b : Bool). b || among y l) (sym (eq-eqb y x e))
        | no d ↦ get_or-set_other at x y true false d ∙ w.each y g ∙ ap (λ (b : Bool). b || among y l) (sym (ne_eqb y x d))
      ];
    }

-- A chain followed in part: what is left of it decides what the whole does.
pub record Going (limit : ℕ) (next : ℕ → ℕ) (l whole : List ℕ) (n x : ℕ) (at : List Bool) : Type 0 where
  pub seen : List ℕ
  pub marked : Marked seen at
  pub same : fresh limit l whole ≡ fresh limit seen (follow limit next n x)
  pub rest : pushed whole l ≡ pushed (follow limit next n x) seen

pub going_start : (limit : ℕ) (next : ℕ → ℕ) (l : List ℕ) (x : ℕ) (at : List Bool) → Marked l at → Going limit next l (chain limit next x) (limit + 1) x at
going_start limit next l x at w = rw (add-one limit) (record { seen = l; marked = w; same = refl; rest = refl })

module _ {limit : ℕ} {next : ℕ → ℕ} {l whole : List ℕ} {n x : ℕ} {at : List Bool} (w : Going limit next l whole n x at) where
  pub going_done : follow limit next n x ≡ [] → Followed limit l whole true at
  unfolding fresh pushed
  going_done e =
      record {
        answer = sym (w.same ∙ ap (fresh limit w.seen) e);
        marked = λ p. subst (λ (k : List ℕ). Marked k at) (sym (w.rest ∙ ap (λ (c : List ℕ). pushed c w.seen) e)) w.marked;
      }

  fails : (c : List ℕ) → follow limit next n x ≡ c → fresh limit w.seen c ≡ false → Followed limit l whole false at
  fails c e p = record { answer = sym (w.same ∙ ap (fresh limit w.seen) e ∙ p); marked = λ q. absurd (false≢true q) }

  pub going_over : (m : ℕ) → n ≡ suc m → (x ≡ 0 → ⊥) → limit < x → Followed limit l whole false at
  unfolding fresh
  going_over m e d h =
      fails (x ∷ []) (ap (λ (k : ℕ). follow limit next k x) e ∙ follow_over limit next m x d h) (rw (lt-leb x limit h))

  pub going_twice : (m : ℕ) → n ≡ suc m → (x ≡ 0 → ⊥) → x ≤ limit → x < 256 → get_or at x false ≡ true → Followed limit l whole false at
  unfolding fresh
  going_twice m e d h g p =
      fails (x ∷ follow limit next m (next x)) (ap (λ (k : ℕ). follow limit next k x) e ∙ follow_in limit next m x d h)
      (rw (le-leb x limit h, sym (w.marked.each x g) ∙ p))

  pub going_on : (m y : ℕ) → n ≡ suc m → (x ≡ 0 → ⊥) → x ≤ limit → x < 256 → get_or at x false ≡ false → y ≡ next x
      → Going limit next l whole m y (set at x true)
  unfolding fresh pushed
  going_on m y e d h g p q =
      let step : follow limit next n x ≡ x ∷ follow limit next m y
      = ap (λ (k : ℕ). follow limit next k x) e ∙ follow_in limit next m x d h
      ∙ ap (λ (z : ℕ). x ∷ follow limit next m z) (sym q) in
      record {
        seen = x ∷ w.seen;
        marked = marked_more w.seen at x g w.marked;
        same = w.same ∙ ap (fresh limit w.seen) step
            ∙ ap (λ (b : Bool). b && fresh limit (x ∷ w.seen) (follow limit next m y)) (tests (le-leb x limit h) (sym (w.marked.each x g) ∙ p));
        rest = w.rest ∙ ap (λ (c : List ℕ). pushed c w.seen) step;
      }
    where
      tests : leb x limit ≡ true → among x w.seen ≡ false → leb x limit && not (among x w.seen) ≡ true
      tests a b = ap₂ (λ (s t : Bool). s && not t) a b

-- A chain counted in part: n numbers were met, and the rest is the chain from x.
pub record Counted (limit : ℕ) (next : ℕ → ℕ) (whole : List ℕ) (n x : ℕ) : Type 0 where
  pub most : n ≤ limit + 1
  pub rest : length whole ≡ n + length (follow limit next (limit + 1 - n) x)

pub count_begin : (limit : ℕ) (next : ℕ → ℕ) (x : ℕ) → Counted limit next (chain limit next x) 0 x
count_begin limit next x =
    let all : suc limit ≡ limit + 1 - 0 = omega arith in
    record { most = omega arith; rest = omega (arith, ap (λ (k : ℕ). length (follow limit next k x)) all) }

module _ {limit : ℕ} {next : ℕ → ℕ} {whole : List ℕ} {n x : ℕ} (w : Counted limit next whole n x) where
  pub count_end : x ≡ 0 → n ≡ length whole
  count_end e = omega (arith, w.rest, ap length (ap (follow limit next (limit + 1 - n)) e ∙ follow_end limit next (limit + 1 - n)))

  pub count_done : limit < n → n ≡ length whole
  count_done h = omega (arith, w.rest, ap length (follow_none limit next (limit + 1 - n) x (omega arith)))

  -- One number more.
  one_more : n ≤ limit → follow limit next (limit + 1 - n) x ≡ follow limit next (suc (limit - n)) x
  one_more h = (let e : limit + 1 - n ≡ suc (limit - n) = omega arith in ap (λ (k : ℕ). follow limit next k x) e)

  pub count_over : n ≤ limit → (x ≡ 0 → ⊥) → limit < x → n + 1 ≡ length whole
  count_over h d g = omega (arith, w.rest, ap length (one_more h ∙ follow_over limit next (limit - n) x d g))

  pub count_on : (y : ℕ) → n ≤ limit → (x ≡ 0 → ⊥) → x ≤ limit → y ≡ next x → Counted limit next whole (n + 1) y
  count_on y h d g e =
      let fewer : limit - n ≡ limit + 1 - (n + 1) = omega arith in
      let left : follow limit next (limit - n) (next x) ≡ follow limit next (limit + 1 - (n + 1)) y = ap₂ (follow limit next) fewer (sym e) in
      record { most = omega arith; rest = omega (arith, w.rest, ap length (one_more h ∙ follow_in limit next (limit - n) x d g), ap length left) }

-- Chains one after the other.
pub fresh_append : (limit : ℕ) (seen xs ys : List ℕ) → fresh limit seen (xs ++ ys) ≡ fresh limit seen xs && fresh limit (pushed xs seen) ys
unfolding fresh pushed
fresh_append limit seen [] ys = refl
fresh_append limit seen (x ∷ xs) ys =
    ap (λ (b : Bool). (leb x limit && not (among x seen)) && b) (fresh_append limit (x ∷ seen) xs ys)
    ∙ sym (and_assoc (leb x limit && not (among x seen)) (fresh limit (x ∷ seen) xs) (fresh limit (pushed xs (x ∷ seen)) ys))

pub pushed_append : (xs ys l : List ℕ) → pushed (xs ++ ys) l ≡ pushed ys (pushed xs l)
unfolding pushed
pushed_append [] ys l = refl
pushed_append (x ∷ xs) ys l = pushed_append xs ys (x ∷ l)

pub among_pushed : (x : ℕ) (xs l : List ℕ) → among x (pushed xs l) ≡ among x xs || among x l
unfolding pushed among
among_pushed x [] l = refl
among_pushed x (y ∷ xs) l =
    among_pushed x xs (y ∷ l) ∙ sym (or_assoc (among x xs) (eqb x y) (among x l)) ∙ ap (λ (b : Bool). b || among x l) (or_comm (among x xs) (eqb x y))

-- A test of every number from 1 to n.
pub each_same : (n : ℕ) (p q : ℕ → Bool) → ((x : ℕ) → p x ≡ q x) → each n p ≡ each n q
unfolding each
each_same zero p q e = refl
each_same (suc n) p q e = ap₂ ◌&&◌ (each_same n p q e) (e (suc n))

-- The same where the tests agree on these numbers.
each_below : (n : ℕ) (p q : ℕ → Bool) → ((x : ℕ) → x ≤ n → p x ≡ q x) → each n p ≡ each n q
unfolding each
each_below zero p q e = refl
each_below (suc n) p q e = ap₂ ◌&&◌ (each_below n p q (λ x h. e x (omega arith))) (e (suc n) (omega arith))

pub each_at : (n : ℕ) (p : ℕ → Bool) → each n p ≡ true → (k : ℕ) → 1 ≤ k → k ≤ n → p k ≡ true
unfolding each
each_at zero p a k h g = absurd (omega arith)
each_at (suc n) p a k h g =
    elim (ℕ_discrete k (suc n)) [
      | yes e ↦ ap p e ∙ and_right (each n p) (p (suc n)) a
      | no d ↦ each_at n p (and_left (each n p) (p (suc n)) a) k h (omega (arith, d))
    ]

-- Whether the marks of the numbers from 1 to n are all true.
marks_each : (n : ℕ) (at : List Bool) → n < length at → list_all (λ b. b) (take n (drop 1 at)) ≡ each n (λ x. get_or at x false)
unfolding each
marks_each zero at h = refl
marks_each (suc n) at h =
    ap (λ (k : ℕ). list_all (λ b. b) (take k (drop 1 at))) (sym (add-one n))
    ∙ ap (list_all (λ b. b)) (take_more (drop 1 at) n false (omega (arith, h, length-drop 1 at)))
    ∙ list_all-append (λ b. b) (take n (drop 1 at)) (get_or (drop 1 at) n false ∷ [])
    ∙ ap₂ ◌&&◌ (marks_each n at (omega arith)) (and-true (get_or (drop 1 at) n false) ∙ get_or-drop 1 at n false ∙ ap (λ (k : ℕ). get_or at k false) (omega arith))

pub marked_each : (l : List ℕ) (at : List Bool) (limit n : ℕ) → limit < 256 → Marked l at → n ≡ limit → list_all (λ b. b) (take n (drop 1 at)) ≡ all_met limit l
marked_each l at limit n h w e =
    ap (λ (k : ℕ). list_all (λ b. b) (take k (drop 1 at))) e ∙ marks_each limit at (omega (arith, w.long))
    ∙ each_below limit (λ x. get_or at x false) (λ x. among x l) (λ x g. w.each x (omega arith))

-- Chains on which together nothing is met twice: so are the first of them, and each behind those before it.
module _ (limit : ℕ) (next start : ℕ → ℕ) where
  pub fresh_upto : (n j : ℕ) → j ≤ n → fresh limit [] (met limit next start n) ≡ true → fresh limit [] (met limit next start j) ≡ true
  unfolding met
  fresh_upto zero j h p = (let e : zero ≡ j = omega arith in subst (λ (k : ℕ). fresh limit [] (met limit next start k) ≡ true) e p)
  fresh_upto (suc n) j h p =
      elim (ℕ_discrete (suc n) j) [
        | yes e ↦ subst (λ (k : ℕ). fresh limit [] (met limit next start k) ≡ true) e p
        | no d ↦ fresh_upto n j (omega (arith, d)) (and_left _ _ (sym (fresh_append limit [] (met limit next start n) (chain limit next (start n))) ∙ p))
      ]

  pub fresh_behind : (n j : ℕ) → j < n → fresh limit [] (met limit next start n) ≡ true
      → fresh limit (pushed (met limit next start j) []) (chain limit next (start j)) ≡ true
  unfolding met
  fresh_behind n j h p =
      let both = sym (fresh_append limit [] (met limit next start j) (chain limit next (start j))) ∙ fresh_upto n (suc j) (omega arith) p in
      and_right (fresh limit [] (met limit next start j)) _ both

-- After j chains: all sound so far, and what they met is marked.
pub record Walked (limit : ℕ) (next start : ℕ → ℕ) (j : ℕ) (marks : List Bool) : Type 0 where
  pub sound : fresh limit [] (met limit next start j) ≡ true
  pub marked : Marked (pushed (met limit next start j) []) marks

pub walked_none : (limit : ℕ) (next start : ℕ → ℕ) → Walked limit next start 0 (replicate 256 false)
unfolding met fresh pushed
walked_none limit next start = record { sound = refl; marked = marked_none }

-- One chain more, from x, which is start j.
module _ {limit : ℕ} {next start : ℕ → ℕ} {j x : ℕ} {marks : List Bool} {sound : Bool} {at : List Bool} (e : x ≡ start j) (w : Walked limit next start j marks)
    (g : (l : List ℕ) → Marked l marks → Followed limit l (chain limit next x) sound at) where
  followed : Followed limit (pushed (met limit next start j) []) (chain limit next (start j)) sound at
  followed = subst (λ (y : ℕ). Followed limit (pushed (met limit next start j) []) (chain limit next y) sound at) e (g _ w.marked)

  step : fresh limit [] (met limit next start (j + 1)) ≡ sound
  unfolding met
  step = rw (add-one j, met) (fresh_append limit [] (met limit next start j) (chain limit next (start j)) ∙ ap₂ ◌&&◌ w.sound (sym followed.answer))

  pub walked_more : sound ≡ true → Walked limit next start (j + 1) at
  unfolding met
  walked_more p =
      record {
        sound = step ∙ p;
        marked = rw (add-one j, met) (rw (pushed_append (met limit next start j) (chain limit next (start j)) []) (followed.marked p));
      }

  -- an unsound chain leaves all unsound
  pub walked_fails : {n : ℕ} → j < n → sound ≡ false → false ≡ once_each limit (met limit next start n)
  unfolding once_each
  walked_fails {n} h p =
      let unsound = is_false (fresh limit [] (met limit next start n))
      (λ q. false≢true (sym (step ∙ p) ∙ fresh_upto limit next start n (j + 1) (omega arith) q)) in
      sym (ap (λ (b : Bool). b && all_met limit (met limit next start n)) unsound)

pub walked_all : {limit : ℕ} {next start : ℕ → ℕ} {n k : ℕ} {marks : List Bool} {b : Bool} → k ≡ n → Walked limit next start k marks
    → ((l : List ℕ) → Marked l marks → b ≡ all_met limit l) → b ≡ once_each limit (met limit next start n)
unfolding once_each among
walked_all {limit} {next} {start} {n} {k} {marks} e v f =
    let all = met limit next start n in
    let w : Walked limit next start n marks = subst (λ (i : ℕ). Walked limit next start i marks) e v in
    f (pushed all []) w.marked
    ∙ each_same limit (λ x. among x (pushed all [])) (λ x. among x all) (λ x. among_pushed x all [] ∙ or-false (among x all))
    ∙ ap (λ (c : Bool). c && all_met limit all) (sym w.sound)

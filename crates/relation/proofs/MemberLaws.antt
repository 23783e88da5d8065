-- Laws of the list of a set's members, the smallest first, and of a loop over it.
use mathlib.Core.Path.{◌≡◌, refl, sym, ap, ap₂, subst, ◌∙◌}
use mathlib.Core.List.{List, [], ◌∷◌}
use mathlib.Core.Bool.{Bool, true, false, not, ◌&&◌, false≢true, and-true}
use Prim.Native.Nat.{ℕ, zero, suc, ◌+◌, ◌-◌, ◌<◌, ◌≤◌}
use native.Mathlib.Omega.{arith}
use native.Mathlib.Decide.{ℕ_discrete, dec_lt}
use borrow.Author.Count.{below_more}
use borrow.Author.Tests.{eq-eqb, ne_eqb}
use Rattle.std.specs.Prelude.{Some, None, cond, filter}
use Rattle.std.specs.List.{range_with_len}
use Rattle.relation.specs.Rel.{Set, Next, members, smallest, single, difference}
use Rattle.relation.proofs.SmallestLaws.{smallest_some, smallest_member, smallest_before, smallest_nothing, smallest_at, smallest_not}

-- The members among the n numbers from k on.
abbrev pub members_from : ℕ → ℕ → Set → List ℕ
members_from k n s = filter s (range_with_len k n)

-- They are the same for sets that agree there.
from_same : (k n : ℕ) (s t : Set) → ((j : ℕ) → k ≤ j → s j ≡ t j) → members_from k n s ≡ members_from k n t
from_same k zero s t f = refl
from_same k (suc n) s t f =
    ap₂ (λ (b : Bool) (xs : List ℕ). cond b (k ∷ xs) xs) (f k (omega arith)) (from_same (k + 1) n s t (λ j h. f j (omega arith)))

-- The first of them is the smallest, and the others are the members without it.
module _ (s : Set) (k : ℕ) (here : s k ≡ true) where
  apart : (j : ℕ) → (k ≡ j → ⊥) → s j ≡ difference s (single k) j
  unfolding difference single
  apart j d = sym (ap (λ (b : Bool). s j && not b) (ne_eqb k j d) ∙ and-true (s j))

  gone : difference s (single k) k ≡ false
  unfolding difference single
  gone = rw (eq-eqb k k refl) (ap (λ (b : Bool). b && false) here)

  from_first : (i n : ℕ) → i ≤ k → k < i + n → ((j : ℕ) → i ≤ j → j < k → s j ≡ false)
      → members_from i n s ≡ k ∷ members_from i n (difference s (single k))
  from_first i zero l h f = absurd (omega arith)
  from_first i (suc n) l h f =
      elim (ℕ_discrete i k) [
        | yes e ↦ rw (e, here, gone) (ap (λ (xs : List ℕ). k ∷ xs) (from_same (k + 1) n s (difference s (single k)) (λ j g. apart j (λ q. omega (arith, q, g)))))
        | no d ↦
            let off : s i ≡ false = f i (omega arith) (omega (arith, d)) in
            rw (off, sym (apart i (λ q. d (sym q))) ∙ off) (from_first (i + 1) n (omega (arith, d)) (omega arith) (λ j g. f j (omega arith)))
      ]

from_none : (i n : ℕ) (s : Set) → ((j : ℕ) → i ≤ j → j < i + n → s j ≡ false) → members_from i n s ≡ []
from_none i zero s f = refl
from_none i (suc n) s f = rw (f i (omega arith) (omega arith)) (from_none (i + 1) n s (λ j g h. f j (omega arith) (omega arith)))

pub members_first : (s : Set) (k : ℕ) → smallest s ≡ Some k → members s ≡ k ∷ members (difference s (single k))
unfolding members
members_first s k e =
    let (p, h) = smallest_some s k e in
    from_first s k (smallest_member s k e) 0 64 (omega arith) (omega arith) (λ j g l. smallest_before s k e j l)

pub members_none : (s : Set) → smallest s ≡ None → members s ≡ []
unfolding members
members_none s e = from_none 0 64 s (λ j g h. smallest_nothing s e j (omega arith))

-- A loop over the members of s: of its members those from k on are left.
pub record Left (s : Set) (k : ℕ) (left : List ℕ) : Type 0 where
  pub high : k ≤ 64
  pub rest : left ≡ members_from k (64 - k) s

pub left_all : (s : Set) → Left s 0 (members s)
unfolding members
left_all s = record { high = omega arith; rest = refl }

abbrev head_of : List ℕ → ℕ
head_of [] = 0
head_of (x ∷ xs) = x

abbrev tail_of : List ℕ → List ℕ
tail_of [] = []
tail_of (x ∷ xs) = xs

abbrev is_nil : List ℕ → Bool
is_nil [] = true
is_nil (x ∷ xs) = false

-- What the next member n is, and that the members after it are left then.
pub record First (s : Set) (k n : ℕ) (more : List ℕ) : Type 0 where
  pub next : Next s k n
  pub inside : n < 64
  pub member : s n ≡ true
  pub left : Left s (n + 1) more

module _ (s : Set) (k d : ℕ) where
  -- The members from k on, by whether k is one.
  from_split : (b : Bool) → s k ≡ b → members_from k (suc d) s ≡ cond b (k ∷ members_from (k + 1) d s) (members_from (k + 1) d s)
  from_split b p = ap (λ (b : Bool). cond b (k ∷ members_from (k + 1) d s) (members_from (k + 1) d s)) p

  first_step : (m : ℕ) (ys : List ℕ) (b : Bool) → s k ≡ b → k + suc d ≡ 64
      → cond b (k ∷ members_from (k + 1) d s) (members_from (k + 1) d s) ≡ m ∷ ys
      → (members_from (k + 1) d s ≡ m ∷ ys → First s (k + 1) m ys) → First s k m ys
  first_step m ys true p l e go =
      let same : k ≡ m = ap head_of e in
      record {
        next = record { low = omega arith; high = omega arith; before = λ j g h. absurd (omega arith); member = λ h. ap s (sym same) ∙ p };
        inside = omega arith;
        member = ap s (sym same) ∙ p;
        left = record {
          high = omega arith;
          rest = sym (ap tail_of e)
              ∙ ap (λ (i : ℕ). members_from i d s) {x = k + 1} {y = m + 1} (omega arith)
              ∙ ap (λ (n : ℕ). members_from (m + 1) n s) {x = d} {y = 64 - (m + 1)} (omega arith);
        };
      }
  first_step m ys false p l e go =
      let w : First s (k + 1) m ys = go e in
      let low : k + 1 ≤ m = w.next.low in
      record {
        next = record {
          low = omega arith;
          high = w.next.high;
          before = λ j g h. elim (ℕ_discrete k j) [ yes r ↦ ap s (sym r) ∙ p | no r ↦ w.next.before j (omega (arith, r)) h ];
          member = w.next.member;
        };
        inside = w.inside;
        member = w.member;
        left = w.left;
      }

  end_step : (j : ℕ) (b : Bool) → s k ≡ b → cond b (k ∷ members_from (k + 1) d s) (members_from (k + 1) d s) ≡ [] → k ≤ j
      → (members_from (k + 1) d s ≡ [] → k + 1 ≤ j → s j ≡ false) → s j ≡ false
  end_step j true p e g go = absurd (false≢true (ap is_nil e))
  end_step j false p e g go = elim (ℕ_discrete k j) [ yes r ↦ ap s (sym r) ∙ p | no r ↦ go e (omega (arith, r)) ]

first_from : (s : Set) (k d m : ℕ) (ys : List ℕ) → k + d ≡ 64 → members_from k d s ≡ m ∷ ys → First s k m ys
first_from s k zero m ys l e = absurd (false≢true (sym (ap is_nil e)))
first_from s k (suc d) m ys l e =
    first_step s k d m ys (s k) refl l (sym (from_split s k d (s k) refl) ∙ e) (λ q. first_from s (k + 1) d m ys (omega arith) q)

end_from : (s : Set) (k d : ℕ) → members_from k d s ≡ [] → (j : ℕ) → k ≤ j → j < k + d → s j ≡ false
end_from s k zero e j g h = absurd (omega arith)
end_from s k (suc d) e j g h =
    end_step s k d j (s k) refl (sym (from_split s k d (s k) refl) ∙ e) g (λ q l. end_from s (k + 1) d q j l (omega arith))

-- The next item, and the end.
pub left_next : {s : Set} {k m : ℕ} {left more : List ℕ} → Left s k left → left ≡ m ∷ more → First s k m more
left_next {s} {k} {m} {left} {more} w e = first_from s k (64 - k) m more (omega (arith, w.high)) (sym w.rest ∙ e)

pub left_none : {s : Set} {k : ℕ} {left : List ℕ} → Left s k left → left ≡ [] → Next s k 64
left_none {s} {k} {left} w e =
    record {
      low = w.high;
      high = omega arith;
      before = λ j g h. end_from s k (64 - k) (sym w.rest ∙ e) j g (omega (arith, w.high));
      member = λ h. absurd (omega arith);
    }

-- The search for the smallest member of p, a part of s: p has no member of s that is not left.
pub record Searching (s p : Set) (items : List ℕ) : Type 0 where
  pub upto : ℕ
  pub left : Left s upto items
  pub passed : (m : ℕ) → m < upto → p m ≡ false

module _ {s p : Set} (part : (m : ℕ) → s m ≡ false → p m ≡ false) where
  pub searching_start : {items : List ℕ} → items ≡ members s → Searching s p items
  searching_start {items} e =
      record { upto = 0; left = subst (Left s 0) (sym e) (left_all s); passed = λ m h. absurd (omega arith) }

  -- p has no member from where the search stands up to the next member of s.
  passed_to : (u n : ℕ) → ((m : ℕ) → m < u → p m ≡ false) → Next s u n → (m : ℕ) → m < n → p m ≡ false
  passed_to u n passed next m h = elim (dec_lt m u) [ yes g ↦ passed m g | no g ↦ part m (next.before m (omega (arith, g)) h) ]

  module _ {items : List ℕ} (w : Searching s p items) where
    pub searching_member : {k : ℕ} {more : List ℕ} → items ≡ k ∷ more → s k ≡ true
    searching_member {k} {more} e = let f : First s w.upto k more = left_next w.left e in f.member

    pub searching_next : {k : ℕ} {more : List ℕ} → items ≡ k ∷ more → p k ≡ false → Searching s p more
    searching_next {k} {more} e q =
        let f : First s w.upto k more = left_next w.left e in
        record { upto = k + 1; left = f.left; passed = below_more _ k (passed_to w.upto k w.passed f.next) q }

    pub searching_found : {k : ℕ} {more : List ℕ} → items ≡ k ∷ more → p k ≡ true → smallest p ≡ Some k
    searching_found {k} {more} e q =
        let f : First s w.upto k more = left_next w.left e in smallest_at p k f.inside q (passed_to w.upto k w.passed f.next)

    pub searching_none : items ≡ [] → smallest p ≡ None
    searching_none e = smallest_not p (passed_to w.upto 64 w.passed (left_none w.left e))

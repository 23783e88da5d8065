-- What `all` answers of the numbers from 1 to n and of the items of a list, and `any` of the numbers below n, for a closure that computes a test.
use mathlib.Core.Path.{◌≡◌, refl, sym, ap, ap₂, ◌∙◌}
use mathlib.Core.Bool.{Bool, true, false, ◌&&◌, ◌||◌, and-true, and_assoc, or_assoc, or_comm}
use mathlib.Core.List.{List, [], ◌∷◌}
use Prim.Native.Nat.{ℕ, zero, suc, ◌+◌, ◌-◌}
use native.Mathlib.Omega.{arith}
use denote.Param.Members.{Mut}
use denote.Ref.{Bor}
use Rattle.std.specs.Prelude.{Option}
use Rattle.std.specs.Range.{range_inclusive_left, range_inclusive_len, range_inclusive_start, range_inclusive_end, range_inclusive_exhausted}
use Rattle.std.specs.declared.ops.RangeInclusive.{RangeInclusive}
use Rattle.std.specs.declared.ops.Range.{Range}
use Rattle.std.specs.Fn.{Called}
use Rattle.std.specs.Iterator.{AlwaysYields, YieldsThen}
use Rattle.std.specs.List.{range_with_len, list_all, list_any, FoldsTo}
use Rattle.std.specs.Option.{MatchOption}
use Rattle.std.specs.Slice.Iter.{iter_rest}
use Rattle.std.proofs.Common.{Iter}
use Rattle.std.proofs.lemmas.Iterator.{YieldsList, YieldsList-from_range, YieldsList-from_slice}
use Rattle.std.proofs.lemmas.Iterator.Search.{all_from_yields_List, any_from_yields_List}
use Rattle.std.proofs.iter.runs.Sources.{nat_range_inclusive_steps}
use Rattle.std.proofs.iter.Yields.{nat_range_steps, fronts}
use Rattle.relation.specs.Rel.{some, below}
use Rattle.layout.specs.Chains.{each, all_of}

-- The last of the numbers, last of all or first.
module _ (p : ℕ → Bool) where
  all_last : (n a : ℕ) → list_all p (range_with_len a (suc n)) ≡ list_all p (range_with_len a n) && p (a + n)
  all_last zero a = and-true (p a) ∙ ap p {x = a} {y = a + 0} (omega arith)
  all_last (suc n) a =
      ap (λ (b : Bool). p a && b) (all_last n (a + 1)) ∙ sym (and_assoc (p a) (list_all p (range_with_len (a + 1) n)) (p (a + 1 + n)))
      ∙ ap (λ (k : ℕ). (p a && list_all p (range_with_len (a + 1) n)) && p k) {x = a + 1 + n} {y = a + suc n} (omega arith)

  each_list : (n : ℕ) → list_all p (range_with_len 1 n) ≡ each n p
  unfolding each
  each_list zero = refl
  each_list (suc n) = all_last n 1 ∙ ap₂ ◌&&◌ (each_list n) (ap p {x = 1 + n} {y = suc n} (omega arith))

  any_last : (n a : ℕ) → list_any p (range_with_len a (suc n)) ≡ p (a + n) || list_any p (range_with_len a n)
  any_last zero a = ap (λ (k : ℕ). p k || false) {x = a} {y = a + 0} (omega arith)
  any_last (suc n) a =
      let rest = list_any p (range_with_len (a + 1) n) in
      ap (λ (b : Bool). p a || b) (any_last n (a + 1)) ∙ sym (or_assoc (p a) (p (a + 1 + n)) rest) ∙ ap (λ (b : Bool). b || rest) (or_comm (p a) (p (a + 1 + n)))
      ∙ or_assoc (p (a + 1 + n)) (p a) rest ∙ ap (λ (k : ℕ). p k || (p a || rest)) {x = a + 1 + n} {y = a + suc n} (omega arith)

  some_list : (n : ℕ) → list_any p (range_with_len 0 n) ≡ some (below n) p
  unfolding some below
  some_list zero = refl
  some_list (suc n) = any_last n 0 ∙ ap₂ ◌||◌ (ap p {x = 0 + n} {y = n} (omega arith)) (some_list n)

  list_of : (l : List ℕ) → list_all p l ≡ all_of l p
  unfolding all_of
  list_of [] = refl
  list_of (x ∷ l) = ap (λ (b : Bool). p x && b) (list_of l)

-- An inclusive range of numbers gives each of them.
abbrev left : RangeInclusive ℕ → ℕ
left = range_inclusive_left (λ (x y : ℕ). y - x)

not_spent : (s : RangeInclusive ℕ) (n : ℕ) → left s ≡ suc n → range_inclusive_exhausted s ≡ false
not_spent s n e = go (range_inclusive_exhausted s) refl
  where
    go : (b : Bool) → range_inclusive_exhausted s ≡ b → b ≡ false
    go false q = refl
    go true q = absurd (omega (arith, e, ap (range_inclusive_len (λ (x y : ℕ). y - x) (range_inclusive_start s) (range_inclusive_end s)) q))

inclusive_yields : (n : ℕ) (s : RangeInclusive ℕ) (k : ℕ) → left s ≡ n → (range_inclusive_exhausted s ≡ false → range_inclusive_start s ≡ k)
    → AlwaysYields nat_range_inclusive_steps (λ x. x) s (range_with_len k n)
inclusive_yields zero s k e f = λ x j p. omega (arith, p.1.1)
inclusive_yields (suc n) s k e f = (
  (λ j p. omega (arith, p.1.0)),
  λ x j p.
      let z = not_spent s n e in
      (p.1.0 ∙ f z, inclusive_yields n j (k + 1) (omega (arith, p.1.1)) (λ q. p.1.2 q ∙ ap (λ (i : ℕ). i + 1) (f z))),
)

module _ {F : Type 0} {g : Mut F (ℕ × Unit {0}) Bool} {f : F} {r : Bool} (p : ℕ → Bool) (computes : (x : ℕ) (b : Bool) (q : F) → Called g f (x, tt) b q → (q ≡ f) × (b ≡ p x)) where
  -- `(1..=n).all(..)`
  pub all_numbers : {s u : RangeInclusive ℕ} {n m : ℕ}
      → (xs : List ℕ) × (o : Option ℕ) × (j : F) × YieldsThen nat_range_inclusive_steps s xs o u × FoldsTo (λ p x q. Called g p (x, tt) true q) f xs j × MatchOption o (r ≡ true) (λ x. (r ≡ false) × ((h : F) × Called g j (x, tt) false h))
      → range_inclusive_start s ≡ 1 → range_inclusive_end s ≡ n → range_inclusive_exhausted s ≡ false → n ≡ m → r ≡ each m p
  all_numbers {s} {u} {n} {m} ran a b c e =
      let whole : left s ≡ m = omega (arith, ap (range_inclusive_len (λ (x y : ℕ). y - x) (range_inclusive_start s) (range_inclusive_end s)) c, a, b, e) in
      all_from_yields_List {steps = nat_range_inclusive_steps} {s = s} p u f r ran (record { runs = inclusive_yields m s 1 whole (λ z. a) }) computes ∙ each_list p m

  -- `(0..n).any(..)`
  pub any_number : {u : Range ℕ} (n : ℕ)
      → (xs : List ℕ) × (o : Option ℕ) × (j : F) × YieldsThen nat_range_steps (record { start = 0; end = n }) xs o u × FoldsTo (λ p x q. Called g p (x, tt) false q) f xs j × MatchOption o (r ≡ false) (λ x. (r ≡ true) × ((h : F) × Called g j (x, tt) true h))
      → r ≡ some (below n) p
  any_number {u} n ran = any_from_yields_List p u f r ran (YieldsList-from_range 0 n n refl (omega arith)) computes ∙ some_list p n

-- `xs.all(..)`, where xs yields the list l: v takes an item to its number.
pub all_yielded : {S A F : Type 0} {steps : S → Option A → S → Type 0} {v : A → ℕ} {g : Mut F (A × Unit {0}) Bool} {s : S} {f : F} {r : Bool} {l : List ℕ} (p : ℕ → Bool) (u : S) → ((x : A) (b : Bool) (q : F) → Called g f (x, tt) b q → (q ≡ f) × (b ≡ p (v x)))
    → (xs : List A) × (o : Option A) × (j : F) × YieldsThen steps s xs o u × FoldsTo (λ p x q. Called g p (x, tt) true q) f xs j × MatchOption o (r ≡ true) (λ x. (r ≡ false) × ((h : F) × Called g j (x, tt) false h))
    → YieldsList steps v s l → r ≡ all_of l p
all_yielded {steps = steps} {s = s} {f = f} {r = r} {l = l} p u computes ran road = all_from_yields_List {steps = steps} {s = s} p u f r ran road computes ∙ list_of p l

-- `xs.iter().all(..)`
pub all_items : {F : Type 0} {g : Mut F (Bor ℕ × Unit {0}) Bool} {s u : Iter ℕ} {f : F} {r : Bool} {l : List ℕ} (p : ℕ → Bool) → ((x : Bor ℕ) (b : Bool) (q : F) → Called g f (x, tt) b q → (q ≡ f) × (b ≡ p x.now))
    → (xs : List (Bor ℕ)) × (o : Option (Bor ℕ)) × (j : F) × YieldsThen fronts s xs o u × FoldsTo (λ p x q. Called g p (x, tt) true q) f xs j × MatchOption o (r ≡ true) (λ x. (r ≡ false) × ((h : F) × Called g j (x, tt) false h))
    → iter_rest s ≡ l → r ≡ all_of l p
all_items {u = u} p computes ran e = all_yielded p u computes ran (YieldsList-from_slice _ e)

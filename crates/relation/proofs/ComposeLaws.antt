-- Laws of composition over the numbers of a row.
use mathlib.Core.Path.{◌≡◌, refl, sym, ◌∙◌, fun_ext}
use mathlib.Core.List.{List, Memᴰ}
use mathlib.Core.Bool.{true, false≢true, or_assoc}
use mathlib.Core.Logic.{inl, inr}
use Prim.Native.Nat.{ℕ}
use native.Mathlib.Omega.{arith}
use native.Mathlib.Decide.{dec_lt}
use borrow.Author.Tests.{eqb-true, eq-eqb}
use lib.Dec.{eqb}
use Rattle.relation.specs.Rel.{Rel, union, intersection, either, identity, from, into, compose, nodes}
use Rattle.relation.specs.Bits.{bit}
use Rattle.relation.proofs.Truth.{same_test, and_left, and_right, and_both, or_either, or_left, or_right}
use Rattle.relation.proofs.ByteLaws.{bit_out}
use Rattle.relation.proofs.Meaning.{mem_below, compose_sound, compose_complete}

-- Two relations that hold together are equal.
same : (r s : Rel) → ((x y : ℕ) → r x y ≡ true → s x y ≡ true) → ((x y : ℕ) → s x y ≡ true → r x y ≡ true) → r ≡ s
same r s f g = fun_ext (λ x. fun_ext (λ y. same_test (r x y) (s x y) (f x y) (g x y)))

-- A row holds numbers below 64.
bit_mem : (row : List ℕ) (x : ℕ) → bit row x ≡ true → Memᴰ x nodes
bit_mem row x h =
    elim (dec_lt x 64) [
      | yes p ↦ mem_below 64 x p
      | no p ↦ absurd (false≢true (sym (bit_out row x (omega (arith, p))) ∙ h))
    ]

-- [s] ; r
pub from_set : (row : List ℕ) (r : Rel) → compose nodes (identity (bit row)) r ≡ from (bit row) r
unfolding identity from
from_set row r =
    same _ _
    (λ x z p. let (y, m, a, b) = compose_sound nodes (identity (bit row)) r x z p in
    let e : x ≡ y = eqb-true x y (and_right (bit row x) _ a) in
    and_both (bit row x) (r x z) (and_left _ _ a) (rw e b))
    (λ x z p. let a : bit row x ≡ true = and_left _ _ p in
    compose_complete nodes (identity (bit row)) r x x z (bit_mem row x a) (and_both (bit row x) (eqb x x) a (eq-eqb x x refl)) (and_right (bit row x) _ p))

-- r ; [s]
pub into_set : (row : List ℕ) (r : Rel) → compose nodes r (identity (bit row)) ≡ into r (bit row)
unfolding identity into intersection
into_set row r =
    same _ _
    (λ x z p. let (y, m, a, b) = compose_sound nodes r (identity (bit row)) x z p in
    let e : y ≡ z = eqb-true y z (and_right (bit row y) _ b) in
    let q : bit row y ≡ true = and_left _ _ b in
    and_both (r x z) (bit row z) (rw e at a) (rw e at q))
    (λ x z p. let b : bit row z ≡ true = and_right (r x z) _ p in
    compose_complete nodes r (identity (bit row)) x z z (bit_mem row z b) (and_left _ _ p) (and_both (bit row z) (eqb z z) b (eq-eqb z z refl)))

-- (a ; b) ; c is a ; (b ; c)
pub compose_assoc : (a b c : Rel) → compose nodes (compose nodes a b) c ≡ compose nodes a (compose nodes b c)
compose_assoc a b c =
    same _ _
    (λ w z p. let (y, m, u, v) = compose_sound nodes (compose nodes a b) c w z p in
    let (x, n, s, t) = compose_sound nodes a b w y u in
    compose_complete nodes a (compose nodes b c) w x z n s (compose_complete nodes b c x y z m t v))
    (λ w z p. let (x, n, s, u) = compose_sound nodes a (compose nodes b c) w z p in
    let (y, m, t, v) = compose_sound nodes b c x z u in
    compose_complete nodes (compose nodes a b) c w y z m (compose_complete nodes a b w x y n s t) v)

-- (a ∪ b) ; c is a ; c ∪ b ; c
pub either_compose : (a b c : Rel) → compose nodes (either a b) c ≡ either (compose nodes a c) (compose nodes b c)
unfolding either union
either_compose a b c =
    same _ _
    (λ x z p. let (y, m, u, v) = compose_sound nodes (either a b) c x z p in
    elim (or_either (a x y) _ u) [
      | inl h ↦ or_left _ _ (compose_complete nodes a c x y z m h v)
      | inr h ↦ or_right (compose nodes a c x z) _ (compose_complete nodes b c x y z m h v)
    ])
    (λ x z p. elim (or_either (compose nodes a c x z) _ p) [
      | inl h ↦ let (y, m, u, v) = compose_sound nodes a c x z h in compose_complete nodes (either a b) c x y z m (or_left _ _ u) v
      | inr h ↦ let (y, m, u, v) = compose_sound nodes b c x z h in compose_complete nodes (either a b) c x y z m (or_right (a x y) _ u) v
    ])

-- (a ∪ b) ∪ c is a ∪ (b ∪ c)
pub either_assoc : (a b c : Rel) → either (either a b) c ≡ either a (either b c)
unfolding either union
either_assoc a b c = fun_ext (λ x. fun_ext (λ y. or_assoc (a x y) (b x y) (c x y)))

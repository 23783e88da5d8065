-- The ring of IMM's rule 3: where the rule is broken, steps of po or sw and at most one of eco come back to an event.
use mathlib.Core.Path.{◌≡◌, refl, ap, subst, ◌∙◌, fun_ext}
use mathlib.Core.List.{Memᴰ}
use mathlib.Core.Bool.{Bool, true, false, not, ◌&&◌}
use mathlib.Core.Logic.{◌⊎◌, inl, inr}
use Prim.Native.Nat.{ℕ}
use native.Mathlib.Decide.{ℕ_discrete}
use borrow.Author.Tests.{eqb-true, ne_eqb, lt-ltb}
use lib.Dec.{eqb, ltb}
use Rattle.relation.specs.Rel.{Set, Rel, union, difference, either, minus, identity, optional, plus, nodes}
use Rattle.relation.specs.Ring.{closed, under}
use Rattle.relation.proofs.Truth.{and_left, and_right, and_both, or_either, or_left, or_right}
use Rattle.relation.proofs.Meaning.{compose_sound, compose_complete}
use Rattle.relation.proofs.Walks.{Inside}
use Rattle.relation.proofs.RingMeaning.{plus_closed}
use Rattle.models.specs.Graph.{Base}
use Rattle.models.specs.Term.{eval}
use Rattle.models.specs.Imm.{eco}
use Rattle.models.specs.Rules.{IMM}
use Rattle.imm.specs.Judged.{apart, steps, closing}

-- `apart` as it is computed.
pub apart_is : (r d id : Rel) (all : Set) → Inside r → all ≡ under 64 → id ≡ identity all → d ≡ minus r id → d ≡ apart r
unfolding apart minus difference identity under
apart_is r d id all inside a e f =
    f ∙ ap (minus r) (e ∙ ap identity a) ∙ fun_ext (λ x. fun_ext (λ y. same x y (r x y) refl))
  where
    same : (x y : ℕ) (b : Bool) → r x y ≡ b → r x y && not (ltb x 64 && eqb x y) ≡ r x y && not (eqb x y)
    same x y true h = rw (lt-ltb x 64 (inside.source x y h))
    same x y false h = rw h

-- A closing step is one of po or sw, or of eco; each of po or sw is one, and each of eco between two events.
pub closing_cases : (B : Base) (x y : ℕ) → closing B x y ≡ true → (steps B x y ≡ true) ⊎ (eval nodes eco B x y ≡ true)
unfolding closing apart either union
closing_cases B x y h = elim (or_either (steps B x y) _ h) [ inl p ↦ inl p | inr p ↦ inr (and_left (eval nodes eco B x y) _ p) ]

pub step_closes : (B : Base) (x y : ℕ) → steps B x y ≡ true → closing B x y ≡ true
unfolding closing either union
step_closes B x y h = or_left (steps B x y) _ h

pub eco_closes : (B : Base) (x y : ℕ) → (x ≡ y → ⊥) → eval nodes eco B x y ≡ true → closing B x y ≡ true
unfolding closing apart either union
eco_closes B x y d h = or_right (steps B x y) _ (rw (ne_eqb x y d) (and_both (eval nodes eco B x y) true h refl))

-- A closing step of e is one of f.
closed_within : (r e f : Rel) → ((x y : ℕ) → e x y ≡ true → f x y ≡ true) → (x : ℕ) → closed r e x x ≡ true → closed r f x x ≡ true
unfolding closed either union
closed_within r e f sub x p =
    elim (or_either (e x x) _ p) [
      | inl h ↦ or_left (f x x) _ (sub x x h)
      | inr h ↦ let (y, m, a, b) = compose_sound nodes (plus nodes r) e x x h in
          or_right (f x x) _ (compose_complete nodes (plus nodes r) f x y x m a (sub y x b))
    ]

-- hb ; eco? comes back to x: by steps alone, or by steps and an eco step from another event.
pub around : (B : Base) → Inside (steps B) → (x : ℕ) → eval nodes IMM.coherent B x x ≡ true → (y : ℕ) × (closed (steps B) (closing B) y y ≡ true)
unfolding steps closed eval optional either union identity
around B inside x p =
    let (y, m, a, b) = compose_sound nodes (plus nodes (steps B)) (optional B.E (eval nodes eco B)) x x p in (
      x,
      elim (ℕ_discrete y x) [
        | yes e ↦ by_steps (subst (λ (z : ℕ). plus nodes (steps B) x z ≡ true) e a)
        | no d ↦ elim (or_either (eval nodes eco B y x) _ b) [
          | inl h ↦ by_eco y m a (eco_closes B y x d h)
          | inr h ↦ absurd (d (eqb-true y x (and_right (B.E y) _ h)))
        ]
      ],
    )
  where
    by_steps : plus nodes (steps B) x x ≡ true → closed (steps B) (closing B) x x ≡ true
    by_steps q = closed_within (steps B) (steps B) (closing B) (step_closes B) x (plus_closed (steps B) inside x q)

    by_eco : (y : ℕ) → Memᴰ y nodes → plus nodes (steps B) x y ≡ true → closing B y x ≡ true → closed (steps B) (closing B) x x ≡ true
    by_eco y m a h = or_right (closing B x x) _ (compose_complete nodes (plus nodes (steps B)) (closing B) x y x m a h)

-- Grids as the relations of a base: one law for each operator of a term, by the call that computes it.
use mathlib.Core.Path.{◌≡◌, refl, sym, ap, ap₂, ◌∙◌, fun_ext}
use mathlib.Core.Bool.{Bool, true, false, ◌&&◌, ◌||◌}
use mathlib.Core.List.{List}
use Prim.Native.Nat.{ℕ}
use lib.Dec.{eqb}
use Rattle.relation.specs.Rel.{Set, Rel, union, either, both, minus, inverse, identity, from, into, image, compose, plus, optional, star, nodes}
use Rattle.relation.specs.Bits.{bit}
use Rattle.models.specs.Recording.{SetName}
use Rattle.models.specs.Graph.{Base}
use Rattle.models.specs.Term.{Term, ⟨◌⟩, ⟨codom◌⟩, ◌⨾◌, ◌∪◌, ◌∩◌, ◌∖◌, opt, ◌⁻¹, ◌⁺, ◌*, eval}
use Rattle.relation.proofs.ComposeLaws.{from_set, into_set, compose_assoc}

-- r is the relation t of the base B.
pub record Is (B : Base) (t : Term) (r : Rel) : Type 0 where
  pub is : r ≡ eval nodes t B

pub holds : (B : Base) (t : Term) {r : Rel} → Is B t r → r ≡ eval nodes t B
holds B t p = p.is

-- The identity on a union.
identity_union : (s t : Set) → identity (union s t) ≡ either (identity s) (identity t)
unfolding identity union either
identity_union s t = fun_ext (λ i. fun_ext (λ j. distributed (s i) (t i) (eqb i j)))
  where
    distributed : (a b c : Bool) → ((a || b) && c) ≡ ((a && c) || (b && c))
    distributed true true true = refl
    distributed true true false = refl
    distributed true false true = refl
    distributed true false false = refl
    distributed false b c = refl

module _ {B : Base} where
  pub given : {t : Term} {r : Rel} → r ≡ eval nodes t B → Is B t r
  given e = record { is = e }

  -- The operators.
  module _ {t u : Term} {a b r : Rel} where
    pub is_union : r ≡ either a b → Is B t a → Is B u b → Is B (t ∪ u) r
    unfolding eval
    is_union e p q = given (e ∙ ap₂ either p.is q.is)

    pub is_meet : r ≡ both a b → Is B t a → Is B u b → Is B (t ∩ u) r
    unfolding eval
    is_meet e p q = given (e ∙ ap₂ both p.is q.is)

    pub is_minus : r ≡ minus a b → Is B t a → Is B u b → Is B (t ∖ u) r
    unfolding eval
    is_minus e p q = given (e ∙ ap₂ minus p.is q.is)

    pub is_then : r ≡ compose nodes a b → Is B t a → Is B u b → Is B (t ⨾ u) r
    unfolding eval
    is_then e p q = given (e ∙ ap₂ (compose nodes) p.is q.is)

  module _ {t : Term} {a r : Rel} where
    pub is_inverse : r ≡ inverse a → Is B t a → Is B (t ⁻¹) r
    unfolding eval
    is_inverse e p = given (e ∙ ap inverse p.is)

    pub is_plus : r ≡ plus nodes a → Is B t a → Is B (t ⁺) r
    unfolding eval
    is_plus e p = given (e ∙ ap (plus nodes) p.is)

    pub is_opt : {s : Set} → r ≡ optional s a → s ≡ B.E → Is B t a → Is B (opt t) r
    unfolding eval
    is_opt e q p = given (e ∙ ap₂ optional q p.is)

    pub is_star : {s : Set} → r ≡ star nodes s a → s ≡ B.E → Is B t a → Is B (t *) r
    unfolding eval star
    is_star e q p = given (e ∙ ap₂ (star nodes) q p.is)

  -- Terms that are the identity on a set: a set by its name, a codomain, a union.
  pub is_set : {n : SetName} {s : Set} {r : Rel} → r ≡ identity s → s ≡ B.set n → Is B ⟨ n ⟩ r
  unfolding eval
  is_set e q = given (e ∙ ap identity q)

  pub is_codom : (t : Set) {u : Term} {c : Rel} {s : Set} → t ≡ image nodes s c → s ≡ B.E → Is B u c → Is B ⟨codom u ⟩ (identity t)
  unfolding eval
  is_codom t i q w = given (ap identity (i ∙ ap₂ (image nodes) q w.is))

  pub is_join : (s v x : Set) {t u : Term} → x ≡ union s v → Is B t (identity s) → Is B u (identity v) → Is B (t ∪ u) (identity x)
  is_join s v x e p q = is_union (ap identity e ∙ identity_union s v) p q

  -- The identity on a row, before and after a relation.
  module _ (row : List ℕ) {t u : Term} {a r : Rel} where
    pub is_before : r ≡ from (bit row) a → Is B u (identity (bit row)) → Is B t a → Is B (u ⨾ t) r
    is_before e q p = is_then (e ∙ sym (from_set row a)) q p

    pub is_after : r ≡ into a (bit row) → Is B t a → Is B u (identity (bit row)) → Is B (t ⨾ u) r
    is_after e p q = is_then (e ∙ sym (into_set row a)) p q

  -- Terms in another order.
  pub is_assoc : {t u v : Term} {r : Rel} → Is B ((t ⨾ u) ⨾ v) r → Is B (t ⨾ u ⨾ v) r
  unfolding eval
  is_assoc p = given (p.is ∙ compose_assoc _ _ _)

-- All of them: by these `search` finds how the calls of a function compute a term.
pub ruleset terms = (given, is_union, is_meet, is_minus, is_then, is_inverse, is_plus, is_opt, is_star, is_set, is_codom, is_join, is_before, is_after, is_assoc)

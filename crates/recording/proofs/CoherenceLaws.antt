-- Where co leads back to its start, links of co alone do: no step of co leads to an initial write.
use mathlib.Core.Path.{◌≡◌, sym, ap, ◌∙◌}
use mathlib.Core.Bool.{true, ◌&&◌, false≢true}
use mathlib.Core.List.{List, Memᴰ}
use mathlib.Core.Logic.{◌⊎◌, inl, inr}
use Prim.Native.Nat.{ℕ}
use native.Mathlib.Omega.{arith}
use native.Mathlib.Decide.{dec_lt}
use borrow.Author.Tests.{lt-leb, ltb-true}
use lib.Dec.{leb}
use lib.ListN.{get_or}
use Rattle.relation.specs.Rel.{Rel, inverse, some, diagonal, plus, nodes}
use Rattle.relation.specs.Bits.{edge}
use Rattle.relation.proofs.Meaning.{Steps, one, more, some_sound, some_complete, mem_below, steps_join, plus_sound, plus_complete}
use Rattle.relation.proofs.ByteLaws.{bit_out}
use Rattle.models.specs.Recording.{Recording, write, same_location, co_step}
use Rattle.models.specs.Graph.{base}
use Rattle.layout.specs.Layout.{Sized}
use Rattle.layout.specs.Decode.{is_recorded, is_initial, decode}
use Rattle.recording.specs.Causes.{co_ring}
use Rattle.relation.proofs.Truth.{same_test, and_left, and_right, or_either, or_left}
use Rattle.layout.proofs.FieldLaws.{recorded_bounds, initial_no}

-- Steps the other way round, and steps of a wider relation.
turned : {r : Rel} {x y : ℕ} → Steps r x y → Steps (λ a b. r b a) y x
turned (one h) = one h
turned (more a h) = steps_join (one h) (turned a)

wider : {r s : Rel} (x : ℕ) {y : ℕ} → ((a b : ℕ) → r a b ≡ true → s a b ≡ true) → Steps r x y → Steps s x y
wider x f (one {y = y} h) = one (f x y h)
wider x f (more {y = y} {z = z} a h) = more (wider x f a) (f y z h)

-- A step of co, by cases.
step_cases : (r : Recording ℕ) (a b : ℕ) → co_step r a b ≡ true → (r.link 2 a b ≡ true) ⊎ ((r.initial a ≡ true) × (r.recorded b ≡ true))
unfolding co_step
step_cases r a b p =
    elim (or_either (r.link 2 a b) _ p) [
      | inl q ↦ inl q
      | inr q ↦ let both = and_left (r.initial a && r.recorded b) (write r b) (and_left (r.initial a && r.recorded b && write r b) (same_location r a b) q) in
          inr (and_left (r.initial a) (r.recorded b) both, and_right (r.initial a) (r.recorded b) both)
    ]

module _ (f : List ℕ) (sized : Sized f) where
  link : Rel
  link = (decode f).link 2

  link_target : (a b : ℕ) → link a b ≡ true → is_recorded f b ≡ true
  unfolding link decode
  link_target a b p = and_left (is_recorded f b) _ p

  step_target : (a b : ℕ) → co_step (decode f) a b ≡ true → is_recorded f b ≡ true
  unfolding link decode
  step_target a b p = elim (step_cases (decode f) a b p) [ inl q ↦ link_target a b q | inr q ↦ q.1 ]

  step_link : (a b : ℕ) → is_recorded f a ≡ true → co_step (decode f) a b ≡ true → link a b ≡ true
  unfolding link decode
  step_link a b r p =
      elim (step_cases (decode f) a b p) [
        | inl q ↦ q
        | inr q ↦ let (l, h) = recorded_bounds f a r in
            absurd (false≢true (sym (lt-leb 56 a (omega (arith, h, sized.most_events))) ∙ initial_no f a (omega (arith, h, sized.most_events)) ∙ q.0))
      ]

  steps_target : (x : ℕ) {y : ℕ} → Steps (co_step (decode f)) x y → is_recorded f y ≡ true
  steps_target x (one {y = y} h) = step_target x y h
  steps_target x (more {y = y} {z = z} a h) = step_target y z h

  steps_link : (x : ℕ) {y : ℕ} → is_recorded f x ≡ true → Steps (co_step (decode f)) x y → Steps link x y
  steps_link x r (one {y = y} h) = one (step_link x y r h)
  steps_link x r (more {y = y} {z = z} a h) = more (steps_link x r a) (step_link y z (steps_target x a) h)

  -- The rows of co links, with a row for each target.
  module _ (g : List (List ℕ)) (rows : edge g ≡ inverse ((decode f).link 2)) where
    row_is : (a b : ℕ) → edge g b a ≡ link a b
    unfolding link inverse
    row_is a b = ap (λ (r : Rel). r b a) rows

    from_small : (a b : ℕ) → co_step (decode f) a b ≡ true → Memᴰ a nodes
    unfolding link decode edge is_initial
    from_small a b p =
        elim (step_cases (decode f) a b p) [
          | inl q ↦ elim (dec_lt a 64) [ yes h ↦ mem_below 64 a h | no h ↦ absurd (false≢true (sym (bit_out (get_or g b _) a (omega (arith, h))) ∙ row_is a b ∙ q)) ]
          | inr q ↦ mem_below 64 a (omega (arith, ltb-true a _ (and_right (leb 56 a) _ q.0), sized.most_locations))
        ]

    into_small : (b a : ℕ) → edge g b a ≡ true → Memᴰ b nodes
    into_small b a p = let (l, h) = recorded_bounds f b (link_target a b (sym (row_is a b) ∙ p)) in mem_below 64 b (omega (arith, h, sized.most_events))

    row_step : (a b : ℕ) → edge g b a ≡ true → co_step (decode f) a b ≡ true
    unfolding link co_step
    row_step a b h = or_left (link a b) _ (sym (row_is a b) ∙ h)

    pub co_ring_is : some nodes (diagonal (plus nodes (edge g))) ≡ co_ring f
    unfolding co_ring diagonal base
    co_ring_is = same_test _ _ to from
      where
        to : some nodes (diagonal (plus nodes (edge g))) ≡ true → some nodes (diagonal (base nodes (decode f)).co) ≡ true
        to p =
            let (x, m, q) = some_sound nodes (diagonal (plus nodes (edge g))) p in
            some_complete nodes (diagonal (base nodes (decode f)).co) x m
            (plus_complete nodes (co_step (decode f)) from_small x x
            (wider x row_step (turned (plus_sound nodes (edge g) x x q))))

        from : some nodes (diagonal (base nodes (decode f)).co) ≡ true → some nodes (diagonal (plus nodes (edge g))) ≡ true
        from p =
            let (x, m, q) = some_sound nodes (diagonal (base nodes (decode f)).co) p in
            let ring = plus_sound nodes (co_step (decode f)) x x q in
            some_complete nodes (diagonal (plus nodes (edge g))) x m
            (plus_complete nodes (edge g) into_small x x
            (wider x (λ b a h. row_is a b ∙ h) (turned (steps_link x (steps_target x ring) ring))))

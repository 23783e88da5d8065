-- Walks of a given number of steps, and `power`, which computes them. Among 64 events every walk can be made shorter than 64 steps.
use mathlib.Core.Path.{◌≡◌, refl, sym, ap, subst, ◌∙◌}
use mathlib.Core.List.{List, []}
use mathlib.Core.Bool.{true, false≢true}
use Prim.Native.Nat.{ℕ, zero, suc, ◌+◌, ◌-◌, ◌<◌, ◌≤◌}
use native.Mathlib.Omega.{arith}
use native.Mathlib.Decide.{dec_lt}
use borrow.Author.Tests.{eqb-true, lt-ltb, eq-eqb}
use lib.Dec.{eqb, ltb}
use lib.ListN.{length, get_or}
use Rattle.relation.specs.Rel.{Set, Rel, empty, identity, nodes}
use Rattle.relation.specs.Bits.{edge}
use Rattle.relation.specs.Ring.{under, power}
use Rattle.relation.proofs.ByteLaws.{bit_out}
use Rattle.relation.proofs.GridLaws.{edge_out}
use Rattle.relation.proofs.Truth.{and_right, and_both}
use Rattle.relation.proofs.Meaning.{Steps, one, more, mem_below, compose_sound, compose_complete}
use Rattle.relation.proofs.Pigeonhole.{Twice, pigeonhole}

-- A relation between numbers below 64.
pub record Inside (r : Rel) : Type 0 where
  pub source : (x y : ℕ) → r x y ≡ true → x < 64
  pub target : (x y : ℕ) → r x y ≡ true → y < 64

pub edge_inside : (g : List (List ℕ)) → length g ≡ 64 → Inside (edge g)
unfolding edge empty
edge_inside g l =
    record {
      source = λ x y h. elim (dec_lt x 64) [ yes p ↦ p | no p ↦ absurd (false≢true (sym (ap (λ (s : Set). s y) (edge_out g l x (omega (arith, p)))) ∙ h)) ];
      target = λ x y h. elim (dec_lt y 64) [ yes p ↦ p | no p ↦ absurd (false≢true (sym (bit_out (get_or g x []) y (omega (arith, p))) ∙ h)) ];
    }

-- n steps of r from x to z.
pub data Walk (r : Rel) (x : ℕ) : ℕ → ℕ → Type 0 where
  stay : Walk r x zero x
  go : {n y z : ℕ} → Walk r x n y → r y z ≡ true → Walk r x (suc n) z

pub counted : {r : Rel} {x z m n : ℕ} → m ≡ n → Walk r x m z → Walk r x n z
counted {r} {x} {z} e w = subst (λ (k : ℕ). Walk r x k z) e w

pub walk_zero : {r : Rel} {x z : ℕ} → Walk r x zero z → x ≡ z
walk_zero stay = refl

pub walk_join : {r : Rel} {x y z m n : ℕ} → Walk r x m y → Walk r y n z → Walk r x (n + m) z
walk_join a stay = counted (omega arith) a
walk_join a (go b h) = counted (omega arith) (go (walk_join a b) h)

-- The steps from f a to f (a + d), one after the other.
pub walk_along : {r : Rel} (f : ℕ → ℕ) (a d : ℕ) → ((k : ℕ) → a ≤ k → k < a + d → r (f k) (f (suc k)) ≡ true) → Walk r (f a) d (f (a + d))
walk_along {r} f a zero steps = subst (λ (k : ℕ). Walk r (f a) zero (f k)) {x = a} {y = a + 0} (omega arith) stay
walk_along {r} f a (suc d) steps =
    subst (λ (k : ℕ). Walk r (f a) (suc d) (f k)) {x = suc (a + d)} {y = a + suc d} (omega arith)
    (go (walk_along f a d (λ k p q. steps k p (omega arith))) (steps (a + d) (omega arith) (omega arith)))

pub steps_walk : {r : Rel} {x y : ℕ} → Steps r x y → (n : ℕ) × Walk r x (suc n) y
steps_walk (one h) = (zero, go stay h)
steps_walk (more s h) = let (n, w) = steps_walk s in (suc n, go w h)

pub walk_steps : {r : Rel} {x z n : ℕ} → Walk r x (suc n) z → Steps r x z
walk_steps (go stay h) = one h
walk_steps (go (go w g) h) = more (walk_steps (go w g)) h

-- `power` computes walks.
pub power_sound : (r : Rel) (n x y : ℕ) → power n r x y ≡ true → Walk r x n y
unfolding power identity
power_sound r zero x y p = subst (λ (z : ℕ). Walk r x zero z) (eqb-true x y (and_right (under 64 x) (eqb x y) p)) stay
power_sound r (suc n) x z p =
    let (y, m, a, b) = compose_sound nodes (power n r) r x z p in
    go (power_sound r n x y a) b

pub power_complete : (r : Rel) → Inside r → (n x y : ℕ) → x < 64 → Walk r x n y → power n r x y ≡ true
unfolding power identity under
power_complete r i zero x _ h stay = and_both (ltb x 64) (eqb x x) (lt-ltb x 64 h) (eq-eqb x x refl)
power_complete r i (suc n) x z h (go {y = y} w e) =
    compose_complete nodes (power n r) r x y z (mem_below 64 y (i.source y z e)) (power_complete r i n x y h w) e

-- The event k steps before a walk's end, with the walk up to it and the walk from it.
pub node : {r : Rel} {x z n : ℕ} → Walk r x n z → ℕ → ℕ
node {z = z} stay k = z
node {z = z} (go w h) zero = z
node (go w h) (suc k) = node w k

pub node_last : {r : Rel} {x z n : ℕ} (w : Walk r x n z) → node w zero ≡ z
unfolding node
node_last stay = refl
node_last (go w h) = refl

pub node_step : {r : Rel} {x z n : ℕ} (w : Walk r x n z) (k : ℕ) → k < n → r (node w (suc k)) (node w k) ≡ true
unfolding node
node_step stay k h = absurd (omega arith)
node_step {r} (go {z = z} w h) zero q = subst (λ (y : ℕ). r y z ≡ true) (sym (node_last w)) h
node_step (go w h) (suc k) q = node_step w k (omega arith)

pub upto_node : {r : Rel} {x z n : ℕ} (w : Walk r x n z) (k : ℕ) → k ≤ n → Walk r x (n - k) (node w k)
unfolding node
upto_node stay k p = counted (omega arith) stay
upto_node (go w h) zero p = counted (omega arith) (go w h)
upto_node (go w h) (suc k) p = counted (omega arith) (upto_node w k (omega arith))

pub from_node : {r : Rel} {x z n : ℕ} (w : Walk r x n z) (k : ℕ) → k ≤ n → Walk r (node w k) k z
unfolding node
from_node stay zero p = stay
from_node stay (suc k) p = absurd (omega arith)
from_node (go w h) zero p = stay
from_node (go w h) (suc k) p = go (from_node w k (omega arith)) h

pub node_inside : {r : Rel} {x z n : ℕ} → Inside r → x < 64 → (w : Walk r x n z) (k : ℕ) → node w k < 64
unfolding node
node_inside i p stay k = p
node_inside i p (go {y = y} {z = z} w h) zero = i.target y z h
node_inside i p (go w h) (suc k) = node_inside i p w k

-- A walk of 64 steps or more passes an event twice, and what lies between can be left out.
pub shorten : (r : Rel) → Inside r → (fuel n x z : ℕ) → n ≤ fuel → x < 64 → Walk r x n z → (m : ℕ) × (m < 64) × Walk r x m z
shorten r i zero n x z le p w = (n, omega arith, w)
shorten r i (suc fuel) n x z le p w =
    elim (dec_lt n 64) [
      | yes h ↦ (n, h, w)
      | no h ↦ let t : Twice (node w) 64 = pigeonhole 64 (node w) (λ k q. node_inside i p w k) in
          let a : Walk r x (n - t.second) (node w t.second) = upto_node w t.second (omega (arith, h, t.within)) in
          let b : Walk r (node w t.first) t.first z = from_node w t.first (omega (arith, h, t.within, t.before)) in
          shorten r i fuel (t.first + (n - t.second)) x z (omega (arith, h, t.within, t.before)) p
          (walk_join a (subst (λ (y : ℕ). Walk r y t.first z) t.same b))
    ]

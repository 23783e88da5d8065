-- A ring as a walk: from the event behind its closing step round to the one that the step leaves.
use mathlib.Core.Path.{◌≡◌, refl, subst}
use mathlib.Core.List.{List, [], ◌∷◌}
use mathlib.Core.Bool.{true}
use Prim.Native.Nat.{ℕ, zero, suc, ◌+◌, ◌-◌, ◌<◌, ◌≤◌}
use native.Mathlib.Omega.{arith}
use native.Mathlib.Decide.{dec_lt}
use lib.ListN.{length, get_or, get_or-eq_default}
use Rattle.relation.specs.Rel.{Rel}
use Rattle.relation.specs.Ring.{after, Ring}
use Rattle.relation.proofs.Walks.{Walk, go, counted, walk_join, walk_along}

-- A walk of n steps of r that a step of e closes.
pub record ClosedWalk (r e : Rel) (n : ℕ) : Type 0 where
  pub start : ℕ
  pub end : ℕ
  pub walk : Walk r start n end
  pub close : e end start ≡ true

pub get_d_any : (l : List ℕ) (i d f : ℕ) → i < length l → get_or l i d ≡ get_or l i f
get_d_any [] i d f h = absurd (omega arith)
get_d_any (x ∷ l) zero d f h = refl
get_d_any (x ∷ l) (suc i) d f h = get_d_any l i d f (omega arith)

module _ (r e : Rel) (l : List ℕ) (ring : Ring r e l) where
  at : ℕ → ℕ
  at k = get_or l k zero

  inner : (k : ℕ) → suc k < length l → (k ≡ ring.closing → ⊥) → r (at k) (at (suc k)) ≡ true
  unfolding at after
  inner k h d = rw (get_d_any l (suc k) (get_or l zero zero) zero h) at (ring.steps k (omega arith) d)

  -- the steps from place a, none of them the closing one
  segment : (a d : ℕ) → a + d < length l → ((k : ℕ) → a ≤ k → k < a + d → k ≡ ring.closing → ⊥) → Walk r (at a) d (at (a + d))
  segment a d h off = walk_along at a d (λ k p q. inner k (omega arith) (off k p q))

  -- A ring of n + 1 events has n steps of r and the closing one.
  pub ring_walk : (n : ℕ) → suc n ≡ length l → ClosedWalk r e n
  unfolding at after
  ring_walk n long = elim (dec_lt (suc ring.closing) (length l)) [ yes h ↦ around h | no h ↦ straight (omega (arith, h, ring.inside)) ]
    where
      c : ℕ
      c = ring.closing

      same : (k d : ℕ) → d ≡ k → Walk r (at zero) c (at d) → Walk r (at zero) c (at k)
      same k d p w = subst (λ (j : ℕ). Walk r (at zero) c (at j)) p w

      to_closing : Walk r (at zero) c (at c)
      to_closing = same c (zero + c) (omega arith) (segment zero c (omega (arith, ring.inside)) (λ k p q w. omega arith))

      -- the first event follows the last
      wraps : (k : ℕ) → suc k ≡ length l → after l k ≡ at zero
      wraps k p = get_or-eq_default l (get_or l zero zero) (omega arith)

      straight : suc c ≡ length l → ClosedWalk r e n
      straight h = record { start = at zero; end = at c; walk = counted (omega arith) to_closing; close = rw (wraps c h) at ring.closes }

      around : suc c < length l → ClosedWalk r e n
      around h =
          let m : ℕ = length l - suc (suc c) in
          let z : ℕ = suc c + m in
          let first : Walk r (at (suc c)) m (at z) = segment (suc c) m (omega arith) (λ k p q w. omega arith) in
          let turn : r (at z) (at zero) ≡ true = rw (wraps z (omega arith)) at (ring.steps z (omega arith) (λ w. omega arith)) in
          record {
            start = at (suc c);
            end = at c;
            walk = counted (omega arith) (walk_join (go first turn) to_closing);
            close = rw (get_d_any l (suc c) (get_or l zero zero) zero h) at ring.closes;
          }

-- What a ring means: there is one exactly where an event comes back to itself.
use mathlib.Core.Path.{◌≡◌, sym, ◌∙◌}
use mathlib.Core.List.{List}
use mathlib.Core.Bool.{true, false, ◌||◌, false≢true}
use Prim.Native.Nat.{ℕ, zero, suc, ◌-◌}
use native.Mathlib.Omega.{arith}
use lib.ListN.{length}
use Rattle.relation.specs.Rel.{Rel, either, union, compose, plus, nodes}
use Rattle.relation.specs.Ring.{closed, Ring, RingOrNone}
use Rattle.relation.proofs.Truth.{is_false, or_left, or_right}
use Rattle.relation.proofs.Meaning.{Steps, one, more, mem_below, compose_complete, plus_sound, plus_complete}
use Rattle.relation.proofs.Walks.{Inside, Walk, stay, walk_steps}
use Rattle.relation.proofs.RingWalks.{ring_walk}

-- One or more steps, computed, for a relation between numbers below 64.
pub plus_of_steps : (r : Rel) → Inside r → (x y : ℕ) → Steps r x y → plus nodes r x y ≡ true
plus_of_steps r i = plus_complete nodes r (λ x y e. mem_below 64 x (i.source x y e))

-- A walk that e closes.
pub closed_of_walk : (r e : Rel) → Inside r → Inside e → (n x y : ℕ) → Walk r x n y → e y x ≡ true → closed r e x x ≡ true
unfolding closed either union
closed_of_walk r e ir ie zero x _ stay c = or_left (e x x) _ c
closed_of_walk r e ir ie (suc n) x y w c =
    or_right (e x x) _
    (compose_complete nodes (plus nodes r) e x y x (mem_below 64 y (ie.source y x c)) (plus_of_steps r ir x y (walk_steps w)) c)

-- Where e is r, who reaches oneself comes back.
pub plus_closed : (r : Rel) → Inside r → (x : ℕ) → plus nodes r x x ≡ true → closed r r x x ≡ true
unfolding closed either union
plus_closed r i x p = last_step (plus_sound nodes r x x p)
  where
    last_step : Steps r x x → r x x || compose nodes (plus nodes r) r x x ≡ true
    last_step (one h) = or_left (r x x) _ h
    last_step (more {y = y} s h) =
        or_right (r x x) _ (compose_complete nodes (plus nodes r) r x y x (mem_below 64 y (i.source y x h)) (plus_of_steps r i x y s) h)

-- A ring brings an event back to itself.
pub ring_comes_back : (r e : Rel) → Inside r → Inside e → (l : List ℕ) → Ring r e l → (x : ℕ) × (closed r e x x ≡ true)
ring_comes_back r e ir ie l ring =
    let round = ring_walk r e l ring (length l - 1) (omega (arith, ring.inside)) in
    (round.start, closed_of_walk r e ir ie (length l - 1) round.start round.end round.walk round.close)

-- The answer of the ring routine, for a relation and itself: no event reaches itself, or there is a ring.
pub acyclic_of_none : (r : Rel) → Inside r → (l : List ℕ) → RingOrNone r r l → length l ≡ zero → (x : ℕ) → plus nodes r x x ≡ false
acyclic_of_none r i l w p x = is_false _ (λ q. false≢true (sym (w.none p x) ∙ plus_closed r i x q))

-- Paths: one or more steps of a relation, and rings.
use mathlib.Core.Logic.{◌⊎◌, inl, inr}
use mathlib.Core.Path.{◌≡◌, subst}
use Rattle.models.specs.Steps.{Plus, one, cons, Opt, stay, step}

-- r?, at any element.
abbrev pub Weak : {E : Type 0} → (E → E → Type 0) → E → E → Type 0
Weak r = Opt (λ _. Unit {0}) r

-- r? as s*, where a step of r is one of s.
pub weak_step : {E : Type 0} {S : E → Type 0} {r s : E → E → Type 0} {a b : E} → (r a b → s a b) → Opt S r a b → Weak (Plus s) a b
weak_step f (stay e) = stay tt
weak_step f (step h) = step (one (f h))

module _ {E : Type 0} {r : E → E → Type 0} where
  pub join : {a b c : E} → Plus r a b → Plus r b c → Plus r a c
  join (one h) q = cons h q
  join (cons h p) q = cons h (join p q)

  pub snoc : {a b c : E} → Plus r a b → r b c → Plus r a c
  snoc p h = join p (one h)

  -- r* ; r⁺ and r⁺ ; r*
  pub weak_join : {a b c : E} → Weak (Plus r) a b → Plus r b c → Plus r a c
  weak_join (stay u) q = q
  weak_join (step p) q = join p q

  pub join_weak : {a b c : E} → Plus r a b → Weak (Plus r) b c → Plus r a c
  join_weak p (stay u) = p
  join_weak p (step q) = join p q

  -- A transitive relation is its own closure, and goes on through r?.
  module _ (trans : (a b c : E) → r a b → r b c → r a c) where
    pub collapse : {a b : E} → Plus r a b → r a b
    collapse (one h) = h
    collapse (cons {a} {b} {c} h p) = trans a b c h (collapse p)

    pub weak_then : {a b c : E} → Weak r a b → r b c → r a c
    weak_then (stay u) k = k
    weak_then {c = c} (step {a} {b} h) k = trans a b c h k

    pub weak_trans : {a b c : E} → Weak r a b → Weak r b c → Weak r a c
    weak_trans p (stay u) = p
    weak_trans p (step k) = step (weak_then p k)

-- What holds where every step starts, or ends, holds where a path does.
module _ {E : Type 0} {r : E → E → Type 0} {P : E → Type 0} where
  pub path_source : ((a b : E) → r a b → P a) → {a b : E} → Plus r a b → P a
  path_source f (one {a} {b} h) = f a b h
  path_source f (cons {a} {b} h p) = f a b h

  pub path_target : ((a b : E) → r a b → P b) → {a b : E} → Plus r a b → P b
  path_target f (one {a} {b} h) = f a b h
  path_target f (cons h p) = path_target f p

-- Each step of r is one or more of s.
pub flat : {E : Type 0} {r s : E → E → Type 0} → ((a b : E) → r a b → Plus s a b) → {a b : E} → Plus r a b → Plus s a b
flat f (one {a} {b} h) = f a b h
flat f (cons {a} {b} h p) = join (f a b h) (flat f p)

pub mapped : {E : Type 0} {r s : E → E → Type 0} → ((a b : E) → r a b → s a b) → {a b : E} → Plus r a b → Plus s a b
mapped f (one {a} {b} h) = one (f a b h)
mapped f (cons {a} {b} h p) = cons (f a b h) (mapped f p)

-- Where each step of r ends in P or is a step of s, a path of r is one of s or passes P, and a ring of r is one of s or a ring at an element of P.
module _ {E : Type 0} {r s : E → E → Type 0} {P : E → Type 0} (f : (a b : E) → r a b → P b ⊎ s a b) where
  pub passes : {a b : E} → Plus r a b → Plus s a b ⊎ ((m : E) × P m × Plus r a m × Weak (Plus r) m b)
  passes (one {a} {b} h) = elim (f a b h) [ inl p ↦ inr (b, p, one h, stay tt) | inr k ↦ inl (one k) ]
  passes (cons {a} {b} h p) = elim (f a b h) [
    | inl q ↦ inr (b, q, one h, step p)
    | inr k ↦ elim (passes p) [ inl l ↦ inl (cons k l) | inr l ↦ inr (l.0, l.1, cons h l.2, l.3) ]
  ]

  pub turned_to_lem : {a : E} → Plus r a a → Plus s a a ⊎ ((m : E) × P m × Plus r m m)
  turned_to_lem {a} p = elim (passes p) [ inl l ↦ inl l | inr l ↦ inr (l.0, l.1, weak_join l.3 l.2) ]

pub reversed : {E : Type 0} {r : E → E → Type 0} {a b : E} → Plus r a b → Plus (λ x y. r y x) b a
reversed (one h) = one h
reversed (cons h p) = snoc (reversed p) h

-- Where each element has one successor, two paths from one element are comparable.
pub comparable : {E : Type 0} {r : E → E → Type 0} → ((a b c : E) → r a b → r a c → b ≡ c) → {a b c : E} → Plus r c a → Plus r c b → Plus r a b ⊎ (a ≡ b) ⊎ Plus r b a
comparable f (one {a = c} {b = a} h) (one {b = b} k) = inr (inl (f c a b h k))
comparable {r = r} f (one {a = c} {b = a} h) (cons {b = d} {c = b} k q) = inl (subst (λ x. Plus r x b) (f c d a k h) q)
comparable {r = r} f (cons {a = c} {b = d} {c = a} h p) (one {b = b} k) = inr (inr (subst (λ x. Plus r x a) (f c d b h k) p))
comparable {r = r} f (cons {a = c} {b = d} h p) (cons {b = e} {c = b} k q) = comparable f p (subst (λ x. Plus r x b) (f c e d k h) q)

-- Events chained in between old ones: a step s from an old event is a step r to an old one, or enters a new event from which each step s
-- ends where r went. Then paths of s between old events are paths of r.
module _ {E : Type 0} {r s : E → E → Type 0} {old : E → Type 0}
    (f : (a x : E) → old a → s a x → (old x × r a x) ⊎ (¬ old x × ((b : E) → s x b → old b × r a b))) where
  pub unchained : {a b : E} → old a → old b → Plus s a b → Plus r a b
  unchained p q (one {a} {b} h) = elim (f a b p h) [ inl k ↦ one k.1 | inr k ↦ absurd (k.0 q) ]
  unchained p q (cons {a} {b = x} h (one {b = b} k)) = elim (f a x p h) [
    | inl l ↦ cons l.1 (unchained l.0 q (one k))
    | inr l ↦ one (l.1 b k).1
  ]
  unchained p q (cons {a} {b = x} h (cons {b = y} k t)) = elim (f a x p h) [
    | inl l ↦ cons l.1 (unchained l.0 q (cons k t))
    | inr l ↦ (let m = l.1 y k in cons m.1 (unchained m.0 q t))
  ]

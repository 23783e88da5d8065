-- Laws of renumberings.
use mathlib.Core.Path.{◌≡◌, sym, ap, ◌∙◌}
use mathlib.Core.Bool.{true, false, ◌&&◌, false≢true}
use mathlib.Core.List.{List}
use mathlib.Core.Logic.{inl, inr}
use Prim.Native.Nat.{ℕ, ◌<◌, ◌≤◌}
use native.Mathlib.Omega.{arith}
use borrow.Author.Tests.{eqb-true, eq-eqb, leb-true, le-leb, lt-ltb, ltb-true}
use lib.Dec.{eqb, leb, ltb}
use Rattle.relation.specs.Rel.{Set}
use Rattle.relation.proofs.Truth.{is_false, same_test, by_test, and_left, and_right, and_both}
use Rattle.layout.specs.Layout.{events, threads}
use Rattle.layout.specs.Decode.{is_recorded}
use Rattle.translation.specs.Contents.{Contents}
use Rattle.numbering.specs.Numbering.{Renumbering, numbers_to, Renumbers}

module _ {s : Set} (n : Renumbering s) where
  pub injective : (x y : ℕ) → n.to x ≡ n.to y → x ≡ y
  injective x y e = sym (n.back_to x) ∙ ap n.back e ∙ n.back_to y

  pub same_number : (x y : ℕ) → eqb (n.to x) (n.to y) ≡ eqb x y
  same_number x y =
      same_test _ _ (λ p. eq-eqb x y (injective x y (eqb-true (n.to x) (n.to y) p))) (λ p. eq-eqb (n.to x) (n.to y) (ap n.to (eqb-true x y p)))

  -- Numbers of s get numbers of s.
  pub kept_in : (x : ℕ) → s (n.to x) ≡ s x
  kept_in x =
      same_test (s (n.to x)) (s x)
      (λ p. elim (by_test (s x)) [ inl q ↦ q | inr q ↦ sym (ap s (n.others x q)) ∙ p ])
      (λ p. elim (by_test (s (n.to x))) [ inl q ↦ q | inr q ↦ ap s (injective (n.to x) x (n.others (n.to x) q)) ∙ p ])

  -- The same of a set that holds all numbers of s; and the way back.
  unfoldable pub within : (t : Set) → ((x : ℕ) → t x ≡ false → s x ≡ false) → Renumbering t
  within t sub = record { to = n.to; back = n.back; back_to = n.back_to; to_back = n.to_back; others = λ x p. n.others x (sub x p) }

  unfoldable pub reversed : Renumbering s
  reversed = record {
    to = n.back;
    back = n.to;
    back_to = n.to_back;
    to_back = n.back_to;
    others = λ x p. sym (ap n.back (n.others x p)) ∙ n.back_to x;
  }

-- The numbers 1 to n.
pub numbers_is : (n e : ℕ) → numbers_to n e ≡ true → (1 ≤ e) × (e ≤ n)
unfolding numbers_to
numbers_is n e p = search (and_left, and_right, leb-true)

pub numbers_intro : (n e : ℕ) → 1 ≤ e → e ≤ n → numbers_to n e ≡ true
unfolding numbers_to
numbers_intro n e h g = search (and_both, le-leb)

pub numbers_fewer : (m n : ℕ) → m ≤ n → (e : ℕ) → numbers_to n e ≡ false → numbers_to m e ≡ false
numbers_fewer m n h e p =
    is_false (numbers_to m e) (λ q. (let w = numbers_is m e q in false≢true (sym p ∙ numbers_intro n e w.0 (omega (arith, w.1)))))

-- The events of files.
pub recorded_moved : (f g : List ℕ) (n : Renumbering (numbers_to (events f))) → events g ≡ events f → (e : ℕ) → is_recorded g (n.to e) ≡ is_recorded f e
unfolding is_recorded numbers_to
recorded_moved f g n same e = ap (λ (m : ℕ). leb 1 (n.to e) && leb (n.to e) m) same ∙ kept_in n e

-- The threads.
pub thread_within : (n : Renumbering (λ t. ltb t threads)) (t : ℕ) → t < threads → n.to t < threads
thread_within n t h = ltb-true (n.to t) threads (kept_in n t ∙ lt-ltb t threads h)

-- The events of contents.
pub moved_within : {s c : Contents} (w : Renumbers s c) (e : ℕ) → 1 ≤ e → e ≤ s.events → (1 ≤ w.event.to e) × (w.event.to e ≤ c.events)
moved_within {s} {c} w e h g =
    let p = numbers_is s.events (w.event.to e) (kept_in w.event e ∙ numbers_intro s.events e h g) in
    (p.0, omega (arith, p.1, w.events))

-- Laws of the checks of the rules, in order: what they say of the verdict.
use mathlib.Core.Path.{◌≡◌, refl, sym, ap, subst, ◌∙◌}
use mathlib.Core.Bool.{Bool, true, false, not, false≢true}
use mathlib.Core.List.{List, [], ◌∷◌}
use Prim.Native.Nat.{ℕ, zero, suc, ◌≤◌}
use native.Mathlib.Omega.{arith}
use native.Mathlib.Decide.{dec_lt}
use lib.ListN.{length}
use Rattle.std.specs.Prelude.{Option, Some, Result, Ok, Err, IsErrAnd}
use Rattle.std.proofs.lemmas.Result.{err_from_is_err_and}
use Rattle.relation.specs.Rel.{Set, Rel, some, least, diagonal, plus, nodes}
use Rattle.relation.specs.Ring.{ShortestRing, RingOrNone, closed}
use Rattle.relation.specs.Order.{order}
use Rattle.relation.proofs.SmallestLaws.{empty_none, empty_some}
use Rattle.relation.proofs.Meaning.{some_sound}
use Rattle.relation.proofs.Walks.{Inside}
use Rattle.relation.proofs.RingMeaning.{plus_closed}
use Rattle.models.specs.Graph.{Base}
use Rattle.models.specs.Term.{eval}
use Rattle.models.specs.Rules.{Model, broken_pair, first, unread, unordered, failures, verdict}
use Rattle.models.proofs.FirstLaws.{at, positive, first_at, none_more}
use Rattle.verdict.specs.declared.Broken.{Broken}
use Rattle.verdict.specs.declared.Rule.{Rule}
use Rattle.verdict.specs.declared.Rule.TheVariants.{Reads, Writes, Coherence, Atomicity, Acyclicity}
use Rattle.verdict.specs.declared.rules.Pair.{Pair}
use Rattle.verdict.specs.Verdict.{Verdict, number, rule_of, events}
use Rattle.verdict.specs.Shown.{first_of, second_of, Shown, FirstPair, Hold, Tried, Around}
use Rattle.verdict.proofs.PairLaws.{pair_found}

-- A rule has a number.
pub number_not_0 : (r : Rule) → number r ≡ 0 → ⊥
number_not_0 Reads p = omega (arith, p)
number_not_0 Writes p = omega (arith, p)
number_not_0 Coherence p = omega (arith, p)
number_not_0 Atomicity p = omega (arith, p)
number_not_0 Acyclicity p = omega (arith, p)

-- Whether the test finds no event of the set, or one.
module _ {b : Bool} {s : Set} (t : Set) (test : b ≡ not (some nodes s)) (is : s ≡ t) where
  same_test : not (some nodes t) ≡ b
  same_test = sym (test ∙ ap (λ (u : Set). not (some nodes u)) is)

  pub event_none : b ≡ true → some nodes t ≡ false
  event_none e = empty_none t (same_test ∙ e)

  pub event_found : b ≡ false → some nodes t ≡ true
  event_found e = empty_some t (same_test ∙ e)

-- The same of an equal relation.
pub ring_same : {r e s c : Rel} {l : List ℕ} → r ≡ s → e ≡ c → RingOrNone r e l → RingOrNone s c l
ring_same {r} {c = c} {l = l} p q w = subst (λ (t : Rel). RingOrNone t c l) p (subst (λ (t : Rel). RingOrNone r t l) q w)

pub pair_same : {r s : Rel} {p : Option Pair} → r ≡ s → FirstPair r p → FirstPair s p
pair_same {p = p} e w = subst (λ (t : Rel). FirstPair t p) e w

-- Where an event comes back to itself, the ring routine answers a shortest ring.
ring_there : {r e : Rel} {l : List ℕ} → RingOrNone r e l → (y : ℕ) × (closed r e y y ≡ true) → ShortestRing r e l
ring_there {l = l} w (y, p) =
    elim (dec_lt zero (length l)) [
      | yes h ↦ w.ring h
      | no h ↦ absurd (false≢true (sym (w.none (omega (arith, h)) y) ∙ p))
    ]

-- Where some event is related to itself, there is one.
diagonal_there : (r : Rel) → some nodes (diagonal r) ≡ true → (x : ℕ) × (r x x ≡ true)
unfolding diagonal
diagonal_there r p = let (x, m, h) = some_sound nodes (diagonal r) p in (x, h)

-- Where rules 1 to k hold and the next one does, that holds too.
pub next_rule : (M : Model) (B : Base) (k : ℕ) → Hold k M B → (at (failures nodes B M) k).1 ≡ false → Hold (suc k) M B
unfolding failures positive
next_rule M B k hold p = none_more k (failures nodes B M) refl hold p

module _ (M : Model) (B : Base) (steps closing : Rel) (v : Verdict) where
  -- What is shown, by the verdict's number.
  abbrev Case : ℕ → Type 0
  Case zero = events v ≡ order 64 (eval nodes M.order B) B.E
  Case (suc zero) = events v ≡ least 64 (unread nodes B) ∷ []
  Case (suc (suc zero)) = events v ≡ first_of (unordered nodes B) ∷ second_of (unordered nodes B) ∷ []
  Case (suc (suc (suc zero))) = ShortestRing steps closing (events v)
  Case (suc (suc (suc (suc zero)))) = events v ≡ first_of (eval nodes broken_pair B) ∷ second_of (eval nodes broken_pair B) ∷ []
  Case (suc (suc (suc (suc (suc n))))) = ShortestRing (eval nodes M.order B) (eval nodes M.order B) (events v)

  shown : (n : ℕ) → verdict nodes B M ≡ n → rule_of v ≡ n → length (events v) ≤ 64 → Case n → Shown steps closing M B v
  shown n e a b c =
      let at : (k : ℕ) → verdict nodes B M ≡ k → Case k = λ k z. subst Case (sym e ∙ z) c in
      record {
        answer = a ∙ sym e;
        bound = b;
        allowed = at 0;
        broken1 = at 1;
        broken2 = at 2;
        broken4 = at 4;
        broken3 = at 3;
        broken5 = at 5;
      }

  -- Rules 1 to k hold, and the next one is broken: v says its number.
  module _ (k : ℕ) (hold : Hold k M B) (broken : (at (failures nodes B M) k).1 ≡ true) where
    abbrev next : ℕ
    next = (at (failures nodes B M) k).0

    shown_next : rule_of v ≡ next → length (events v) ≤ 64 → Case next → Shown steps closing M B v
    unfolding verdict failures positive
    shown_next = shown next (first_at k (failures nodes B M) refl hold broken)

    says_next : rule_of v ≡ next → {l : List ℕ} → events v ≡ l → length l ≤ 64 → (events v ≡ l → Case next) → Shown steps closing M B v
    says_next e s h c = shown_next e (omega (arith, ap length s)) (c s)

  pair_shown : {r : Rel} {p : Pair} → FirstPair r (Some p) → p.first ∷ p.second ∷ [] ≡ first_of r ∷ second_of r ∷ []
  pair_shown w = let (e, f, _, _) = w.pair in λ i. e i ∷ f i ∷ []

  pub shown_1 : some nodes (unread nodes B) ≡ true → {k : ℕ} → k ≡ least 64 (unread nodes B) → rule_of v ≡ 1 → events v ≡ k ∷ [] → Shown steps closing M B v
  unfolding failures at first
  shown_1 p e a w = says_next 0 refl p a w (omega arith) (λ s. s ∙ ap (λ (x : ℕ). x ∷ []) e)

  pub shown_2 : Hold 1 M B → {p : Pair} → FirstPair (unordered nodes B) (Some p) → rule_of v ≡ 2 → events v ≡ p.first ∷ p.second ∷ [] → Shown steps closing M B v
  unfolding failures at
  shown_2 hold q a w = says_next 1 hold (pair_found q) a w (omega arith) (λ s. s ∙ pair_shown q)

  pub shown_3 : Hold 2 M B → some nodes (diagonal (eval nodes M.coherent B)) ≡ true → Around M B steps closing → rule_of v ≡ 3 → length (events v) ≤ 64
      → RingOrNone steps closing (events v) → Shown steps closing M B v
  unfolding failures at
  shown_3 hold p around a b w = let (x, h) = diagonal_there _ p in shown_next 2 hold p a b (ring_there w (around x h))

  pub shown_4 : Hold 3 M B → {p : Pair} → FirstPair (eval nodes broken_pair B) (Some p) → rule_of v ≡ 4 → events v ≡ p.first ∷ p.second ∷ []
      → Shown steps closing M B v
  unfolding failures at
  shown_4 hold q a w = says_next 3 hold (pair_found q) a w (omega arith) (λ s. s ∙ pair_shown q)

  pub shown_5 : Hold 4 M B → Inside (eval nodes M.order B) → some nodes (diagonal (plus nodes (eval nodes M.order B))) ≡ true
      → rule_of v ≡ 5 → length (events v) ≤ 64 → RingOrNone (eval nodes M.order B) (eval nodes M.order B) (events v) → Shown steps closing M B v
  unfolding failures at eval
  shown_5 hold inside p a b w =
      let (x, h) = diagonal_there _ p in shown_next 4 hold p a b (ring_there w (x, plus_closed _ inside x h))

  pub shown_0 : Hold 4 M B → some nodes (diagonal (plus nodes (eval nodes M.order B))) ≡ false
      → rule_of v ≡ 0 → length (events v) ≤ 64 → events v ≡ order 64 (eval nodes M.order B) B.E → Shown steps closing M B v
  unfolding verdict failures at eval
  shown_0 hold p = shown 0 (next_rule M B 4 hold p)

-- What is shown of a broken rule is what a try found, whatever it would have given else.
pub tried_broken : {A : Type 0} {M : Model} {B : Base} {s c : Rel} {k : ℕ} {b : Broken} → Shown s c M B (Err b) → Tried {A = A} k s c M B (Err b)
tried_broken w = record { broken = w; holds = tt }

pub tried_holds : {A : Type 0} {M : Model} {B : Base} {s c : Rel} {k : ℕ} {a : A} → Hold k M B → Tried {A = A} k s c M B (Ok a)
tried_holds w = record { broken = tt; holds = w }

-- The same where `?` hands the broken rule on.
pub shown_passed : {M : Model} {B : Base} {s c : Rel} {b : Broken} (v : Verdict) → IsErrAnd v (λ x. x ≡ b) → Shown s c M B (Err b) → Shown s c M B v
shown_passed {M} {B} {s} {c} v e w = let (y, p, q) = err_from_is_err_and v e in subst (Shown s c M B) (sym (p ∙ ap Err q)) w

pub tried_passed : {A : Type 0} {M : Model} {B : Base} {s c : Rel} {k : ℕ} {b : Broken} (r : Result A Broken) → IsErrAnd r (λ x. x ≡ b) → Shown s c M B (Err b)
    → Tried k s c M B r
tried_passed {M = M} {B = B} {s = s} {c = c} {k = k} r e w =
    let (y, p, q) = err_from_is_err_and r e in subst (Tried k s c M B) (sym (p ∙ ap Err q)) (tried_broken w)

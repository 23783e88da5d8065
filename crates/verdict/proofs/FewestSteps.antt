-- A ring that is shown has no more events than steps of the rule's relation lead, in the execution graph, from an event back to itself.
use mathlib.Core.Path.{◌≡◌, sym, ◌∙◌}
use mathlib.Core.Bool.{true}
use Prim.Native.Nat.{ℕ, suc, ◌≤◌}
use native.Mathlib.Omega.{arith}
use lib.ListN.{length}
use Rattle.relation.specs.Rel.{Rel, nodes}
use Rattle.relation.proofs.Truth.{is_true}
use Rattle.relation.proofs.Walks.{Inside, Walk, stay, go, counted, walk_join}
use Rattle.relation.proofs.RingWalks.{ClosedWalk}
use Rattle.relation.proofs.ClosedWalks.{at_most_steps}
use Rattle.models.specs.Recording.{Recording}
use Rattle.models.specs.Steps.{one, cons, count}
use Rattle.models.specs.Graph.{graph, base, Within}
use Rattle.models.specs.Term.{Term, ◌⁺, ⟦◌⟧, eval}
use Rattle.models.specs.Rules.{Model, verdict}
use Rattle.models.proofs.Agree.{tests, agrees}
use Rattle.verdict.specs.Verdict.{Verdict, rule_of, events}
use Rattle.verdict.specs.Shown.{Shown}
use Rattle.verdict.proofs.ShownMeaning.{term_inside}

-- Steps of the graph are steps of the test, as many.
module _ (r : Recording ℕ) (within : Within nodes r) where
  abbrev test : Term → Rel
  test t = eval nodes t (base nodes r)

  pub tested : (t : Term) (a b : ℕ) → ⟦ t ⟧ (graph r) a b → test t a b ≡ true
  tested t a b h = is_true (test t a b) ((tests nodes (base nodes r) (graph r) (agrees nodes r within) t).from a b h)

  pub plus_walk : (t : Term) {a b : ℕ} (p : ⟦ t ⁺ ⟧ (graph r) a b) → Walk (test t) a (count p) b
  unfolding count
  plus_walk t {a} (one {b = b} h) = go stay (tested t a b h)
  plus_walk t {a} (cons {b = b} h p) = counted (omega arith) (walk_join (go stay (tested t a b h)) (plus_walk t p))

  -- Steps back to where they started: the first is taken for the closing one.
  pub plus_round : (t : Term) {a : ℕ} (p : ⟦ t ⁺ ⟧ (graph r) a a) → (n : ℕ) × (suc n ≡ count p) × ClosedWalk (test t) (test t) n
  unfolding count
  plus_round t {a} (one h) = (0, omega arith, record { start = a; end = a; walk = stay; close = tested t a a h })
  plus_round t {a} (cons {b = b} h p) = (count p, omega arith, record { start = b; end = a; walk = plus_walk t p; close = tested t a b h })

  -- What is shown under rules 3 and 5.
  module _ (steps closing : Rel) (M : Model) (v : Verdict) (w : Shown steps closing M (base nodes r) v) where
    named : (n : ℕ) → rule_of v ≡ n → verdict nodes (base nodes r) M ≡ n
    named n e = sym w.answer ∙ e

    pub fewest_3 : Inside steps → Inside closing → rule_of v ≡ 3 → (n : ℕ) → ClosedWalk steps closing n → length (events v) ≤ suc n
    fewest_3 i j e = at_most_steps steps closing i j (events v) (w.broken3 (named 3 e))

    pub fewest_5 : rule_of v ≡ 5 → (a : ℕ) (p : ⟦ M.order ⁺ ⟧ (graph r) a a) → length (events v) ≤ count p
    fewest_5 e a p =
        let inside = term_inside r within M.order in
        let (n, long, round) = plus_round M.order p in
        omega (arith, long, at_most_steps _ _ inside inside (events v) (w.broken5 (named 5 e)) n round)

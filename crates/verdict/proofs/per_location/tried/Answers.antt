-- `per_location::tried` meets its contract: its relations are those of the rules, rule by rule.
use mathlib.Core.Path.{◌≡◌, refl, ap, subst, ◌∙◌}
use mathlib.Core.List.{List}
use Prim.Native.Nat.{ℕ}
use lib.ListN.{length}
use Rattle.relation.specs.Rel.{Rel, Set, diagonal, plus, nodes}
use Rattle.relation.specs.Bits.{edge}
use Rattle.relation.proofs.Walks.{Inside, edge_inside}
use Rattle.relation.proofs.RingMeaning.{plus_closed}
use Rattle.models.specs.Graph.{Base}
use Rattle.models.specs.Term.{Term, eval, frₑ}
use Rattle.models.specs.Armv8.{sc_per_loc}
use Rattle.models.specs.Rules.{per_location}
use Rattle.verdict.specs.Base.{base_of}
use Rattle.verdict.specs.Shown.{Around}
use Rattle.verdict.proofs.ShownLaws.{tried_passed}
use Rattle.verdict.proofs.TermLaws.{holds, given, is_plus, terms}
use borrow.Author.Rules.{rules}
use Rattle.verdict.proofs.per_location.tried.Goals as goal

abbrev ring : Base → Rel
ring B = eval nodes sc_per_loc B

-- Rule 3 by a grid that holds the steps of SC-per-location: the events that it forbids, and the rings around them.
module _ (B : Base) (t : Term) (g : List (List ℕ)) (steps : edge g ≡ ring B) where
  forbidden : {back : Rel} {s : Set} → s ≡ diagonal back → back ≡ plus nodes (edge g) → s ≡ diagonal (eval nodes (per_location t).coherent B)
  forbidden p q = p ∙ ap diagonal (holds B (per_location t).coherent (is_plus q (given steps)))

  around : length g ≡ 64 → Around (per_location t) B (ring B) (ring B)
  unfolding eval
  around long x h = (x, plus_closed _ (subst Inside steps (edge_inside _ long)) x h)

pub returns-in_err-coherence : goal.returns-in_err-coherence
unfolding eval base_of
returns-in_err-coherence c =
    λ e t.
    let B : Base = base_of c.args.base.now in
    let s : edge c.or-steps.result ≡ ring B = holds B sc_per_loc (search terms depth 9) in
    let three = c.in_err-coherence.ensures (per_location t) B (ring B) (ring B) (c.in_ok-completeness.ensures (per_location t) (ring B) (ring B)).holds
    (forbidden B t _ s c.diagonal.ensures c.closure.ensures) s s (around B t _ s (search rules)) in
    tried_passed _ c.from_residual-in_err-coherence.ensures.1 three.broken

pub returns : goal.returns
unfolding eval base_of
returns c =
    λ e t.
    let B : Base = base_of c.args.base.now in
    let s : edge c.or-steps.result ≡ ring B = holds B sc_per_loc (search terms depth 9) in
    let three = c.in_ok-coherence.ensures (per_location t) B (ring B) (ring B) (c.in_ok-completeness.ensures (per_location t) (ring B) (ring B)).holds
    (forbidden B t _ s c.diagonal.ensures c.closure.ensures) s s (around B t _ s (search rules)) in
    c.atomicity.ensures (per_location t) B (ring B) (ring B) three.holds refl (holds B frₑ (search terms)) c.coe.ensures

-- `shown::acyclicity` meets its contract: a ring of the order, or the events in order.
use mathlib.Core.Path.{◌≡◌, refl, ap, ap₂, subst, ◌∙◌}
use Rattle.relation.specs.Rel.{Rel, Set, diagonal, plus, nodes}
use Rattle.relation.specs.Order.{order}
use Rattle.relation.proofs.Walks.{Inside, edge_inside}
use Rattle.verdict.specs.Verdict.{number}
use Rattle.verdict.proofs.ShownLaws.{event_none, event_found, ring_same, shown_5, shown_0}
use borrow.Author.Rules.{rules}
use Rattle.verdict.proofs.shown.acyclicity.Goals as goal

-- The events that the order leads back to themselves.
back : {g reached o : Rel} {s : Set} → s ≡ diagonal reached → reached ≡ plus nodes g → g ≡ o → s ≡ diagonal (plus nodes o)
back p q e = p ∙ ap diagonal (q ∙ ap (plus nodes) e)

pub returns-then-is_empty : goal.returns-then-is_empty
returns-then-is_empty c =
    λ M B s e hold p q.
    let none = event_none _ c.is_empty.ensures (back c.diagonal.ensures c.closure-reached.ensures p) c.if-is_empty.true in
    shown_0 M B s e _ hold none refl c.order.ensures.bounded (c.order.ensures.ordered ∙ ap₂ (order 64) p q)

pub returns : goal.returns
returns c =
    λ M B s e hold p q. let found = c.broken_ring.ensures in
    let some = event_found _ c.is_empty.ensures (back c.diagonal.ensures c.closure-reached.ensures p) c.if-is_empty.false in
    shown_5 M B s e _ hold (subst Inside p (edge_inside _ (search rules))) some (ap number found.rule) found.bounded (ring_same p p found.ring)

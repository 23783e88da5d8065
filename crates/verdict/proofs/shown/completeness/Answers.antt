-- `shown::completeness` meets its contract: what the searches for rules 1 and 2 find or do not find.
use mathlib.Core.Path.{refl, sym, ap, ◌∙◌}
use Rattle.relation.specs.Rel.{smallest}
use Rattle.relation.proofs.SmallestLaws.{smallest_some}
use Rattle.models.specs.Rules.{first, failures}
use Rattle.models.proofs.FirstLaws.{at}
use Rattle.verdict.specs.Verdict.{number}
use Rattle.verdict.proofs.PairLaws.{some_smallest, none_smallest, pair_none}
use Rattle.verdict.proofs.ShownLaws.{next_rule, tried_broken, tried_holds, shown_1, shown_2}
use Rattle.verdict.proofs.shown.completeness.Goals as goal

pub broken_event-requires : goal.broken_event-requires
broken_event-requires c = let (_, h) = smallest_some _ _ (sym c.first.ensures ∙ c.in-Some.is) in h

pub returns-in-Some : goal.returns-in-Some
returns-in-Some c =
    λ M s e.
    let found = sym (c.first.ensures ∙ ap smallest c.unread.ensures) ∙ c.in-Some.is in
    let (is, h) = smallest_some _ _ found in
    let (rule, events) = c.broken_event.ensures in
    tried_broken (shown_1 M _ s e _ (some_smallest _ _ found) is (ap number rule) events)

pub returns-in-Some-unordered : goal.returns-in-Some-unordered
unfolding failures at first
returns-in-Some-unordered c =
    λ M s e.
    let none = sym (c.first.ensures ∙ ap smallest c.unread.ensures) ∙ c.in_default.is in
    let (rule, events) = c.broken_pair.ensures in
    tried_broken (shown_2 M _ s e _ (next_rule M _ 0 refl (none_smallest _ none)) c.in-Some-unordered.ensures (ap number rule) events)

pub returns : goal.returns
unfolding failures at first
returns c =
    λ M s e.
    let none = sym (c.first.ensures ∙ ap smallest c.unread.ensures) ∙ c.in_default.is in
    tried_holds (next_rule M _ 1 (next_rule M _ 0 refl (none_smallest _ none)) (pair_none c.in_default-unordered.ensures))

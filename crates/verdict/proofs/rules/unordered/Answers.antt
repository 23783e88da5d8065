-- `rules::unordered` meets its contract. No write that is passed has an unsettled peer; in the turn of `first` no peer that is passed is unsettled.
use mathlib.Core.Path.{refl, sym, ap, subst, ◌∙◌}
use Rattle.std.specs.Prelude.{Some, None}
use Rattle.relation.specs.Rel.{Rel, members}
use Rattle.relation.specs.Bits.{on, edge}
use Rattle.verdict.specs.Base.{base_of}
use Rattle.verdict.specs.Shown.{FirstPair}
use Rattle.verdict.proofs.PairLaws.{pairs_first, pairs_next, pairs_none, pairs_found, turn_first, turn_next, unordered_is}
use borrow.Author.Rules.{rules}
use Rattle.verdict.proofs.rules.unordered.Goals as goal

pub pairs-init : goal.pairs-init
pairs-init c = (
  search rules,
  search rules,
  pairs_first _ _ _ (ap (λ s. members (on s.rest)) c.into_iter-first-iterator.ensures.into_iter_gives ∙ ap members c.members-first-items.ensures),
  refl,
)

pub loop-second-init : goal.loop-second-init
unfolding edge
loop-second-init c = (
  search rules,
  search rules,
  turn_first _ _ _ _ (ap (λ s. members (on s.rest)) c.into_iter-second-iterator.ensures.into_iter_gives ∙ ap members c.members-second-items.ensures) c.and-peers.ensures,
  c.pairs.invariant.3,
)

pub loop-second-preserved : goal.loop-second-preserved
unfolding edge
loop-second-preserved c =
    let inv = c.loop-second.invariant in (
      search rules,
      search rules,
      turn_next _ _ _ _ inv.2 c.in-Some-second.ensures.steps.0 (sym c.has.ensures ∙ c.if-not-has.false),
      inv.3,
    )

pub pairs-preserved : goal.pairs-preserved
pairs-preserved c =
    let inv = c.loop-second.invariant in (
      search rules,
      search rules,
      pairs_next _ _ _ _ inv.2 c.pairs.invariant.2 c.in-Some.ensures.steps.0 c.in-None-second.ensures.steps.0.0,
      inv.3,
    )

pub returns-in-None : goal.returns-in-None
unfolding base_of
returns-in-None c =
    let inv = c.pairs.invariant in
    subst (FirstPair _) (sym inv.3)
    (subst (λ (r : Rel). FirstPair r None)
    (unordered_is c.inverse.ensures c.or.ensures c.optional-settled.ensures (base_of c.args.base.now) refl refl refl)
    (pairs_none _ _ _ inv.2 c.in-None.ensures.steps.0.0))

pub returns-then-not-has : goal.returns-then-not-has
unfolding base_of edge
returns-then-not-has c =
    subst (λ (r : Rel). FirstPair r (Some (record { first = c.in-Some.first; second = c.in-Some-second.second })))
    (unordered_is c.inverse.ensures c.or.ensures c.optional-settled.ensures (base_of c.args.base.now) refl refl refl)
    (pairs_found _ _ _ _ c.loop-second.invariant.2 c.pairs.invariant.2 c.in-Some.ensures.steps.0 c.in-Some-second.ensures.steps.0
    (sym c.has.ensures ∙ c.if-not-has.true))

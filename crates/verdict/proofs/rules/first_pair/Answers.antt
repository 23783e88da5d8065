-- `rules::first_pair` meets its contract: the smallest event that the relation leads from, and the smallest that it leads to.
use mathlib.Core.Path.{sym, subst, ◌∙◌}
use native.Mathlib.Omega.{arith}
use Rattle.relation.specs.Bits.{edge}
use Rattle.relation.proofs.SmallestLaws.{smallest_some}
use Rattle.verdict.specs.Shown.{FirstPair}
use Rattle.verdict.proofs.PairLaws.{smallest_source, leads_to, first_pair, no_pair}
use Rattle.verdict.proofs.rules.first_pair.Goals as goal

pub returns-in_err-first : goal.returns-in_err-first
returns-in_err-first c =
    let none = smallest_source _ c.all.ensures c.inverse.ensures c.image.ensures c.first.ensures in
    subst (FirstPair (edge c.args.g)) (sym c.from_residual.ensures) (no_pair (sym none ∙ c.in_err-first.was))

pub offset_bounds-g-first : goal.offset_bounds-g-first
offset_bounds-g-first c =
    let (_, h) = smallest_some _ _ (sym c.first.ensures ∙ c.in_ok-first.was) in record { fits = omega arith }

pub bounds-g-first : goal.bounds-g-first
bounds-g-first c = let (_, h) = smallest_some _ _ (sym c.first.ensures ∙ c.in_ok-first.was) in h

pub returns-in_err-second : goal.returns-in_err-second
unfolding edge
returns-in_err-second c =
    let some = smallest_source _ c.all.ensures c.inverse.ensures c.image.ensures c.first.ensures in
    absurd (leads_to (edge c.args.g) _ (sym some ∙ c.in_ok-first.was) (sym c.first-2.ensures ∙ c.in_err-second.was))

pub returns : goal.returns
unfolding edge
returns c =
    let some = smallest_source _ c.all.ensures c.inverse.ensures c.image.ensures c.first.ensures in
    first_pair (sym some ∙ c.in_ok-first.was) (sym c.first-2.ensures ∙ c.in_ok-second.was)

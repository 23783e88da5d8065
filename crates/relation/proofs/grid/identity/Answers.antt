-- `grid::identity` meets its contract, row by row.
use mathlib.Core.Path.{sym, ◌∙◌}
use Rattle.relation.specs.Rel.{single, from, identity}
use Rattle.relation.proofs.SetLaws.{single_only}
use Rattle.relation.proofs.GridLaws.{chosen_start, chosen_with, chosen_skip, chosen_all}
use borrow.Author.Rules.{rules}
use Rattle.relation.proofs.grid.identity.Goals as goal

pub loop-i-init : goal.loop-i-init
loop-i-init c = chosen_start (search rules) c.empty-h.ensures

pub loop-i-preserved : goal.loop-i-preserved
loop-i-preserved c =
    let inv = c.loop-i.invariant in
    let test = c.has.ensures in
    elim c.if-has.branch [
      | goal.then-has w ↦ rw w.h-is (chosen_with inv c.loop-i-test.true (sym test ∙ w.if-has.true) _ (single_only _ w.none.ensures w.with.ensures))
      | goal.else-has w ↦ rw w.h-is (chosen_skip inv c.loop-i-test.true (sym test ∙ w.if-has.false))
    ]

pub returns : goal.returns
unfolding from identity single
returns c = chosen_all c.loop-i.invariant c.loop-i-test.false

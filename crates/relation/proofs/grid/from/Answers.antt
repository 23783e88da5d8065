-- `grid::from` meets its contract, row by row.
use mathlib.Core.Path.{refl, sym, ◌∙◌}
use Rattle.relation.specs.Bits.{edge}
use Rattle.relation.proofs.GridLaws.{chosen_start, chosen_with, chosen_skip, chosen_all}
use borrow.Author.Rules.{rules}
use Rattle.relation.proofs.grid.from.Goals as goal

pub loop-i-init : goal.loop-i-init
loop-i-init c = chosen_start (search rules) c.empty-h.ensures

pub loop-i-preserved : goal.loop-i-preserved
unfolding edge
loop-i-preserved c =
    let inv = c.loop-i.invariant in
    let test = c.has.ensures in
    elim c.if-has.branch [
      | goal.then-has w ↦ rw w.h-is (chosen_with inv c.loop-i-test.true (sym test ∙ w.if-has.true) _ refl)
      | goal.else-has w ↦ rw w.h-is (chosen_skip inv c.loop-i-test.true (sym test ∙ w.if-has.false))
    ]

pub returns : goal.returns
returns c = chosen_all c.loop-i.invariant c.loop-i-test.false

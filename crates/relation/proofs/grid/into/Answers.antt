-- `grid::into` meets its contract, row by row.
use mathlib.Core.Path.{refl}
use Rattle.relation.specs.Rel.{empty, intersection, into}
use Rattle.relation.specs.Bits.{edge}
use Rattle.relation.proofs.GridLaws.{mapped_start, mapped_more, mapped_all}
use borrow.Author.Rules.{rules}
use Rattle.relation.proofs.grid.into.Goals as goal

pub loop-i-init : goal.loop-i-init
unfolding intersection empty
loop-i-init c = mapped_start (search rules) (λ m h. refl)

pub loop-i-preserved : goal.loop-i-preserved
unfolding edge
loop-i-preserved c = mapped_more c.loop-i.invariant c.loop-i-test.true _ c.and.ensures

pub returns : goal.returns
unfolding into
returns c = mapped_all c.loop-i.invariant c.loop-i-test.false

-- `grid::then` meets its contract, row by row.
use Rattle.relation.specs.Rel.{compose}
use Rattle.relation.specs.Bits.{edge}
use Rattle.relation.proofs.GridLaws.{mapped_start, mapped_more, mapped_all, image_out}
use borrow.Author.Rules.{rules}
use Rattle.relation.proofs.grid.then.Goals as goal

pub loop-i-init : goal.loop-i-init
loop-i-init c = mapped_start (search rules) (λ m h. image_out _ _)

pub loop-i-preserved : goal.loop-i-preserved
unfolding edge
loop-i-preserved c = mapped_more c.loop-i.invariant c.loop-i-test.true _ c.reached.ensures

pub returns : goal.returns
unfolding compose
returns c = mapped_all c.loop-i.invariant c.loop-i-test.false

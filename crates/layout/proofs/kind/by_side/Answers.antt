-- `kind::by_side` meets its contract.
use Rattle.layout.specs.Layout.{by_side}
use Rattle.layout.proofs.kind.by_side.Goals as goal

pub returns-then-source : goal.returns-then-source
unfolding by_side
returns-then-source c = rw (c.if-source.true, by_side)

pub returns : goal.returns
unfolding by_side
returns c = rw (c.if-source.false, by_side)

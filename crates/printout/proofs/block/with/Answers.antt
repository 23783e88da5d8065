-- `block::with` meets its contract: the row has a bit for the event, or no place for it.
use mathlib.Core.Path.{ap}
use Rattle.relation.specs.Rel.{Set}
use Rattle.printout.proofs.BlockLaws.{no_bit_more}
use Rattle.printout.proofs.block.with.Goals as goal

pub returns-then-e-lt64 : goal.returns-then-e-lt64
returns-then-e-lt64 c = λ j h. ap (λ (s : Set). s j) c.with.ensures

pub returns : goal.returns
returns c = no_bit_more _ _ c.if-e-lt64.false

-- `block::star` meets its contract, by whether the row has the event.
use Rattle.printout.proofs.BlockLaws.{star_shown, star_none}
use Rattle.printout.proofs.block.star.Goals as goal

pub returns-then-has : goal.returns-then-has
returns-then-has c = λ ring w. star_shown _ ring _ c.requires w _ c.has.ensures c.if-has.true

pub returns : goal.returns
returns c = λ ring w. star_none _ ring _ c.requires w _ c.has.ensures c.if-has.false

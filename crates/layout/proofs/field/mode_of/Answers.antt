-- `field::mode_of` meets its contract.
use Rattle.layout.specs.Decode.{decode}
use borrow.Author.Rules.{rules}
use Rattle.layout.proofs.field.mode_of.Goals as goal

pub returns : goal.returns
unfolding decode
returns c = search rules

-- `chain::Cursor::moved` meets its contract.
use borrow.Author.Rules.{rules}
use Rattle.layout.specs.Chains.{next_of}
use Rattle.layout.proofs.chain.Cursor.moved.Goals as goal

pub returns : goal.returns
unfolding next_of
returns c = search rules

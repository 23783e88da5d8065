-- `chain::Cursor::start` meets its contract.
use borrow.Author.Rules.{rules}
use Rattle.layout.specs.Chains.{start_of}
use Rattle.layout.proofs.chain.Cursor.start.Goals as goal

pub returns : goal.returns
unfolding start_of
returns c = search rules

-- `row::none` meets its contract: no bit is on in eight zero bytes.
use Rattle.relation.proofs.ByteLaws.{bit_none}
use Rattle.relation.proofs.row.none.Goals as goal

pub returns : goal.returns
returns c = bit_none

-- `row::all` meets its contract: every bit is on in eight bytes of 255.
use Rattle.relation.proofs.WordLaws.{bit_all}
use Rattle.relation.proofs.row.all.Goals as goal

pub returns : goal.returns
returns c = bit_all

-- `row::members` meets its contract: the members of all of the row are left.
use mathlib.Core.Path.{sym}
use Rattle.relation.proofs.row.members.Goals as goal

pub returns : goal.returns
returns c = sym c.word.ensures

-- `row::or` meets its contract: the joined row holds what either holds.
use mathlib.Core.Path.{ap, ◌∙◌}
use Rattle.relation.specs.Bits.{bit}
use Rattle.relation.proofs.JoinLaws.{bit_byte_or}
use borrow.Author.Rules.{rules}
use Rattle.relation.proofs.row.or.Goals as goal

pub returns : goal.returns
returns c = ap bit c.joined.ensures ∙ bit_byte_or _ _ (search rules) (search rules)

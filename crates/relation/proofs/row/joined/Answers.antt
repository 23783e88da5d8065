-- `row::joined` meets its contract: the bytes of the joined words are those of the byte by byte or.
use Rattle.relation.proofs.JoinLaws.{joined_bytes}
use borrow.Author.Rules.{rules}
use Rattle.relation.proofs.row.joined.Goals as goal

pub returns : goal.returns
returns c =
    joined_bytes _ _ (search rules) (search rules) _ _ _ (search rules) c.word.ensures c.word-2.ensures c.bytes.ensures

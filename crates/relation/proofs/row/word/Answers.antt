-- `row::word` meets its contract, by the bits of each byte.
use Prim.Native.Nat.{ℕ, ◌<◌}
use lib.ListN.{get_or}
use mir.Syntax.{w8}
use mir.Val.{Fits}
use Rattle.relation.proofs.WordLaws.{bit_word}
use borrow.Author.Rules.{rules}
use Rattle.relation.proofs.row.word.Goals as goal

byte : (c : goal.Start) (k : ℕ) → get_or c.args.row k 0 < 256
byte c k = let f : Fits w8 (get_or c.args.row k 0) = search rules in f.fits

pub returns : goal.returns
returns c = bit_word _ (search rules) (byte c)

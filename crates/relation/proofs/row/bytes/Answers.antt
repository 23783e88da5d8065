-- `row::bytes` meets its contract: the bytes of a number hold its bits.
use Rattle.relation.proofs.WordLaws.{bytes_bit}
use mir.Syntax.{w64}
use mir.Val.{Fits}
use borrow.Author.Rules.{rules}
use Rattle.relation.proofs.row.bytes.Goals as goal

pub returns : goal.returns
returns c = let f : Fits w64 c.args.w = search rules in bytes_bit c.args.w f.fits

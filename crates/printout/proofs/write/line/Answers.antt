-- `write::line` meets its contract: block by block, then the line feed.
use mathlib.Core.Path.{◌≡◌, ap, ◌∙◌}
use native.Mathlib.Omega.{arith}
use lib.ListN.{length}
use Rattle.output.proofs.OutputLaws.{length_placed}
use Rattle.printout.proofs.PageLaws.{blocks_none, blocks_written, line_written}
use borrow.Author.Rules.{rules}
use Rattle.printout.proofs.write.line.Goals as goal

pub loop-t-init : goal.loop-t-init
loop-t-init c = blocks_none _ _ _ _ c.requires.3

pub loop-t-preserved : goal.loop-t-preserved
loop-t-preserved c =
    let size : length c.block_at-block.result ≡ 20 = search rules in
    blocks_written _ _ _ c.requires.0 c.loop-t.invariant c.loop-t-test.true size c.block_at-block.ensures c.put.ensures

pub shape_of-out : goal.shape_of-out
shape_of-out c =
    let inv = c.loop-t.invariant in
    ap length c.put-2.ensures ∙ length_placed _ _ _ (omega (arith, inv.room, inv.long)) ∙ inv.long

pub returns : goal.returns
returns c =
    let inv = c.loop-t.invariant in record { long = ap length c.put-2.ensures ∙ length_placed _ _ _ (omega (arith, inv.room, inv.long)) ∙ inv.long; line = line_written _ _ _ c.requires.0 inv c.loop-t-test.false c.put-2.ensures }

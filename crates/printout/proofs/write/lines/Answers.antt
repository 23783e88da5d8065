-- `write::lines` meets its contract, line by line.
use native.Mathlib.Omega.{arith}
use Rattle.printout.proofs.PageLaws.{lines_none, lines_written, lines_all}
use Rattle.printout.proofs.write.lines.Goals as goal

pub loop-k-init : goal.loop-k-init
loop-k-init c = lines_none _ _ _ _ c.requires.3

pub loop-k-preserved : goal.loop-k-preserved
loop-k-preserved c =
    let made = c.line.ensures in
    lines_written _ _ _ c.requires.0 c.loop-k.invariant c.loop-k-test.true made.long made.line

pub returns : goal.returns
returns c = lines_all _ _ _ c.requires.0 c.loop-k.invariant (omega arith)

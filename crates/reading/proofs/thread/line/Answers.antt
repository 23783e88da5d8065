-- `thread::line` meets its contract, thread by thread.
use Rattle.reading.proofs.ThreadLaws.{line_none}
use Rattle.reading.proofs.thread.line.Goals as goal

pub loop-t-init : goal.loop-t-init
loop-t-init c = (c.requires.0, c.requires.1, line_none _ _ c.new-line.ensures)

-- `written` meets its contract: refused before anything is written, or written line by line.
use Rattle.recording.proofs.Accepted.{sized, threads_sound_lem}
use Rattle.printout.proofs.TableLaws.{whole_line}
use Rattle.printout.proofs.PageCall.{page_short, page_written}
use Rattle.printout.proofs.written.Goals as goal

pub returns-then-out-length : goal.returns-then-out-length
returns-then-out-length c = page_short _ _ _ c.requires _ c.longest-n.ensures.0 c.if-out-length.true

pub line-events-requires : goal.line-events-requires
line-events-requires c = let pre = c.requires in (sized _ pre, threads_sound_lem _ pre)

pub lines-requires : goal.lines-requires
lines-requires c = (
  c.requires,
  whole_line _ _ _ (rw c.as_slice.ensures.value c.line-events.ensures) c.starts-starts.ensures,
  c.longest-n.ensures.1,
  c.if-out-length.false,
)

pub returns : goal.returns
returns c =
    page_written _ _ _ c.requires _ c.longest-n.ensures.0 _ c.if-out-length.false (c.lines.ensures _ c.members-stars.ensures)

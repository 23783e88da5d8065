-- `main` is safe: what is written fits the array.
use Rattle.std.proofs.Common.{sym, length-take-le}
use Rattle.recording.proofs.Longest.{read_itself}
use Rattle.output.proofs.FillLaws.{fills_wrote}
use Rattle.translate.proofs.main.Goals as goal

pub slice_bounds-bytes-end : goal.slice_bounds-bytes-end
slice_bounds-bytes-end c =
    (fills_wrote _ _ _ _ _ (c.of_input.ensures _ (read_itself c.read.new.start c.in_ok-n.n)) _ c.in-Ok.is).within

pub slice_bounds-write-end : goal.slice_bounds-write-end
slice_bounds-write-end c =
    sym (length-take-le _ _ (fills_wrote _ _ _ _ _ (c.of_input.ensures _ (read_itself c.read.new.start c.in_ok-n.n)) _ c.in-Ok.is).within)

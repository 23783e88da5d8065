-- `fill` meets its contract: refused with 12 before anything is written, or written.
use mathlib.Core.Path.{refl}
use Rattle.output.proofs.FillLaws.{fills_short, fills_written}
use Rattle.output.proofs.fill.Goals as goal

pub returns-then-out-bytes : goal.returns-then-out-bytes
returns-then-out-bytes c = fills_short _ _ _ refl c.if-out-bytes.true

pub returns : goal.returns
returns c = fills_written _ _ _ refl c.if-out-bytes.false _ refl _ c.put.ensures

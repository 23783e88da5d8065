-- `aligned` meets its contract, column by column.
use mathlib.Core.Path.{sym}
use Rattle.decimal.proofs.DecimalLaws.{columns5}
use Rattle.decimal.proofs.aligned.Goals as goal

pub returns : goal.returns
returns c = rw (c.column.ensures, c.column-2.ensures, c.column-3.ensures, c.column-4.ensures) (sym (columns5 _))

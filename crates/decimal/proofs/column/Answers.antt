-- `column` meets its contract: a space where the number is smaller than the power, else a digit.
use mathlib.Core.Path.{sym}
use Rattle.decimal.proofs.DecimalLaws.{column_space, column_digit}
use Rattle.decimal.proofs.column.Goals as goal

pub returns-then-n-power : goal.returns-then-n-power
returns-then-n-power c = sym (column_space _ _ c.if-n-power.true)

pub returns : goal.returns
returns c = sym (column_digit _ _ c.if-n-power.false)

-- `put_number`: there is room for a number behind the space, and a byte has at most three digits.
use Rattle.std.proofs.Common.{rules, arith, length-append}
use mathlib.Core.Path.{ap}
use lib.ListN.{length}
use Rattle.decimal.specs.Decimal.{decimal}
use Rattle.lines.proofs.LineLaws.{decimal_short}
use Rattle.lines.proofs.put_number.Goals as goal

pub put_decimal-requires : goal.put_decimal-requires
put_decimal-requires c = omega (arith, c.requires, c.push.ensures.len)

pub returns-clause-short : goal.returns-clause-short
returns-clause-short c =
    omega (arith, ap length c.put_decimal.ensures, length-append c.push.new.self.items (decimal c.args.n), decimal_short c.args.n (search rules))

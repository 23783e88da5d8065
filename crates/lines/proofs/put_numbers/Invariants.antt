-- `put_numbers`: the numbers before the one that is next are put.
use Rattle.std.proofs.Common.{◌≡◌, ◌++◌, map, ◌+◌, ◌*◌, ◌≤◌, length, take}
use Rattle.decimal.specs.Decimal.{decimal}
use Rattle.lines.specs.Lines.{spaced}
use Rattle.lines.proofs.put_numbers.Given as goal

abbrev pub invariant-loop-n : goal.invariant-loop-n
invariant-loop-n l =
    (l.text.items ≡ l.initial.text.items ++ spaced (map decimal (take l.n-index l.numbers)))
    × (length l.text.items ≤ length l.initial.text.items + 4 * l.n-index)

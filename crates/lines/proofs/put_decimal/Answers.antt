-- `put_decimal`: a byte has one, two or three digits.
use Rattle.std.proofs.Common.{rules, arith, ◌++◌}
use mathlib.Core.Path.{ap, sym, ◌∙◌}
use Rattle.lines.proofs.LineLaws.{one_digit, two_digits, three_digits}
use Rattle.lines.proofs.put_decimal.Goals as goal

pub returns-then-below_10 : goal.returns-then-below_10
returns-then-below_10 c =
    c.put_word.ensures ∙ ap (◌++◌ c.args.text.now.items) (sym (one_digit c.args.n _ (omega (arith, c.if-below_10.true)) (omega arith)))

pub returns-then-below_100 : goal.returns-then-below_100
returns-then-below_100 c =
    c.put_word-then-below_100.ensures
    ∙ ap (◌++◌ c.args.text.now.items)
    (sym (two_digits c.args.n _ _ (omega (arith, c.if-below_10.false)) (omega (arith, c.if-below_100.true)) (omega arith) (omega arith)))

pub returns : goal.returns
returns c =
    c.put_word-2.ensures
    ∙ ap (◌++◌ c.args.text.now.items)
    (sym (three_digits c.args.n _ _ _ (omega (arith, c.if-below_100.false)) (search rules) (omega arith) (omega arith) (omega arith)))

-- `block::letter` meets its contract, class by class.
use mathlib.Core.Path.{sym, ap}
use native.Mathlib.Omega.{arith}
use Rattle.printout.specs.Page.{letter}
use Rattle.printout.proofs.BlockLaws.{letter_other}
use Rattle.printout.proofs.block.letter.Goals as goal

pub returns-in-1 : goal.returns-in-1
unfolding letter
returns-in-1 c = ap letter (sym c.in-1.is)

pub returns-in-2 : goal.returns-in-2
unfolding letter
returns-in-2 c = ap letter (sym c.in-2.is)

pub returns-in-3 : goal.returns-in-3
unfolding letter
returns-in-3 c = ap letter (sym c.in-3.is)

pub returns-in_default : goal.returns-in_default
returns-in_default c = letter_other _ (λ e. omega (arith, e)) (λ e. omega (arith, e)) (λ e. omega (arith, e))

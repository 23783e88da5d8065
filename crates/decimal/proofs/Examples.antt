-- Numbers written out: with one to five digits, and right-aligned.
use mathlib.Core.Path.{◌≡◌, refl}
use mathlib.Core.List.{[], ◌∷◌}
use Rattle.decimal.specs.Decimal.{decimal, aligned}

pub digits1 : decimal 0 ≡ 48 ∷ []
unfolding decimal
digits1 = refl

pub digits2 : decimal 10 ≡ 49 ∷ 48 ∷ []
unfolding decimal
digits2 = refl

pub digits3 : decimal 205 ≡ 50 ∷ 48 ∷ 53 ∷ []
unfolding decimal
digits3 = refl

pub digits5 : decimal 65535 ≡ 54 ∷ 53 ∷ 53 ∷ 51 ∷ 53 ∷ []
unfolding decimal
digits5 = refl

-- `    0`, `  100` and `65535` in five columns, ` 7` and `48` in two.
pub zero_aligned : aligned 5 0 ≡ 32 ∷ 32 ∷ 32 ∷ 32 ∷ 48 ∷ []
unfolding aligned decimal
zero_aligned = refl

pub hundred_aligned : aligned 5 100 ≡ 32 ∷ 32 ∷ 49 ∷ 48 ∷ 48 ∷ []
unfolding aligned decimal
hundred_aligned = refl

pub most_aligned : aligned 5 65535 ≡ 54 ∷ 53 ∷ 53 ∷ 51 ∷ 53 ∷ []
unfolding aligned decimal
most_aligned = refl

pub seven_aligned : aligned 2 7 ≡ 32 ∷ 55 ∷ []
unfolding aligned decimal
seven_aligned = refl

pub two_digits_aligned : aligned 2 48 ≡ 52 ∷ 56 ∷ []
unfolding aligned decimal
two_digits_aligned = refl

-- Numbers in decimal, as bytes in ASCII.
use Rattle.std.specs.Prelude.{cond, List, [], ◌∷◌, ◌++◌, ℕ, zero, suc, ◌+◌, ◌-◌, ◌/◌, ◌%◌, ltb, length, replicate}

-- The byte of a digit.
abbrev pub digit : ℕ → ℕ
digit d = 48 + d

-- The digits of a number below 10 to the power of k, with no leading zero; of a larger one the last k digits.
abbrev pub digits : ℕ → ℕ → List ℕ
digits zero n = []
digits (suc k) n = cond (ltb n 10) (digit n ∷ []) (digits k (n / 10) ++ (digit (n % 10) ∷ []))

-- A number of at most five digits in decimal, with no leading zero.
unfoldable pub decimal : ℕ → List ℕ
decimal n = digits 5 n

-- So many spaces.
abbrev pub spaces : ℕ → List ℕ
spaces n = replicate n 32

-- A number in so many columns, right-aligned, with spaces before it.
unfoldable pub aligned : ℕ → ℕ → List ℕ
aligned columns n = spaces (columns - length (decimal n)) ++ decimal n

-- The byte that stands in the column of a power of ten: a digit, or a space in place of a leading zero.
unfoldable pub column : ℕ → ℕ → ℕ
column power n = cond (ltb n power) 32 (digit (n / power % 10))

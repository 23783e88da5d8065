-- Laws of numbers in decimal: by how many digits they have, and the columns of one that is right-aligned.
use mathlib.Core.Path.{◌≡◌, ap, ap₂, ◌∙◌}
use mathlib.Core.List.{List, [], ◌∷◌, ◌++◌}
use Prim.Native.Nat.{ℕ, suc, ◌-◌, ◌/◌, ◌%◌, ◌<◌, ◌≤◌}
use native.Mathlib.Omega.{arith}
use native.Mathlib.Decide.{dec_lt}
use borrow.Author.Tests.{lt-ltb, le-ltb}
use lib.ListN.{length}
use Rattle.decimal.specs.Decimal.{digit, digits, decimal, spaces, aligned, column}

-- One digit, more than one, and the last of those that there is place for.
digits_one : (k n : ℕ) → n < 10 → digits (suc k) n ≡ digit (n % 10) ∷ []
digits_one k n h = rw (lt-ltb n 10 h) (ap (λ (d : ℕ). digit d ∷ []) (omega arith))

digits_more : (k n : ℕ) → 10 ≤ n → digits (suc k) n ≡ digits k (n / 10) ++ (digit (n % 10) ∷ [])
digits_more k n h = rw (le-ltb n 10 h)

digits_last : (n : ℕ) → digits 1 n ≡ digit (n % 10) ∷ []
digits_last n = elim (dec_lt n 10) [ yes h ↦ digits_one 0 n h | no h ↦ digits_more 0 n (omega (arith, h)) ]

-- The digits but for the last are those of a tenth.
tenth : (k n : ℕ) (l : List ℕ) → 10 ≤ n → digits k (n / 10) ≡ l → digits (suc k) n ≡ l ++ (digit (n % 10) ∷ [])
tenth k n l h e = digits_more k n h ∙ ap (λ (m : List ℕ). m ++ (digit (n % 10) ∷ [])) e

-- A number by how many digits it has. Each digit is that of a tenth of a tenth.
module _ (n : ℕ) where
  pub decimal1 : n < 10 → decimal n ≡ digit (n % 10) ∷ []
  unfolding decimal
  decimal1 h = digits_one 4 n h

  pub decimal2 : 10 ≤ n → n < 100 → decimal n ≡ digit (n / 10 % 10) ∷ digit (n % 10) ∷ []
  unfolding decimal
  decimal2 g h = tenth 4 n _ g (digits_one 3 (n / 10) (omega arith))

  pub decimal3 : 100 ≤ n → n < 1000 → decimal n ≡ digit (n / 100 % 10) ∷ digit (n / 10 % 10) ∷ digit (n % 10) ∷ []
  unfolding decimal
  decimal3 g h =
      tenth 4 n _ (omega arith) (tenth 3 (n / 10) _ (omega arith) (digits_one 2 (n / 10 / 10) (omega arith)))
      ∙ ap (λ (d : ℕ). digit (d % 10) ∷ digit (n / 10 % 10) ∷ digit (n % 10) ∷ []) (omega arith)

  decimal4 : 1000 ≤ n → n < 10000 → decimal n ≡ digit (n / 1000 % 10) ∷ digit (n / 100 % 10) ∷ digit (n / 10 % 10) ∷ digit (n % 10) ∷ []
  unfolding decimal
  decimal4 g h =
      tenth 4 n _ (omega arith) (tenth 3 (n / 10) _ (omega arith) (tenth 2 (n / 10 / 10) _ (omega arith) (digits_one 1 (n / 10 / 10 / 10) (omega arith))))
      ∙ ap₂ (λ (c d : ℕ). digit (c % 10) ∷ digit (d % 10) ∷ digit (n / 10 % 10) ∷ digit (n % 10) ∷ []) (omega arith) (omega arith)

  decimal5 : 10000 ≤ n
      → decimal n ≡ digit (n / 10000 % 10) ∷ digit (n / 1000 % 10) ∷ digit (n / 100 % 10) ∷ digit (n / 10 % 10) ∷ digit (n % 10) ∷ []
  unfolding decimal
  decimal5 g =
      tenth 4 n _ (omega arith) (tenth 3 (n / 10) _ (omega arith) (tenth 2 (n / 10 / 10) _ (omega arith) (tenth 1 (n / 10 / 10 / 10) _ (omega arith) (digits_last (n / 10 / 10 / 10 / 10)))))
      ∙ ap (λ (c : ℕ). digit (c % 10) ∷ digit (n / 10 / 10 / 10 % 10) ∷ digit (n / 10 / 10 % 10) ∷ digit (n / 10 % 10) ∷ digit (n % 10) ∷ []) (omega arith)
      ∙ ap₂ (λ (c d : ℕ). digit (n / 10000 % 10) ∷ digit (c % 10) ∷ digit (d % 10) ∷ digit (n / 10 % 10) ∷ digit (n % 10) ∷ []) (omega arith) (omega arith)

  -- The byte of a column.
  pub column_space : (power : ℕ) → n < power → column power n ≡ 32
  unfolding column
  column_space power h = rw (lt-ltb n power h)

  pub column_digit : (power : ℕ) → power ≤ n → column power n ≡ digit (n / power % 10)
  unfolding column
  column_digit power h = rw (le-ltb n power h)

  aligned_as : (w : ℕ) (l : List ℕ) → decimal n ≡ l → aligned w n ≡ spaces (w - length l) ++ l
  unfolding aligned
  aligned_as w l e = ap (λ (m : List ℕ). spaces (w - length m) ++ m) e

  -- The columns of a number that is right-aligned, in five columns and, with at most two digits, in two.
  pub columns5 : aligned 5 n ≡ column 10000 n ∷ column 1000 n ∷ column 100 n ∷ column 10 n ∷ digit (n % 10) ∷ []
  columns5 =
      elim (dec_lt n 10) [
        | yes h ↦ rw (column_space 10000 (omega arith), column_space 1000 (omega arith), column_space 100 (omega arith), column_space 10 h) (aligned_as 5 _ (decimal1 h))
        | no a ↦ elim (dec_lt n 100) [
          | yes h ↦ rw (column_space 10000 (omega arith), column_space 1000 (omega arith), column_space 100 h, column_digit 10 (omega (arith, a)))
              (aligned_as 5 _ (decimal2 (omega (arith, a)) h))
          | no b ↦ elim (dec_lt n 1000) [
            | yes h ↦ rw (column_space 10000 (omega arith), column_space 1000 h, column_digit 100 (omega (arith, b)), column_digit 10 (omega (arith, b)))
                (aligned_as 5 _ (decimal3 (omega (arith, b)) h))
            | no c ↦ elim (dec_lt n 10000) [
              | yes h ↦ rw (column_space 10000 h, column_digit 1000 (omega (arith, c)), column_digit 100 (omega (arith, c)), column_digit 10 (omega (arith, c)))
                  (aligned_as 5 _ (decimal4 (omega (arith, c)) h))
              | no d ↦ rw (column_digit 10000 (omega (arith, d)), column_digit 1000 (omega (arith, d)), column_digit 100 (omega (arith, d)), column_digit 10 (omega (arith, d)))
                  (aligned_as 5 _ (decimal5 (omega (arith, d))))
            ]
          ]
        ]
      ]

  pub columns2 : n < 100 → aligned 2 n ≡ column 10 n ∷ digit (n % 10) ∷ []
  columns2 g =
      elim (dec_lt n 10) [
        | yes h ↦ rw (column_space 10 h) (aligned_as 2 _ (decimal1 h))
        | no a ↦ rw (column_digit 10 (omega (arith, a))) (aligned_as 2 _ (decimal2 (omega (arith, a)) g))
      ]

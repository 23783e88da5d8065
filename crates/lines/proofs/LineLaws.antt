-- Laws of lines: the digits of a number below 1000, by how many it has; numbers, each with a space before it; a line by its parts.
use mathlib.Core.Path.{◌≡◌, refl, sym, ap, ap₂, ◌∙◌}
use mathlib.Core.List.{List, [], ◌∷◌, ◌++◌, map, append_assoc, append-nil}
use Prim.Native.Nat.{ℕ, zero, suc, ◌/◌, ◌%◌, ◌<◌, ◌≤◌, ◌+◌}
use native.Mathlib.Numerals.{add-one}
use native.Mathlib.Omega.{arith}
use native.Mathlib.Decide.{dec_lt}
use lib.ListN.{length, get_or, take}
use lib.Seq.{take-suc}
use Rattle.std.specs.Prelude.{Some, None}
use Rattle.decimal.specs.Decimal.{digit, decimal}
use Rattle.decimal.proofs.DecimalLaws.{decimal1, decimal2, decimal3}
use Rattle.lines.specs.Lines.{allowed, broken, spaced, line_by, line_of}

module _ (n : ℕ) where
  pub one_digit : (d : ℕ) → n < 10 → d ≡ digit n → decimal n ≡ d ∷ []
  one_digit d h p = decimal1 n h ∙ ap (λ (x : ℕ). x ∷ []) (omega (arith, p))

  pub two_digits : (d e : ℕ) → 10 ≤ n → n < 100 → d ≡ digit (n / 10) → e ≡ digit (n % 10) → decimal n ≡ d ∷ e ∷ []
  two_digits d e g h p q = decimal2 n g h ∙ ap₂ (λ (x y : ℕ). x ∷ y ∷ []) (omega (arith, p)) (sym q)

  pub three_digits : (d e f : ℕ) → 100 ≤ n → n < 1000 → d ≡ digit (n / 100) → e ≡ digit (n / 10 % 10) → f ≡ digit (n % 10)
      → decimal n ≡ d ∷ e ∷ f ∷ []
  three_digits d e f g h p q r =
      decimal3 n g h ∙ ap (λ (x : ℕ). x ∷ digit (n / 10 % 10) ∷ digit (n % 10) ∷ []) (omega (arith, p))
      ∙ ap₂ (λ (x y : ℕ). d ∷ x ∷ y ∷ []) (sym q) (sym r)

  pub decimal_short : n < 1000 → length (decimal n) ≤ 3
  decimal_short h =
      elim (dec_lt n 10) [
        | yes a ↦ omega (arith, ap length (decimal1 n a))
        | no a ↦ elim (dec_lt n 100) [
          | yes b ↦ omega (arith, ap length (decimal2 n (omega (arith, a)) b))
          | no b ↦ omega (arith, ap length (decimal3 n (omega (arith, b)) h))
        ]
      ]

spaced_last : (l : List ℕ) (n : ℕ) → spaced (map decimal (l ++ (n ∷ []))) ≡ spaced (map decimal l) ++ (32 ∷ decimal n)
spaced_last [] n = append-nil (32 ∷ decimal n)
spaced_last (m ∷ l) n =
    ap (λ (k : List ℕ). (32 ∷ decimal m) ++ k) (spaced_last l n)
    ∙ sym (append_assoc (32 ∷ decimal m) (spaced (map decimal l)) (32 ∷ decimal n))

pub spaced_more : (at : List ℕ) (k : ℕ) → k < length at
    → spaced (map decimal (take (k + 1) at)) ≡ spaced (map decimal (take k at)) ++ (32 ∷ decimal (get_or at k 0))
spaced_more at k h =
    ap (λ (n : ℕ). spaced (map decimal (take n at))) (add-one k) ∙ ap (λ (l : List ℕ). spaced (map decimal l)) (take-suc at k 0 h)
    ∙ spaced_last (take k at) (get_or at k 0)

-- A line, part by part.
pub allowed_parts : (word events : List ℕ) → line_by word None events ≡ word ++ ((32 ∷ allowed) ++ (spaced (map decimal events) ++ (10 ∷ [])))
unfolding line_by
allowed_parts word events = simp (append_assoc)

pub broken_parts : (word : List ℕ) (k : ℕ) (events : List ℕ)
    → line_by word (Some k) events ≡ word ++ ((32 ∷ broken) ++ ((32 ∷ decimal k) ++ (spaced (map decimal events) ++ (10 ∷ []))))
unfolding line_by
broken_parts word k events = simp (append_assoc)

-- The line of a broken rule by its number.
pub line_by_number : (word : List ℕ) (k : ℕ) (events : List ℕ) → (k ≡ 0 → ⊥) → line_by word (Some k) events ≡ line_of word k events
unfolding line_of
line_by_number word zero events d = absurd (d refl)
line_by_number word (suc k) events d = refl

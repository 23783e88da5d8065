-- What a call that fills an output answers, and what it leaves of the output (01, "Causes of refusal": 12 is an output that is too short;
-- "The translation answers its length and fills that much of the output's start; later bytes keep their contents"; 02: "as with the
-- translation, every call that fills an output answers its length and leaves later bytes").
use Rattle.std.specs.Prelude.{◌≡◌, true, false, List, ◌++◌, ℕ, zero, suc, ◌+◌, ltb, length, take, drop, Result, IfOk}
use Rattle.refusal.specs.declared.Refusal.{Refusal}
use Rattle.refusal.specs.Refusal.{number_of}

-- An output with bytes in place of what stood from a place on.
unfoldable pub placed : List ℕ → ℕ → List ℕ → List ℕ
placed out at bytes = take at out ++ (bytes ++ drop (at + length bytes) out)

-- The number of the refusal of a call that fills an output of so many bytes, and 0 where none applies. k is the number of the first other
-- cause that applies, and 0 where none does; 12, an output shorter than the bytes, is the last cause.
unfoldable pub output_cause : ℕ → List ℕ → ℕ → ℕ
output_cause zero bytes room = elim (ltb room (length bytes)) [ true ↦ 12 | false ↦ 0 ]
output_cause (suc k) bytes room = suc k

-- The output afterwards: where no cause applies the bytes fill its start and later bytes stay; else all bytes stay.
unfoldable pub left_of : ℕ → List ℕ → List ℕ → List ℕ
left_of k bytes out = elim (output_cause k bytes (length out)) [ zero ↦ bytes ++ drop (length bytes) out | suc n ↦ out ]

-- A call that fills the output `out` with the bytes, where k is the number of the first other cause, answers r and leaves `left`: r is the
-- refusal with the number, and the length written where none applies.
pub record Fills (k : ℕ) (bytes out : List ℕ) (r : Result ℕ Refusal) (left : List ℕ) : Type 0 where
  pub refused : number_of r ≡ output_cause k bytes (length out)
  pub written : IfOk r (λ n. n ≡ length bytes)
  pub output : left ≡ left_of k bytes out

-- The line of a step of a ring, as the program why prints it: the model's word, the two events, the clause's name.
use Rattle.std.specs.Prelude.{◌≡◌, List, [], ◌∷◌, ◌++◌, map, ℕ, zero, suc, get_or}
use Rattle.std.specs.Borrow.{Bor}
use Prim.Native.Char.{code}
use Prim.Native.String.{String, len, char_at}
use Rattle.decimal.specs.Decimal.{decimal}
use Rattle.models.specs.Clause.{Clause, name}
use Rattle.clause.specs.Steps.{joined}
use Rattle.lines.specs.Lines.{parted}

-- n bytes of a text in ASCII, from its byte i on.
unfoldable pub bytes_from : String → ℕ → ℕ → List ℕ
bytes_from s i zero = []
bytes_from s i (suc n) = code (char_at s i) ∷ bytes_from s (suc i) n

abbrev pub ascii : String → List ℕ
ascii s = bytes_from s 0 (len s)

-- The name of the clause of a number, from 1 on; no byte for a number that no clause has.
unfoldable pub name_of : List Clause → ℕ → List ℕ
name_of [] n = []
name_of (c ∷ cs) zero = []
name_of (c ∷ cs) (suc zero) = ascii (name c)
name_of (c ∷ cs) (suc (suc n)) = name_of cs (suc n)

-- "the model's word, the two events, the clause's name, parted by single spaces": a step is two events and the number of its clause.
unfoldable pub step_line : List ℕ → List Clause → List ℕ → List ℕ
step_line word cs step = parted (word ∷ decimal (get_or step 0 0) ∷ decimal (get_or step 1 0) ∷ name_of cs (get_or step 2 0) ∷ []) ++ (10 ∷ [])

-- The lines of steps.
abbrev pub step_lines : List ℕ → List Clause → List (List ℕ) → List ℕ
step_lines word cs steps = joined (map (step_line word cs) steps)

-- The texts are the names of the clauses.
abbrev pub Names : List Clause → List (Bor (List ℕ)) → Type 0
Names cs texts = map (λ s. s.now) texts ≡ map (λ c. ascii (name c)) cs

-- A set as a row of eight bytes, and a relation as a grid of 64 rows (01, "Shape of the build").
-- Event j, below 64, is bit j % 8 of byte j / 8; what lies outside a row or a grid is in no set.
use mathlib.Core.List.{List, [], zip_with}
use Rattle.std.specs.Prelude.{Bool, ◌&&◌, ℕ, ◌/◌, ◌%◌, ◌^◌, eqb, ltb, get_or}
use Rattle.std.specs.Int.Bits.{bit_or}
use Rattle.relation.specs.Rel.{Set, Rel}

-- Bit k of the number x.
unfoldable pub on : ℕ → ℕ → Bool
on x k = eqb (x / 2 ^ k % 2) 1

-- The set that a row holds.
unfoldable pub bit : List ℕ → Set
bit row j = ltb j 64 && on (get_or row (j / 8) 0) (j % 8)

-- The relation that a grid holds: j is in row i.
unfoldable pub edge : List (List ℕ) → Rel
edge g i = bit (get_or g i [])

-- Two rows or-ed byte by byte (02, slip 4).
unfoldable pub byte_or : List ℕ → List ℕ → List ℕ
byte_or a b = zip_with bit_or a b

-- The lines that the judge prints (01, "What is shown"; 02, slip 6), as bytes in ASCII.
use Rattle.std.specs.Prelude.{List, [], ◌∷◌, ◌++◌, map, ℕ, zero, suc, Option, Some, None}
use Rattle.decimal.specs.Decimal.{decimal}
use Rattle.lines.specs.declared.Model.{Model}
use Rattle.lines.specs.declared.Model.TheVariants.{Source, Chip, Tso}

-- The words.
abbrev pub source : List ℕ
source = 115 ∷ 111 ∷ 117 ∷ 114 ∷ 99 ∷ 101 ∷ []

abbrev pub chip : List ℕ
chip = 99 ∷ 104 ∷ 105 ∷ 112 ∷ []

abbrev pub tso : List ℕ
tso = 116 ∷ 115 ∷ 111 ∷ []

abbrev pub allowed : List ℕ
allowed = 97 ∷ 108 ∷ 108 ∷ 111 ∷ 119 ∷ 101 ∷ 100 ∷ []

abbrev pub broken : List ℕ
broken = 98 ∷ 114 ∷ 111 ∷ 107 ∷ 101 ∷ 110 ∷ []

abbrev pub refused : List ℕ
refused = 114 ∷ 101 ∷ 102 ∷ 117 ∷ 115 ∷ 101 ∷ 100 ∷ []

-- The model's word.
abbrev pub model_word : Model → List ℕ
model_word Source = source
model_word Chip = chip
model_word Tso = tso

-- Each with a space before it.
abbrev pub spaced : List (List ℕ) → List ℕ
spaced [] = []
spaced (w ∷ l) = (32 ∷ w) ++ spaced l

-- "parted by single spaces"
abbrev pub parted : List (List ℕ) → List ℕ
parted [] = []
parted (w ∷ l) = w ++ spaced l

-- "ended by a line feed (byte 10)"
abbrev pub ended : List (List ℕ) → List ℕ
ended fields = parted fields ++ (10 ∷ [])

-- "the model, `allowed` or `broken` and the rule, then the events, in decimal", by the broken rule where one is.
unfoldable pub line_by : List ℕ → Option ℕ → List ℕ → List ℕ
line_by word None events = ended (word ∷ allowed ∷ map decimal events)
line_by word (Some k) events = ended (word ∷ broken ∷ map decimal (k ∷ events))

-- The line of a verdict by its number, which is 0 where no rule is broken.
unfoldable pub line_of : List ℕ → ℕ → List ℕ → List ℕ
line_of word zero events = line_by word None events
line_of word (suc k) events = line_by word (Some (suc k)) events

-- "A refusal prints `refused` and its number the same way."
unfoldable pub refusal_line : ℕ → List ℕ
refusal_line k = ended (refused ∷ decimal k ∷ [])

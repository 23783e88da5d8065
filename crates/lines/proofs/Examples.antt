-- Lines written out: of 01's worked example, of a broken rule, of a refusal, with nothing to show.
use mathlib.Core.Path.{◌≡◌, refl}
use mathlib.Core.List.{[], ◌∷◌}
use Rattle.decimal.specs.Decimal.{decimal}
use Rattle.lines.specs.Lines.{source, chip, tso, line_by, line_of, refusal_line}

-- `source allowed 1 2 56`
pub source_line : line_of source 0 (1 ∷ 2 ∷ 56 ∷ [])
    ≡ 115 ∷ 111 ∷ 117 ∷ 114 ∷ 99 ∷ 101 ∷ 32 ∷ 97 ∷ 108 ∷ 108 ∷ 111 ∷ 119 ∷ 101 ∷ 100 ∷ 32 ∷ 49 ∷ 32 ∷ 50 ∷ 32 ∷ 53 ∷ 54 ∷ 10 ∷ []
unfolding decimal line_by line_of
source_line = refl

-- `chip allowed 1 2 56`
pub chip_line : line_of chip 0 (1 ∷ 2 ∷ 56 ∷ [])
    ≡ 99 ∷ 104 ∷ 105 ∷ 112 ∷ 32 ∷ 97 ∷ 108 ∷ 108 ∷ 111 ∷ 119 ∷ 101 ∷ 100 ∷ 32 ∷ 49 ∷ 32 ∷ 50 ∷ 32 ∷ 53 ∷ 54 ∷ 10 ∷ []
unfolding decimal line_by line_of
chip_line = refl

-- `chip broken 4 3 4`
pub broken_line : line_of chip 4 (3 ∷ 4 ∷ [])
    ≡ 99 ∷ 104 ∷ 105 ∷ 112 ∷ 32 ∷ 98 ∷ 114 ∷ 111 ∷ 107 ∷ 101 ∷ 110 ∷ 32 ∷ 52 ∷ 32 ∷ 51 ∷ 32 ∷ 52 ∷ 10 ∷ []
unfolding decimal line_by line_of
broken_line = refl

-- `tso broken 5 1 2 3 4`
pub tso_line : line_of tso 5 (1 ∷ 2 ∷ 3 ∷ 4 ∷ [])
    ≡ 116 ∷ 115 ∷ 111 ∷ 32 ∷ 98 ∷ 114 ∷ 111 ∷ 107 ∷ 101 ∷ 110 ∷ 32 ∷ 53 ∷ 32 ∷ 49 ∷ 32 ∷ 50 ∷ 32 ∷ 51 ∷ 32 ∷ 52 ∷ 10 ∷ []
unfolding decimal line_by line_of
tso_line = refl

-- `refused 11`
pub refused_line : refusal_line 11 ≡ 114 ∷ 101 ∷ 102 ∷ 117 ∷ 115 ∷ 101 ∷ 100 ∷ 32 ∷ 49 ∷ 49 ∷ 10 ∷ []
unfolding decimal refusal_line
refused_line = refl

-- `source allowed`
pub nothing_shown : line_of source 0 [] ≡ 115 ∷ 111 ∷ 117 ∷ 114 ∷ 99 ∷ 101 ∷ 32 ∷ 97 ∷ 108 ∷ 108 ∷ 111 ∷ 119 ∷ 101 ∷ 100 ∷ 10 ∷ []
unfolding decimal line_by line_of
nothing_shown = refl

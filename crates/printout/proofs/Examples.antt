-- Blocks and pages written out: of a write, of a starred read, of a fence, and of threads of unequal length.
use mathlib.Core.Path.{◌≡◌, refl}
use mathlib.Core.Bool.{false}
use mathlib.Core.List.{List, [], ◌∷◌, ◌++◌}
use Prim.Native.Nat.{ℕ}
use lib.ListN.{get_or}
use Rattle.models.specs.Recording.{Recording}
use Rattle.layout.specs.Chains.{among}
use Rattle.decimal.specs.Decimal.{decimal, spaces, aligned}
use Rattle.printout.specs.Page.{letter, star, place, block, block_at, blocks, line, lines, longest, page_of}

-- Event 1 is a strong release write of 100 to location 0, event 2 an acquire read of 65535 from location 7, event 3 an SC fence.
abbrev sample : Recording ℕ
sample =
    record {
      class = λ e. get_or (0 ∷ 2 ∷ 1 ∷ 3 ∷ []) e 0;
      mode = λ e. get_or (0 ∷ 2 ∷ 1 ∷ 4 ∷ []) e 0;
      flag = λ e. get_or (0 ∷ 1 ∷ 0 ∷ 0 ∷ []) e 0;
      location = λ e. get_or (0 ∷ 0 ∷ 7 ∷ 0 ∷ []) e 0;
      value = λ e. get_or (0 ∷ 100 ∷ 65535 ∷ 0 ∷ []) e 0;
      initial = λ e. false;
      recorded = λ e. false;
      next = λ a b. false;
      link = λ t a b. false;
    }

-- ` 1 W21 0   100      `
abbrev write : List ℕ
write = 32 ∷ 49 ∷ 32 ∷ 87 ∷ 50 ∷ 49 ∷ 32 ∷ 48 ∷ 32 ∷ 32 ∷ 32 ∷ 49 ∷ 48 ∷ 48 ∷ 32 ∷ 32 ∷ 32 ∷ 32 ∷ 32 ∷ 32 ∷ []

pub write_block : block sample (2 ∷ 56 ∷ []) 1 ≡ write
unfolding block letter place star among aligned decimal
write_block = refl

-- ` 2 R10 7 65535 *    `
abbrev read : List ℕ
read = 32 ∷ 50 ∷ 32 ∷ 82 ∷ 49 ∷ 48 ∷ 32 ∷ 55 ∷ 32 ∷ 54 ∷ 53 ∷ 53 ∷ 51 ∷ 53 ∷ 32 ∷ 42 ∷ 32 ∷ 32 ∷ 32 ∷ 32 ∷ []

pub read_block : block sample (2 ∷ 56 ∷ []) 2 ≡ read
unfolding block letter place star among aligned decimal
read_block = refl

-- ` 3 F40              `
abbrev fence : List ℕ
fence = 32 ∷ 51 ∷ 32 ∷ 70 ∷ 52 ∷ 48 ∷ 32 ∷ 32 ∷ 32 ∷ 32 ∷ 32 ∷ 32 ∷ 32 ∷ 32 ∷ 32 ∷ 32 ∷ 32 ∷ 32 ∷ 32 ∷ 32 ∷ []

pub fence_block : block sample (2 ∷ 56 ∷ []) 3 ≡ fence
unfolding block letter place star among aligned decimal
fence_block = refl

-- Threads 1 and 3 have events: the fence stands below the write, and beside it blocks are blank.
pub two_lines : page_of sample ((1 ∷ 3 ∷ []) ∷ [] ∷ (2 ∷ []) ∷ [] ∷ []) (2 ∷ 56 ∷ [])
    ≡ (write ++ (spaces 20 ++ (read ++ (spaces 20 ++ (10 ∷ []))))) ++ (fence ++ (spaces 60 ++ (10 ∷ [])))
unfolding page_of lines line blocks block_at longest block letter place star among aligned decimal
two_lines = refl

-- A recording without events has an empty page.
pub no_lines : (ring : List ℕ) → page_of sample ([] ∷ [] ∷ [] ∷ [] ∷ []) ring ≡ []
unfolding page_of lines longest
no_lines ring = refl

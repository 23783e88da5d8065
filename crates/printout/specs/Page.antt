-- The printed page of a recording and a ring (02, slip 2), as bytes in ASCII.
use Rattle.std.specs.Prelude.{true, false, List, [], ◌∷◌, ◌++◌, ℕ, zero, suc, ◌+◌, ◌*◌, max, eqb, ltb, length, get_or}
use Rattle.models.specs.Recording.{Recording}
use Rattle.layout.specs.Layout.{threads}
use Rattle.layout.specs.Chains.{among, thread}
use Rattle.layout.specs.Decode.{decode}
use Rattle.decimal.specs.Decimal.{digit, spaces, aligned}

-- "four blocks of 20, one block per thread"
abbrev pub block_width : ℕ
block_width = 20

-- The bytes of a line of so many blocks: "Each line ends in a line feed (byte 10)".
abbrev pub line_size : ℕ → ℕ
line_size blocks = block_width * blocks + 1

-- The letter of a class: "R, W or F", the bytes 82, 87 and 70. No event of a recording that loads has another class.
unfoldable pub letter : ℕ → ℕ
letter class = get_or (32 ∷ 82 ∷ 87 ∷ 70 ∷ []) class 32

-- "an event of the ring has a star in column 16": the byte 42; another has a space, 32.
unfoldable pub star : List ℕ → ℕ → ℕ
star ring e = elim (among e ring) [ true ↦ 42 | false ↦ 32 ]

-- The blocks and lines of the recording r, with the events of the ring starred.
module _ (r : Recording ℕ) where
  -- "the location digit, a space, and the value in five columns with leading spaces"; "A fence leaves location and value as spaces."
  unfoldable pub place : ℕ → List ℕ
  place e = elim (eqb (r.class e) 3) [ true ↦ spaces 7 | false ↦ digit (r.location e) ∷ 32 ∷ aligned 5 (r.value e) ]

  module _ (ring : List ℕ) where
    -- The block of event e: its number in columns 1 and 2, its class, mode and flag in 4 to 6, its location in 8, its value in 10 to 14,
    -- its star in 16.
    unfoldable pub block : ℕ → List ℕ
    block e =
        aligned 2 e
        ++ (32 ∷ letter (r.class e) ∷ digit (r.mode e) ∷ digit (r.flag e) ∷ 32
        ∷ (place e
        ++ (32 ∷ star ring e ∷ spaces 4)))

    -- The block of a thread in line k, from 0: "one line per event in chain order"; "An absent event leaves its block blank".
    unfoldable pub block_at : ℕ → List ℕ → List ℕ
    block_at k thread = elim (ltb k (length thread)) [ true ↦ block (get_or thread k 0) | false ↦ spaces block_width ]

    unfoldable pub blocks : ℕ → List (List ℕ) → List ℕ
    blocks k [] = []
    blocks k (thread ∷ more) = block_at k thread ++ blocks k more

    -- Line k, and the first n lines.
    unfoldable pub line : ℕ → List (List ℕ) → List ℕ
    line k threads = blocks k threads ++ (10 ∷ [])

    unfoldable pub lines : ℕ → List (List ℕ) → List ℕ
    lines zero threads = []
    lines (suc n) threads = lines n threads ++ line n threads

-- The length of the longest list.
unfoldable pub longest : List (List ℕ) → ℕ
longest [] = 0
longest (l ∷ more) = max (length l) (longest more)

-- "The bytes of a page follow from the recording and the ring, a lent list of event numbers, alone": from what the events say, the threads
-- that they stand on, and the ring. "the page is as long as its longest thread"
unfoldable pub page_of : Recording ℕ → List (List ℕ) → List ℕ → List ℕ
page_of r threads ring = lines r ring (longest threads) threads

-- The first n threads of a file, each as a list.
unfoldable pub thread_lists : List ℕ → ℕ → List (List ℕ)
thread_lists f zero = []
thread_lists f (suc n) = thread_lists f n ++ (thread f n ∷ [])

-- The page of the recording that a file holds.
abbrev pub page : List ℕ → List ℕ → List ℕ
page f ring = page_of (decode f) (thread_lists f threads) ring

-- The input of a program, which reads no more of it than decides what it gets (01, "The program judge reads one recording from standard input").
use Rattle.std.specs.Prelude.{◌≡◌, List, ℕ, length, take}

-- The longest file that loads has so many bytes: kind 2, 48 events and 255 links.
abbrev pub longest : ℕ
longest = 1412

-- The first n bytes of the array `start` are what was read of the input: all of it, or as much as the array holds.
abbrev pub ReadOf : List ℕ → List ℕ → ℕ → Type 0
ReadOf input start n = take n start ≡ take (length start) input

-- What the functions that write a page hold of a file and of a ring.
use Rattle.std.specs.Prelude.{◌≡◌, List, ℕ, ◌+◌, ◌≤◌, ◌<◌, length, get_or, take}
use Rattle.relation.specs.Bits.{bit}
use Rattle.layout.specs.Layout.{threads}
use Rattle.layout.specs.Chains.{among, threads_up_to}
use Rattle.reading.specs.Sets.{Line}

-- The row has the members of the ring that it has a bit for.
pub record Members (ring row : List ℕ) : Type 0 where
  pub each : (e : ℕ) → e < 64 → bit row e ≡ among e ring

-- The events of thread t begin at place `starts t` of the line of all threads, and those of the next thread at `starts (t + 1)`.
pub record Starts (f starts : List ℕ) (n : ℕ) : Type 0 where
  pub long : length starts ≡ threads + 1
  pub start : (t : ℕ) → t ≤ n → get_or starts t 0 ≡ length (threads_up_to f t)

-- The first `len` numbers in `at` are the line of all threads, and `starts` says where each begins.
pub record Table (f at starts : List ℕ) : Type 0 where
  pub len : ℕ
  pub line : Line f threads (take len at)
  pub begins : Starts f starts threads

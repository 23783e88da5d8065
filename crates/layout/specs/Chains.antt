-- Chains: events on thread chains and links on event chains (01, "The recording"; causes 6 and 7).
use Rattle.std.specs.Prelude.{◌≡◌, Bool, true, false, ◌&&◌, ◌||◌, not, List, [], ◌∷◌, ◌++◌, ℕ, zero, suc, ◌+◌, ◌-◌, ◌*◌, ◌<◌, ◌≤◌, eqb, leb, length, get_or}
use Rattle.layout.specs.Layout.{byte, events, links, header_size, event_size, link_size, link_start, threads}

-- Whether x stands in the list.
unfoldable pub among : ℕ → List ℕ → Bool
among x [] = false
among x (y ∷ ys) = eqb x y || among x ys

-- The numbers met on the chain from x: x and what follows it, until 0, or past a number over the limit.
-- After limit + 1 numbers one is over the limit or met twice, so no more are followed.
unfoldable pub follow : ℕ → (ℕ → ℕ) → ℕ → ℕ → List ℕ
follow limit next zero x = []
follow limit next (suc n) x =
    elim (eqb x 0) [ true ↦ [] | false ↦ x ∷ elim (leb x limit) [ true ↦ follow limit next n (next x) | false ↦ [] ] ]

abbrev pub chain : ℕ → (ℕ → ℕ) → ℕ → List ℕ
chain limit next x = follow limit next (suc limit) x

-- The numbers met on the chains from n starts, one after the other.
unfoldable pub met : ℕ → (ℕ → ℕ) → (ℕ → ℕ) → ℕ → List ℕ
met limit next start zero = []
met limit next start (suc n) = met limit next start n ++ chain limit next (start n)

-- Each number is at most the limit, and none was met before.
unfoldable pub fresh : ℕ → List ℕ → List ℕ → Bool
fresh limit seen [] = true
fresh limit seen (x ∷ xs) = (leb x limit && not (among x seen)) && fresh limit (x ∷ seen) xs

-- The test holds of every number from 1 to n.
unfoldable pub each : ℕ → (ℕ → Bool) → Bool
each zero p = true
each (suc n) p = each n p && p (suc n)

-- The test holds of every member of the list.
unfoldable pub all_of : List ℕ → (ℕ → Bool) → Bool
all_of [] p = true
all_of (x ∷ xs) p = p x && all_of xs p

-- Every number from 1 to n is met.
abbrev pub all_met : ℕ → List ℕ → Bool
all_met n l = each n (λ x. among x l)

-- No index over the limit, nothing met twice or never.
unfoldable pub once_each : ℕ → List ℕ → Bool
once_each limit l = fresh limit [] l && all_met limit l

-- Record x of those that begin at place `from` and are `size` bytes long; its first byte is the number that follows on its chain.
unfoldable pub next_of : List ℕ → ℕ → ℕ → ℕ → ℕ
next_of f from size x = byte f (from + size * (x - 1))

-- The start of chain j (from 0) of those whose starts stand at place `from` and each `size` bytes on.
unfoldable pub start_of : List ℕ → ℕ → ℕ → ℕ → ℕ
start_of f from size j = byte f (from + size * j)

-- The next event of the thread, and the head of thread t.
abbrev pub next_event : List ℕ → ℕ → ℕ
next_event f = next_of f header_size event_size

abbrev pub head : List ℕ → ℕ → ℕ
head f = start_of f 4 1

-- The next link into the same event, and the first link into event j + 1.
abbrev pub next_link : List ℕ → ℕ → ℕ
next_link f = next_of f (link_start f) link_size

abbrev pub first_link : List ℕ → ℕ → ℕ
first_link f = start_of f 15 event_size

-- The events of thread t in their order, and those of the first n threads, one thread behind the other.
abbrev pub thread : List ℕ → ℕ → List ℕ
thread f t = chain (events f) (next_event f) (head f t)

abbrev pub threads_up_to : List ℕ → ℕ → List ℕ
threads_up_to f n = met (events f) (next_event f) (head f) n

-- Cause 6's and cause 7's opposites.
abbrev pub threads_sound : List ℕ → Bool
threads_sound f = once_each (events f) (threads_up_to f threads)

abbrev pub links_sound : List ℕ → Bool
links_sound f = once_each (links f) (met (links f) (next_link f) (first_link f) (events f))

-- The links into event b.
abbrev pub links_into : List ℕ → ℕ → List ℕ
links_into f b = chain (links f) (next_link f) (first_link f (b - 1))

-- The rest says what the functions that walk chains ask for and answer.

-- The starts of `count` chains and the first bytes of `limit` records lie within the file.
pub record Linked (f : List ℕ) (first step count from size limit : ℕ) : Type 0 where
  pub starts : (j : ℕ) → j < count → first + step * j < length f
  pub records : (x : ℕ) → 1 ≤ x → x ≤ limit → from + size * (x - 1) < length f
  pub small : limit < 256

-- The marked numbers below 256 are those of the list.
pub record Marked (l : List ℕ) (marks : List Bool) : Type 0 where
  pub long : length marks ≡ 256
  pub each : (x : ℕ) → x < 256 → get_or marks x false ≡ among x l

-- The list with those of a chain put before it, the last met first.
unfoldable pub pushed : List ℕ → List ℕ → List ℕ
pushed [] l = l
pushed (x ∷ xs) l = pushed xs (x ∷ l)

-- After a chain: whether it was sound where those of l had been met before, and if so the marks.
pub record Followed (limit : ℕ) (l chain : List ℕ) (sound : Bool) (marks : List Bool) : Type 0 where
  pub answer : sound ≡ fresh limit l chain
  pub marked : sound ≡ true → Marked (pushed chain l) marks

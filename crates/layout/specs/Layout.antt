-- The layout of a file (01, "The recording"): where each number stands, and what varies by kind.
-- A file is a list of bytes; a byte beyond its end reads as 0.
use Rattle.std.specs.Prelude.{◌≡◌, Bool, true, false, ◌||◌, List, ℕ, ◌+◌, ◌-◌, ◌*◌, ◌≤◌, eqb, length, get_or}

-- The byte at place i.
abbrev pub byte : List ℕ → ℕ → ℕ
byte f i = get_or f i 0

-- The header, 8 bytes: kind, N event records, L locations, M link records, then four heads.
abbrev pub kind : List ℕ → ℕ
kind f = byte f 0

abbrev pub events : List ℕ → ℕ
events f = byte f 1

abbrev pub locations : List ℕ → ℕ
locations f = byte f 2

abbrev pub links : List ℕ → ℕ
links f = byte f 3

-- The kinds: 1 is source, 2 is chip.
unfoldable pub kind_known : ℕ → Bool
kind_known k = eqb k 1 || eqb k 2

-- A recording is of one of two sides by its kind, source or chip. Its limits and its legal records go by the side.
abbrev pub Side : Type 0
Side = Bool

abbrev pub source : Side
source = true

abbrev pub chip : Side
chip = false

unfoldable pub side_of : ℕ → Side
side_of k = eqb k 1

abbrev pub side : List ℕ → Side
side f = side_of (kind f)

-- A number by side: a of source, b of chip.
unfoldable pub by_side : ℕ → ℕ → Side → ℕ
by_side a b s = elim s [ true ↦ a | false ↦ b ]

-- The limits: event records, locations, link records, and events of one thread (02, slip 1: "12 becomes the limit for kind 1 and 18 for kind 2").
abbrev pub most_events : Side → ℕ
most_events = by_side 32 48

abbrev pub most_locations : ℕ
most_locations = 8

abbrev pub most_links : Side → ℕ
most_links = by_side 200 255

abbrev pub most_in_thread : Side → ℕ
most_in_thread = by_side 12 18

abbrev pub header_size : ℕ
header_size = 8

abbrev pub threads : ℕ
threads = 4

abbrev pub event_size : ℕ
event_size = 8

abbrev pub link_size : ℕ
link_size = 4

-- Where the link records begin.
abbrev pub link_start : List ℕ → ℕ
link_start f = header_size + event_size * events f

-- The length that the header calls for.
abbrev pub full_length : List ℕ → ℕ
full_length f = link_start f + link_size * links f

-- Byte k of event record i, numbered from 1: next event of the thread, class, mode, flag, location, value (low byte, high byte),
-- first link into this event.
abbrev pub event_byte : List ℕ → ℕ → ℕ → ℕ
event_byte f i k = byte f (header_size + event_size * (i - 1) + k)

-- Byte k of link record m, numbered from 1: next link into the same event, type, source event, 0.
abbrev pub link_byte : List ℕ → ℕ → ℕ → ℕ
link_byte f m k = byte f (link_start f + link_size * (m - 1) + k)

-- Initial write l, below L, is event 56 + l.
abbrev pub first_initial : ℕ
first_initial = 56

-- What causes 3 and 4 leave of a file: its limits, whatever its side, and its length. Everything below is read within it.
pub record Sized (f : List ℕ) : Type 0 where
  pub long : length f ≡ full_length f
  pub most_events : events f ≤ 48
  pub most_locations : locations f ≤ 8

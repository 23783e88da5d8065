-- What arrays of rows hold of a file: its events by a byte of their records, its accesses by location, its links by type.
use Rattle.std.specs.Prelude.{◌≡◌, true, ◌&&◌, List, [], ℕ, ◌≤◌, ◌<◌, eqb, length, get_or, Option, Some, None, false}
use Rattle.relation.specs.Rel.{Set, intersection, inverse}
use Rattle.relation.specs.Bits.{bit, edge}
use Rattle.models.specs.Recording.{access}
use Rattle.layout.specs.Layout.{event_byte}
use Rattle.layout.specs.Chains.{threads_up_to}
use Rattle.layout.specs.Decode.{is_recorded, decode}

-- The reads and writes of location l.
unfoldable pub access_at : List ℕ → ℕ → Set
access_at f l e = access (decode f) e && eqb ((decode f).location e) l

-- The location of e, where it is a read or write of a location below 8.
abbrev pub PlaceOf : List ℕ → ℕ → Option ℕ → Type 0
PlaceOf f e None = (m : ℕ) → m < 8 → access_at f m e ≡ false
PlaceOf f e (Some l) = (l < 8) × ((m : ℕ) → m < 8 → access_at f m e ≡ eqb l m)

-- The numbers of which byte k of the event record is v.
unfoldable pub holding : List ℕ → ℕ → ℕ → Set
holding f k v e = eqb (event_byte f e k) v

-- Each member has a record.
abbrev pub AllRecorded : List ℕ → Set → Type 0
AllRecorded f s = (e : ℕ) → s e ≡ true → is_recorded f e ≡ true

-- The rows hold the events of s by byte k of their records.
pub record SortedBy (f : List ℕ) (s : Set) (k : ℕ) (rows : List (List ℕ)) : Type 0 where
  pub long : length rows ≡ 8
  pub row : (v : ℕ) → v < 8 → bit (get_or rows v []) ≡ intersection s (holding f k v)

-- Every read and write has a location below 8.
abbrev pub Located : List ℕ → Type 0
Located f = (e : ℕ) → access (decode f) e ≡ true → (decode f).location e < 8

-- The rows hold the reads and writes of each location.
pub record AccessRows (f : List ℕ) (rows : List (List ℕ)) : Type 0 where
  pub long : length rows ≡ 8
  pub row : (l : ℕ) → l < 8 → bit (get_or rows l []) ≡ access_at f l

-- The rows hold the sources of the links into b, by type.
pub record SourcesInto (f : List ℕ) (b : ℕ) (rows : List (List ℕ)) : Type 0 where
  pub long : length rows ≡ 8
  pub row : (t : ℕ) → t < 8 → bit (get_or rows t []) ≡ inverse ((decode f).link t) b

-- The grids hold the links of types 1 to 7, each at its type's place, with a row for each target.
pub record LinkRows (f : List ℕ) (grids : List (List (List ℕ))) : Type 0 where
  pub grid : (t : ℕ) → 1 ≤ t → t < 8 → edge (get_or grids t []) ≡ inverse ((decode f).link t)

-- The list holds the events of the first n threads, each thread in its order, one thread behind the other.
pub record Line (f : List ℕ) (n : ℕ) (line : List ℕ) : Type 0 where
  pub bounded : length line ≤ 64
  pub listed : line ≡ threads_up_to f n

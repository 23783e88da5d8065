-- Relations and sets of events, as Bool-valued functions of event numbers, and the operators on them.
-- An operator that looks for an event between two others takes the list of events to look in.
-- `proofs/Meaning.antt` has the theorems that say what each means: "there is an event between", "one or more steps".
use Rattle.std.specs.Prelude.{List, [], ◌∷◌, Bool, true, false, not, ◌&&◌, ◌||◌, ◌≡◌, ℕ, zero, suc, ◌≤◌, ◌<◌, eqb, ltb, Option, Some, None, filter}
use Rattle.std.specs.List.{range_with_len}

-- A set of events.
abbrev pub Set : Type 0
Set = ℕ → Bool

-- A relation on events.
abbrev pub Rel : Type 0
Rel = ℕ → ℕ → Bool

unfoldable pub empty : Set
empty j = false

unfoldable pub single : ℕ → Set
single k j = eqb k j

-- s if b is true, otherwise empty.
unfoldable pub given : Bool → Set → Set
given b s j = b && s j

unfoldable pub union : Set → Set → Set
union s t j = s j || t j

unfoldable pub intersection : Set → Set → Set
intersection s t j = s j && t j

unfoldable pub difference : Set → Set → Set
difference s t j = s j && not (t j)

unfoldable pub none : Rel
none i = empty

-- The one pair (a, b).
unfoldable pub pair : ℕ → ℕ → Rel
pair a b i j = eqb a i && eqb b j

-- r ∪ s
unfoldable pub either : Rel → Rel → Rel
either r s i = union (r i) (s i)

-- r ∩ s
unfoldable pub both : Rel → Rel → Rel
both r s i = intersection (r i) (s i)

-- r \ s
unfoldable pub minus : Rel → Rel → Rel
minus r s i = difference (r i) (s i)

-- r⁻¹
unfoldable pub inverse : Rel → Rel
inverse r i j = r j i

-- [s], the identity on s
unfoldable pub identity : Set → Rel
identity s i j = s i && eqb i j

-- s × t: from every event of s to every event of t
unfoldable pub product : Set → Set → Rel
product s t i j = s i && t j

-- [s] ; r
unfoldable pub from : Set → Rel → Rel
from s r i j = s i && r i j

-- r ; [s]
unfoldable pub into : Rel → Set → Rel
into r s i = intersection (r i) s

-- Some event of the list is in s.
unfoldable pub some : List ℕ → Set → Bool
some [] s = false
some (e ∷ es) s = s e || some es s

-- What r reaches from s in one step.
unfoldable pub image : List ℕ → Set → Rel → Set
image es s r j = some es (λ i. s i && r i j)

-- r ; s ("r then s")
unfoldable pub compose : List ℕ → Rel → Rel → Rel
compose es r s i = image es (r i) s

-- r, or two steps of r that meet in k.
unfoldable pub through : ℕ → Rel → Rel
through k r i j = r i j || (r i k && r k j)

-- r⁺, one or more steps of r, by Warshall's rounds: one for each event that a path may pass.
unfoldable pub plus : List ℕ → Rel → Rel
plus [] r = r
plus (k ∷ ks) r = through k (plus ks r)

-- r? on the events s
unfoldable pub optional : Set → Rel → Rel
optional s r = either r (identity s)

-- r* on the events s
unfoldable pub star : List ℕ → Set → Rel → Rel
star es s r = optional s (plus es r)

-- The events with an edge to themselves.
unfoldable pub diagonal : Rel → Set
diagonal r i = r i i

-- The numbers below n, the largest first.
unfoldable pub below : ℕ → List ℕ
below zero = []
below (suc n) = n ∷ below n

-- The numbers that a row has a bit for.
abbrev pub nodes : List ℕ
nodes = below 64

-- The smallest number below n in s, and n where there is none.
unfoldable pub least : ℕ → Set → ℕ
least zero s = zero
least (suc n) s = elim (s zero) [ true ↦ zero | false ↦ suc (least n (λ j. s (suc j))) ]

-- The smallest number below 64 in s, where there is one.
unfoldable pub smallest : Set → Option ℕ
smallest s = elim (ltb (least 64 s) 64) [ true ↦ Some (least 64 s) | false ↦ None ]

-- The members below 64, the smallest first.
unfoldable pub members : Set → List ℕ
members s = filter s (range_with_len 0 64)

-- n is the smallest number from i on that is in s, or 64 where none below 64 is.
pub record Next (s : Set) (i n : ℕ) : Type 0 where
  pub low : i ≤ n
  pub high : n ≤ 64
  pub before : (m : ℕ) → i ≤ m → m < n → s m ≡ false
  pub member : n < 64 → s n ≡ true

-- How many numbers below n are in s.
unfoldable pub count : ℕ → Set → ℕ
count zero s = zero
count (suc n) s = elim (s n) [ true ↦ suc (count n s) | false ↦ count n s ]

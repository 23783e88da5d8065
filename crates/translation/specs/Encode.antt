-- The bytes of a recording whose links are a set: each link is written once, "ordered by target, type, source, and chained in that order"
-- (01, "The translation"; the records as in "The recording").
use Rattle.std.specs.Prelude.{true, false, List, [], ◌∷◌, ◌++◌, ℕ, zero, suc, ◌*◌, ◌/◌, ◌%◌, leb, ltb}
use Rattle.relation.specs.Rel.{Set, count}
use Rattle.translation.specs.Contents.{Contents}

-- The records of those numbers below n that are in the set, the smallest first.
unfoldable pub records : (ℕ → List ℕ) → Set → ℕ → List ℕ
records record_of s zero = []
records record_of s (suc n) = records record_of s n ++ elim (s n) [ true ↦ record_of n | false ↦ [] ]

-- The number after n, where it is at most the last, else 0.
unfoldable pub chained : ℕ → ℕ → ℕ
chained last n = elim (ltb n last) [ true ↦ suc n | false ↦ 0 ]

module _ (c : Contents) where
  -- A link as one number, with target, type and source as its digits: 512 times the target, 64 times the type, and the source.
  -- Types are below 8 and event numbers below 64, so the order of these numbers is the order by target, type, source.
  unfoldable pub is_link : Set
  is_link k = c.link (k / 64 % 8) (k % 64) (k / 512)

  -- How many links come before k: links are numbered from 1 in their order.
  abbrev pub links_before : ℕ → ℕ
  links_before k = count k is_link

  -- How many links there are into events 1 to e.
  abbrev pub links_up_to : ℕ → ℕ
  links_up_to e = links_before (512 * suc e)

  -- Header: kind, N, L, M, the heads.
  unfoldable pub header : List ℕ
  header = c.kind ∷ c.events ∷ c.locations ∷ links_up_to c.events ∷ c.head 0 ∷ c.head 1 ∷ c.head 2 ∷ c.head 3 ∷ []

  -- Event record: next event, class, mode, flag, location, value, first link into it.
  unfoldable pub event_record : ℕ → List ℕ
  event_record e =
      c.next e ∷ c.class e ∷ c.mode e ∷ c.flag e ∷ c.location e ∷ c.low e ∷ c.high e ∷ chained (links_up_to e) (links_before (512 * e))
      ∷ []

  -- Link record: next link into the same event, type, source, 0.
  unfoldable pub link_record : ℕ → List ℕ
  link_record k = chained (links_up_to (k / 512)) (suc (links_before k)) ∷ k / 64 % 8 ∷ k % 64 ∷ 0 ∷ []

  unfoldable pub event_records : ℕ → List ℕ
  event_records n = records event_record (leb 1) n

  unfoldable pub link_records : ℕ → List ℕ
  link_records n = records link_record is_link n

  -- The whole file.
  unfoldable pub encode : List ℕ
  encode = header ++ (event_records (suc c.events) ++ link_records (512 * suc c.events))

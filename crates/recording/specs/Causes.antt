-- The causes of refusal 1 to 10 (01, "Causes of refusal, in order") and 13 (02, slip 1: "just after 6, when a thread is longer").
-- Each is one definition, and `refusal` is the first that applies.
use Rattle.std.specs.Prelude.{Bool, true, false, ◌&&◌, ◌||◌, not, List, [], ◌∷◌, ◌++◌, ℕ, eqb, leb, ltb, length, get_or}
use Rattle.relation.specs.Rel.{some, inverse, diagonal, below, nodes}
use Rattle.models.specs.Recording.{Recording, read, write, access, exclusive_read, strong_write}
use Rattle.models.specs.Graph.{base}
use Rattle.models.specs.Rules.{Numbered, first}
use Rattle.layout.specs.Layout.{Side, kind, side, events, locations, links, threads, kind_known, most_events, most_locations, most_links, most_in_thread, header_size, full_length, link_byte}
use Rattle.layout.specs.Chains.{each, all_of, thread, threads_sound, links_sound, links_into}
use Rattle.layout.specs.Decode.{decode}

-- 3. The limits by side.
unfoldable pub header_over : Side → ℕ → ℕ → ℕ → Bool
header_over s n l m = ltb (most_events s) n || (ltb most_locations l || ltb (most_links s) m)

-- 5. The table of classes, modes and flags by side.
unfoldable pub read_legal : ℕ → ℕ → Bool
read_legal mode flag = leb mode 1 && leb flag 1

-- Only a source write may be strong.
unfoldable pub write_legal : Side → ℕ → ℕ → Bool
write_legal s mode flag = (eqb mode 0 || eqb mode 2) && (eqb flag 0 || (eqb flag 1 && s))

-- Source fences have modes 1 to 4, chip fences 5, 6 and 7 (7: 02, slip 3).
unfoldable pub fence_mode : Side → ℕ → Bool
fence_mode s mode = elim s [ true ↦ leb 1 mode && leb mode 4 | false ↦ leb 5 mode && leb mode 7 ]

unfoldable pub fence_legal : Side → ℕ → ℕ → Bool
fence_legal s mode flag = fence_mode s mode && eqb flag 0

-- A read's or write's location is below L; a fence has location and value 0. By class: none but 1, 2 and 3 is legal.
unfoldable pub legal : Side → ℕ → ℕ → ℕ → ℕ → ℕ → ℕ → Bool
legal s L class mode flag location value =
    get_or
    (false
    ∷ (read_legal mode flag && ltb location L)
    ∷ (write_legal s mode flag && ltb location L)
    ∷ (fence_legal s mode flag && (eqb location 0 && eqb value 0))
    ∷ [])
    class false

unfoldable pub event_legal : List ℕ → ℕ → Bool
event_legal f e =
    let r : Recording ℕ = decode f in
    legal (side f) (locations f) (r.class e) (r.mode e) (r.flag e) (r.location e) (r.value e)

-- 13. Thread t, from 0, has more events than its side allows.
unfoldable pub too_long : List ℕ → ℕ → Bool
too_long f t = ltb (most_in_thread (side f)) (length (thread f t))

-- 8. The conditions of a link by its type, from a to b of a recording.
module _ (r : Recording ℕ) where
  unfoldable pub same_locations : ℕ → ℕ → Bool
  same_locations a b = eqb (r.location a) (r.location b)

  -- 1 rf: write to read, same location and value.
  unfoldable pub rf_legal : ℕ → ℕ → Bool
  rf_legal a b = (write r a && read r b) && (same_locations a b && eqb (r.value a) (r.value b))

  -- 2 co: write to another recorded write of the same location.
  unfoldable pub co_legal : ℕ → ℕ → Bool
  co_legal a b = (write r a && write r b) && (r.recorded b && (not (eqb a b) && same_locations a b))

  -- 3 rmw: exclusive read to the write directly after it, same location.
  unfoldable pub rmw_legal : ℕ → ℕ → Bool
  rmw_legal a b = (exclusive_read r a && write r b) && (r.next a b && same_locations a b)

  -- Types 4 to 7: from a read to an event po-later.
  unfoldable pub from_read : ℕ → ℕ → Bool
  from_read a b = read r a && (base nodes r).po a b

  -- 4 data: read to po-later write.
  unfoldable pub data_legal : ℕ → ℕ → Bool
  data_legal a b = from_read a b && write r b

  -- 5 addr: read to po-later read or write.
  unfoldable pub addr_legal : ℕ → ℕ → Bool
  addr_legal a b = from_read a b && access r b

  -- 6 ctrl: read to po-later event.
  unfoldable pub ctrl_legal : ℕ → ℕ → Bool
  ctrl_legal a b = from_read a b

  -- 7 casdep: read to po-later exclusive read; source only.
  unfoldable pub casdep_legal : Side → ℕ → ℕ → Bool
  casdep_legal s a b = from_read a b && (s && exclusive_read r b)

  -- By type: none but 1 to 7 is legal.
  unfoldable pub link_legal : Side → ℕ → ℕ → ℕ → Bool
  link_legal s t a b =
      get_or
      (false ∷ rf_legal a b ∷ co_legal a b ∷ rmw_legal a b ∷ data_legal a b ∷ addr_legal a b ∷ ctrl_legal a b ∷ casdep_legal s a b ∷ [])
      t false

  -- One source per read: no two different sources of rf links into b.
  unfoldable pub one_source : ℕ → Bool
  one_source b = not (some nodes (λ a. some nodes (λ c. (r.link 1 a b && r.link 1 c b) && not (eqb a c))))

-- The link record m into b: type and conditions as above, last byte 0.
unfoldable pub link_sound : List ℕ → ℕ → ℕ → Bool
link_sound f b m = link_legal (decode f) (side f) (link_byte f m 1) (link_byte f m 2) b && eqb (link_byte f m 3) 0

-- The links into b: each is sound, and b has one rf source.
unfoldable pub links_sound_at : List ℕ → ℕ → Bool
links_sound_at f b = all_of (links_into f b) (link_sound f b) && one_source (decode f) b

-- e is no strong write, or has an rmw.
unfoldable pub paired_at : List ℕ → ℕ → Bool
paired_at f e = not (strong_write (decode f) e) || some nodes (inverse ((decode f).link 3) e)

-- The causes.
module _ (f : List ℕ) where
  -- 1 under 8 bytes
  unfoldable pub too_short : Bool
  too_short = ltb (length f) header_size

  -- 2 kind not 1 or 2
  unfoldable pub kind_unknown : Bool
  kind_unknown = not (kind_known (kind f))

  -- 3 N, L or M over its limit
  unfoldable pub over_limit : Bool
  over_limit = header_over (side f) (events f) (locations f) (links f)

  -- 4 length not 8 + 8 times N + 4 times M
  unfoldable pub wrong_length : Bool
  wrong_length = not (eqb (length f) (full_length f))

  -- 5 class, mode, flag, location or a fence's value not as above
  unfoldable pub bad_event : Bool
  bad_event = not (each (events f) (event_legal f))

  -- 6 thread chain: index over N, event met twice or never
  unfoldable pub bad_threads : Bool
  bad_threads = not (threads_sound f)

  -- 13 a thread longer than its limit
  unfoldable pub long_thread : Bool
  long_thread = some (below threads) (too_long f)

  -- 7 link chain: index over M, link met twice or never
  unfoldable pub bad_chains : Bool
  bad_chains = not (links_sound f)

  -- 8 link type not 1 to 7 or its conditions broken, or last byte not 0
  unfoldable pub bad_link : Bool
  bad_link = not (each (events f) (links_sound_at f))

  -- 9 co leads back to its start
  unfoldable pub co_ring : Bool
  co_ring = some nodes (diagonal (base nodes (decode f)).co)

  -- 10 strong write without rmw
  unfoldable pub unpaired : Bool
  unpaired = not (each (events f) (paired_at f))

  -- In order, each with its number: those of the header and the length, those of the records and their chains, those of the links.
  unfoldable pub header_causes : List Numbered
  header_causes = (1, too_short) ∷ (2, kind_unknown) ∷ (3, over_limit) ∷ (4, wrong_length) ∷ []

  unfoldable pub record_causes : List Numbered
  record_causes = (5, bad_event) ∷ (6, bad_threads) ∷ (13, long_thread) ∷ (7, bad_chains) ∷ []

  unfoldable pub link_causes : List Numbered
  link_causes = (8, bad_link) ∷ (9, co_ring) ∷ (10, unpaired) ∷ []

  unfoldable pub causes : List Numbered
  causes = header_causes ++ (record_causes ++ link_causes)

  -- The number of the first cause that applies, and 0 where none does.
  unfoldable pub refusal : ℕ
  refusal = first causes

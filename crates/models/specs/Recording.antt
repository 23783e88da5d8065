-- A recording (01, "The recording") as it is after decoding, over any type E of events.
-- Bytes, chains as indices and numbers of events are the decoding's; nothing of them is here.
use Rattle.std.specs.Prelude.{Bool, ◌&&◌, ◌||◌, ℕ, eqb}

pub record Recording (E : Type 0) : Type 0 where
  -- What an event's record says. An initial write has class 2, and mode, flag and value 0.
  pub class : E → ℕ
  pub mode : E → ℕ
  pub flag : E → ℕ
  pub location : E → ℕ
  pub value : E → ℕ
  -- The initial writes, and the events with a record. Elements of E that are neither are no events.
  pub initial : E → Bool
  pub recorded : E → Bool
  -- next a b: b directly follows a on the chain of its thread.
  pub next : E → E → Bool
  -- link t a b: there is a link of type t from a to b.
  pub link : ℕ → E → E → Bool

-- The sets of events that 01's table of classes, modes and flags tells apart.
module _ {E : Type 0} (r : Recording E) where
  unfoldable pub event : E → Bool
  event e = r.initial e || r.recorded e

  -- The events of class k; those of mode m; those with flag 1.
  unfoldable pub of_class : ℕ → E → Bool
  of_class k e = event e && eqb (r.class e) k

  unfoldable pub of_mode : ℕ → ℕ → E → Bool
  of_mode k m e = of_class k e && eqb (r.mode e) m

  unfoldable pub flagged : ℕ → E → Bool
  flagged k e = of_class k e && eqb (r.flag e) 1

  abbrev pub read : E → Bool
  read = of_class 1

  abbrev pub write : E → Bool
  write = of_class 2

  abbrev pub fence : E → Bool
  fence = of_class 3

  -- Reads of mode 1: acquire in a source recording, ldar in a chip recording.
  abbrev pub acquire_read : E → Bool
  acquire_read = of_mode 1 1

  abbrev pub exclusive_read : E → Bool
  exclusive_read = flagged 1

  -- Writes of mode 2: release in a source recording, stlr in a chip recording.
  abbrev pub release_write : E → Bool
  release_write = of_mode 2 2

  abbrev pub strong_write : E → Bool
  strong_write = flagged 2

  -- Source fences: 1 acquire, 2 release, 3 both, 4 SC. Chip fences: 5 dmb ld, 6 dmb sy, 7 isb (02, slip 3).
  abbrev pub fence_of : ℕ → E → Bool
  fence_of = of_mode 3

  unfoldable pub acquire_fence : E → Bool
  acquire_fence e = fence_of 1 e || fence_of 3 e || fence_of 4 e

  unfoldable pub release_fence : E → Bool
  release_fence e = fence_of 2 e || fence_of 3 e || fence_of 4 e

  unfoldable pub access : E → Bool
  access e = read e || write e

  -- Reads or writes of one location. (A fence's record has location 0 and is left out.)
  unfoldable pub same_location : E → E → Bool
  same_location a b = access a && access b && eqb (r.location a) (r.location b)

  -- What co follows from: the links of type 2, and initial before recorded writes of one location.
  unfoldable pub co_step : E → E → Bool
  co_step a b = r.link 2 a b || (r.initial a && r.recorded b && write b && same_location a b)

-- Their names in 003: reads, writes, fences; acquire and exclusive reads; release and strong writes;
-- source fences of at least acquire, at least release, and SC mode; chip fences dmb ld and dmb sy; and isb, which 003 leaves out.
pub data SetName : Type 0 where
  R W F Racq Rex Wrel Wstrong Facq Frel Fsc Fld Fsy Fisb : SetName

abbrev pub member : {E : Type 0} → Recording E → SetName → E → Bool
member r R = read r
member r W = write r
member r F = fence r
member r Racq = acquire_read r
member r Rex = exclusive_read r
member r Wrel = release_write r
member r Wstrong = strong_write r
member r Facq = acquire_fence r
member r Frel = release_fence r
member r Fsc = fence_of r 4
member r Fld = fence_of r 5
member r Fsy = fence_of r 6
member r Fisb = fence_of r 7

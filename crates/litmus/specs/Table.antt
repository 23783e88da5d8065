-- The litmus table (01, "Litmus table"): twelve source files with the verdicts on each and on its translation, and the statement that they hold.
-- The verdict on the chip side is about the translation as it is defined, computed from the bytes of the source file.
use Rattle.std.specs.Prelude.{◌≡◌, ℕ}
use mathlib.Core.List.{List, [], ◌∷◌, Memᴰ}
use Rattle.translation.specs.Translation.{translation}
use Rattle.layout.specs.Layout.{source}
use Rattle.recording.specs.Load.{LoadsAs}
use Rattle.soundness.specs.Soundness.{imm_verdict, armv8_verdict, tso_verdict}

-- The bytes of a source file; the verdict on it under IMM, on its translation under ARMv8, and on it under x86-TSO (02, slip 6): 0 allowed, else the
-- number of the broken rule.
pub record Row : Type 0 where
  pub bytes : List ℕ
  pub source : ℕ
  pub chip : ℕ
  pub tso : ℕ

pub record Holds (row : Row) : Type 0 where
  pub loads : LoadsAs source row.bytes
  pub source : imm_verdict row.bytes ≡ row.source
  pub chip : armv8_verdict (translation row.bytes) ≡ row.chip
  pub tso : tso_verdict row.bytes ≡ row.tso

-- The rows, in 01's order. The bytes stand as in 01, "The recording": the header, a line for each event, a line for each link.
-- Comments give the events by number, a bar between two threads. Locations 0, 1, 2 are x, y, z with initial writes 56, 57, 58;
-- "R y 1 (rf 2)" is a read of 1 from y by an rf link from event 2.

-- Empty file of 8 bytes.
unfoldable pub empty : Row
empty = record {
  bytes =
      1 ∷ 0 ∷ 0 ∷ 0 ∷ 0 ∷ 0 ∷ 0 ∷ 0
      ∷ [];
  source = 0;
  chip = 0;
  tso = 0;
}

-- Message passing relaxed. 1: W x 1; 2: W y 1 | 3: R y 1 (rf 2); 4: R x 0 (rf 56).
unfoldable pub message_passing : Row
message_passing = record {
  bytes =
      1 ∷ 4 ∷ 2 ∷ 2 ∷ 1 ∷ 3 ∷ 0 ∷ 0
      ∷ 2 ∷ 2 ∷ 0 ∷ 0 ∷ 0 ∷ 1 ∷ 0 ∷ 0
      ∷ 0 ∷ 2 ∷ 0 ∷ 0 ∷ 1 ∷ 1 ∷ 0 ∷ 0
      ∷ 4 ∷ 1 ∷ 0 ∷ 0 ∷ 1 ∷ 1 ∷ 0 ∷ 1
      ∷ 0 ∷ 1 ∷ 0 ∷ 0 ∷ 0 ∷ 0 ∷ 0 ∷ 2
      ∷ 0 ∷ 1 ∷ 2 ∷ 0
      ∷ 0 ∷ 1 ∷ 56 ∷ 0
      ∷ [];
  source = 0;
  chip = 0;
  tso = 5;
}

-- Release and acquire with stale read. 1: W x 1; 2: W rel y 1 | 3: R acq y 1 (rf 2); 4: R x 0 (rf 56).
unfoldable pub release_acquire : Row
release_acquire = record {
  bytes =
      1 ∷ 4 ∷ 2 ∷ 2 ∷ 1 ∷ 3 ∷ 0 ∷ 0
      ∷ 2 ∷ 2 ∷ 0 ∷ 0 ∷ 0 ∷ 1 ∷ 0 ∷ 0
      ∷ 0 ∷ 2 ∷ 2 ∷ 0 ∷ 1 ∷ 1 ∷ 0 ∷ 0
      ∷ 4 ∷ 1 ∷ 1 ∷ 0 ∷ 1 ∷ 1 ∷ 0 ∷ 1
      ∷ 0 ∷ 1 ∷ 0 ∷ 0 ∷ 0 ∷ 0 ∷ 0 ∷ 2
      ∷ 0 ∷ 1 ∷ 2 ∷ 0
      ∷ 0 ∷ 1 ∷ 56 ∷ 0
      ∷ [];
  source = 3;
  chip = 5;
  tso = 5;
}

-- Load buffering. 1: R x 1 (rf 4); 2: W y 1 | 3: R y 1 (rf 2); 4: W x 1.
unfoldable pub load_buffering : Row
load_buffering = record {
  bytes =
      1 ∷ 4 ∷ 2 ∷ 2 ∷ 1 ∷ 3 ∷ 0 ∷ 0
      ∷ 2 ∷ 1 ∷ 0 ∷ 0 ∷ 0 ∷ 1 ∷ 0 ∷ 1
      ∷ 0 ∷ 2 ∷ 0 ∷ 0 ∷ 1 ∷ 1 ∷ 0 ∷ 0
      ∷ 4 ∷ 1 ∷ 0 ∷ 0 ∷ 1 ∷ 1 ∷ 0 ∷ 2
      ∷ 0 ∷ 2 ∷ 0 ∷ 0 ∷ 0 ∷ 1 ∷ 0 ∷ 0
      ∷ 0 ∷ 1 ∷ 4 ∷ 0
      ∷ 0 ∷ 1 ∷ 2 ∷ 0
      ∷ [];
  source = 0;
  chip = 0;
  tso = 5;
}

-- Load buffering with data links. 1: R x 1 (rf 4); 2: W y 1 (data 1) | 3: R y 1 (rf 2); 4: W x 1 (data 3).
unfoldable pub load_buffering_data : Row
load_buffering_data = record {
  bytes =
      1 ∷ 4 ∷ 2 ∷ 4 ∷ 1 ∷ 3 ∷ 0 ∷ 0
      ∷ 2 ∷ 1 ∷ 0 ∷ 0 ∷ 0 ∷ 1 ∷ 0 ∷ 1
      ∷ 0 ∷ 2 ∷ 0 ∷ 0 ∷ 1 ∷ 1 ∷ 0 ∷ 2
      ∷ 4 ∷ 1 ∷ 0 ∷ 0 ∷ 1 ∷ 1 ∷ 0 ∷ 3
      ∷ 0 ∷ 2 ∷ 0 ∷ 0 ∷ 0 ∷ 1 ∷ 0 ∷ 4
      ∷ 0 ∷ 1 ∷ 4 ∷ 0
      ∷ 0 ∷ 4 ∷ 1 ∷ 0
      ∷ 0 ∷ 1 ∷ 2 ∷ 0
      ∷ 0 ∷ 4 ∷ 3 ∷ 0
      ∷ [];
  source = 5;
  chip = 5;
  tso = 5;
}

-- Store buffering. 1: W x 1; 2: R y 0 (rf 57) | 3: W y 1; 4: R x 0 (rf 56).
unfoldable pub store_buffering : Row
store_buffering = record {
  bytes =
      1 ∷ 4 ∷ 2 ∷ 2 ∷ 1 ∷ 3 ∷ 0 ∷ 0
      ∷ 2 ∷ 2 ∷ 0 ∷ 0 ∷ 0 ∷ 1 ∷ 0 ∷ 0
      ∷ 0 ∷ 1 ∷ 0 ∷ 0 ∷ 1 ∷ 0 ∷ 0 ∷ 1
      ∷ 4 ∷ 2 ∷ 0 ∷ 0 ∷ 1 ∷ 1 ∷ 0 ∷ 0
      ∷ 0 ∷ 1 ∷ 0 ∷ 0 ∷ 0 ∷ 0 ∷ 0 ∷ 2
      ∷ 0 ∷ 1 ∷ 57 ∷ 0
      ∷ 0 ∷ 1 ∷ 56 ∷ 0
      ∷ [];
  source = 0;
  chip = 0;
  tso = 0;
}

-- Store buffering with SC fences. 1: W x 1; 2: F SC; 3: R y 0 (rf 57) | 4: W y 1; 5: F SC; 6: R x 0 (rf 56).
unfoldable pub store_buffering_fences : Row
store_buffering_fences = record {
  bytes =
      1 ∷ 6 ∷ 2 ∷ 2 ∷ 1 ∷ 4 ∷ 0 ∷ 0
      ∷ 2 ∷ 2 ∷ 0 ∷ 0 ∷ 0 ∷ 1 ∷ 0 ∷ 0
      ∷ 3 ∷ 3 ∷ 4 ∷ 0 ∷ 0 ∷ 0 ∷ 0 ∷ 0
      ∷ 0 ∷ 1 ∷ 0 ∷ 0 ∷ 1 ∷ 0 ∷ 0 ∷ 1
      ∷ 5 ∷ 2 ∷ 0 ∷ 0 ∷ 1 ∷ 1 ∷ 0 ∷ 0
      ∷ 6 ∷ 3 ∷ 4 ∷ 0 ∷ 0 ∷ 0 ∷ 0 ∷ 0
      ∷ 0 ∷ 1 ∷ 0 ∷ 0 ∷ 0 ∷ 0 ∷ 0 ∷ 2
      ∷ 0 ∷ 1 ∷ 57 ∷ 0
      ∷ 0 ∷ 1 ∷ 56 ∷ 0
      ∷ [];
  source = 5;
  chip = 5;
  tso = 5;
}

-- Independent reads with acquire. 1: W x 1 | 2: W y 1 | 3: R acq x 1 (rf 1); 4: R acq y 0 (rf 57) | 5: R acq y 1 (rf 2); 6: R acq x 0 (rf 56).
unfoldable pub independent_reads : Row
independent_reads = record {
  bytes =
      1 ∷ 6 ∷ 2 ∷ 4 ∷ 1 ∷ 2 ∷ 3 ∷ 5
      ∷ 0 ∷ 2 ∷ 0 ∷ 0 ∷ 0 ∷ 1 ∷ 0 ∷ 0
      ∷ 0 ∷ 2 ∷ 0 ∷ 0 ∷ 1 ∷ 1 ∷ 0 ∷ 0
      ∷ 4 ∷ 1 ∷ 1 ∷ 0 ∷ 0 ∷ 1 ∷ 0 ∷ 1
      ∷ 0 ∷ 1 ∷ 1 ∷ 0 ∷ 1 ∷ 0 ∷ 0 ∷ 2
      ∷ 6 ∷ 1 ∷ 1 ∷ 0 ∷ 1 ∷ 1 ∷ 0 ∷ 3
      ∷ 0 ∷ 1 ∷ 1 ∷ 0 ∷ 0 ∷ 0 ∷ 0 ∷ 4
      ∷ 0 ∷ 1 ∷ 1 ∷ 0
      ∷ 0 ∷ 1 ∷ 57 ∷ 0
      ∷ 0 ∷ 1 ∷ 2 ∷ 0
      ∷ 0 ∷ 1 ∷ 56 ∷ 0
      ∷ [];
  source = 0;
  chip = 5;
  tso = 5;
}

-- Two pairs both reading the initial write. 1: R exclusive x 0 (rf 56); 2: W x 1 (rmw 1) | 3: R exclusive x 0 (rf 56); 4: W x 2 (co 2, rmw 3).
unfoldable pub two_pairs : Row
two_pairs = record {
  bytes =
      1 ∷ 4 ∷ 1 ∷ 5 ∷ 1 ∷ 3 ∷ 0 ∷ 0
      ∷ 2 ∷ 1 ∷ 0 ∷ 1 ∷ 0 ∷ 0 ∷ 0 ∷ 1
      ∷ 0 ∷ 2 ∷ 0 ∷ 0 ∷ 0 ∷ 1 ∷ 0 ∷ 2
      ∷ 4 ∷ 1 ∷ 0 ∷ 1 ∷ 0 ∷ 0 ∷ 0 ∷ 3
      ∷ 0 ∷ 2 ∷ 0 ∷ 0 ∷ 0 ∷ 2 ∷ 0 ∷ 4
      ∷ 0 ∷ 1 ∷ 56 ∷ 0
      ∷ 0 ∷ 3 ∷ 1 ∷ 0
      ∷ 0 ∷ 1 ∷ 56 ∷ 0
      ∷ 5 ∷ 2 ∷ 2 ∷ 0
      ∷ 0 ∷ 3 ∷ 3 ∷ 0
      ∷ [];
  source = 4;
  chip = 4;
  tso = 4;
}

-- Newer value read before older. 1: W x 1; 2: W x 2 (co 1) | 3: R x 2 (rf 2); 4: R x 1 (rf 1).
unfoldable pub newer_before_older : Row
newer_before_older = record {
  bytes =
      1 ∷ 4 ∷ 1 ∷ 3 ∷ 1 ∷ 3 ∷ 0 ∷ 0
      ∷ 2 ∷ 2 ∷ 0 ∷ 0 ∷ 0 ∷ 1 ∷ 0 ∷ 0
      ∷ 0 ∷ 2 ∷ 0 ∷ 0 ∷ 0 ∷ 2 ∷ 0 ∷ 1
      ∷ 4 ∷ 1 ∷ 0 ∷ 0 ∷ 0 ∷ 2 ∷ 0 ∷ 2
      ∷ 0 ∷ 1 ∷ 0 ∷ 0 ∷ 0 ∷ 1 ∷ 0 ∷ 3
      ∷ 0 ∷ 2 ∷ 1 ∷ 0
      ∷ 0 ∷ 1 ∷ 2 ∷ 0
      ∷ 0 ∷ 1 ∷ 1 ∷ 0
      ∷ [];
  source = 3;
  chip = 3;
  tso = 3;
}

-- Normal release pair before a write. 1: R y 1 (rf 6); 2: W z 1 (data 1) | 3: R z 1 (rf 2); 4: R exclusive x 0 (rf 56); 5: W rel x 1 (rmw 4); 6: W y 1.
unfoldable pub normal_pair : Row
normal_pair = record {
  bytes =
      1 ∷ 6 ∷ 3 ∷ 5 ∷ 1 ∷ 3 ∷ 0 ∷ 0
      ∷ 2 ∷ 1 ∷ 0 ∷ 0 ∷ 1 ∷ 1 ∷ 0 ∷ 1
      ∷ 0 ∷ 2 ∷ 0 ∷ 0 ∷ 2 ∷ 1 ∷ 0 ∷ 2
      ∷ 4 ∷ 1 ∷ 0 ∷ 0 ∷ 2 ∷ 1 ∷ 0 ∷ 3
      ∷ 5 ∷ 1 ∷ 0 ∷ 1 ∷ 0 ∷ 0 ∷ 0 ∷ 4
      ∷ 6 ∷ 2 ∷ 2 ∷ 0 ∷ 0 ∷ 1 ∷ 0 ∷ 5
      ∷ 0 ∷ 2 ∷ 0 ∷ 0 ∷ 1 ∷ 1 ∷ 0 ∷ 0
      ∷ 0 ∷ 1 ∷ 6 ∷ 0
      ∷ 0 ∷ 4 ∷ 1 ∷ 0
      ∷ 0 ∷ 1 ∷ 2 ∷ 0
      ∷ 0 ∷ 1 ∷ 56 ∷ 0
      ∷ 0 ∷ 3 ∷ 4 ∷ 0
      ∷ [];
  source = 0;
  chip = 0;
  tso = 5;
}

-- Strong release pair before a write. 1: R y 1 (rf 6); 2: W z 1 (data 1) | 3: R z 1 (rf 2); 4: R exclusive x 0 (rf 56); 5: W rel strong x 1 (rmw 4); 6: W y 1.
unfoldable pub strong_pair : Row
strong_pair = record {
  bytes =
      1 ∷ 6 ∷ 3 ∷ 5 ∷ 1 ∷ 3 ∷ 0 ∷ 0
      ∷ 2 ∷ 1 ∷ 0 ∷ 0 ∷ 1 ∷ 1 ∷ 0 ∷ 1
      ∷ 0 ∷ 2 ∷ 0 ∷ 0 ∷ 2 ∷ 1 ∷ 0 ∷ 2
      ∷ 4 ∷ 1 ∷ 0 ∷ 0 ∷ 2 ∷ 1 ∷ 0 ∷ 3
      ∷ 5 ∷ 1 ∷ 0 ∷ 1 ∷ 0 ∷ 0 ∷ 0 ∷ 4
      ∷ 6 ∷ 2 ∷ 2 ∷ 1 ∷ 0 ∷ 1 ∷ 0 ∷ 5
      ∷ 0 ∷ 2 ∷ 0 ∷ 0 ∷ 1 ∷ 1 ∷ 0 ∷ 0
      ∷ 0 ∷ 1 ∷ 6 ∷ 0
      ∷ 0 ∷ 4 ∷ 1 ∷ 0
      ∷ 0 ∷ 1 ∷ 2 ∷ 0
      ∷ 0 ∷ 1 ∷ 56 ∷ 0
      ∷ 0 ∷ 3 ∷ 4 ∷ 0
      ∷ [];
  source = 5;
  chip = 5;
  tso = 5;
}

unfoldable pub table : List Row
table = empty ∷ message_passing ∷ release_acquire ∷ load_buffering ∷ load_buffering_data ∷ store_buffering ∷ store_buffering_fences ∷ independent_reads ∷ two_pairs ∷ newer_before_older ∷ normal_pair ∷ strong_pair ∷ []

-- Every row of the table holds.
abbrev pub Litmus : Type 0
Litmus = (row : Row) → Memᴰ row table → Holds row

-- What loading ensures of a recording, source or chip (01, "The recording" and "Causes of refusal").
-- Each field names the words or the cause that it comes from. Legal modes and flags, and values, of which no rule speaks, are the decoding's.
use Rattle.std.specs.Prelude.{◌⊎◌, ◌≡◌, T}
use Rattle.models.specs.Recording.{Recording, read, write, access, exclusive_read, strong_write, co_step}
use Rattle.models.specs.Steps.{Plus}
use Rattle.models.specs.Graph.{graph}

pub record Loads {E : Type 0} (r : Recording E) : Type 0 where
  -- "Each location .. also has an initial write .. without a record".
  pub initial_write : (e : E) → T (r.initial e) → r.class e ≡ 2
  pub initial_unrecorded : (e : E) → T (r.initial e) → ¬ T (r.recorded e)
  -- Cause 5: the class of a record is 1, 2 or 3.
  pub class : (e : E) → T (r.recorded e) → (r.class e ≡ 1) ⊎ (r.class e ≡ 2) ⊎ (r.class e ≡ 3)
  -- Cause 6: "every event record stands once on the four thread chains". So chains run through records;
  -- an event has one next (its field), follows one event (else it is met twice), and does not follow itself.
  pub next_source : (a b : E) → T (r.next a b) → T (r.recorded a)
  pub next_target : (a b : E) → T (r.next a b) → T (r.recorded b)
  pub next_functional : (a b c : E) → T (r.next a b) → T (r.next a c) → b ≡ c
  pub next_injective : (a b c : E) → T (r.next a c) → T (r.next b c) → a ≡ b
  pub next_acyclic : (a : E) → ¬ Plus (λ x y. T (r.next x y)) a a
  -- Cause 8, the conditions of the links.
  -- 1 rf: write to read, same location, one source per read.
  pub rf : (a b : E) → T (r.link 1 a b) → T (write r a) × T (read r b) × (r.location a ≡ r.location b)
  pub rf_once : (a b c : E) → T (r.link 1 a c) → T (r.link 1 b c) → a ≡ b
  -- 2 co: write to another recorded write of the same location.
  pub co : (a b : E) → T (r.link 2 a b) → T (write r a) × T (write r b) × T (r.recorded b) × (r.location a ≡ r.location b)
  -- 3 rmw: exclusive read to the write directly after it, same location.
  pub rmw : (a b : E) → T (r.link 3 a b) → T (exclusive_read r a) × T (write r b) × T (r.next a b) × (r.location a ≡ r.location b)
  -- 4 data: read to po-later write. 5 addr: read to po-later read or write.
  pub «data» : (a b : E) → T (r.link 4 a b) → T (read r a) × T (write r b) × (graph r).po a b
  pub addr : (a b : E) → T (r.link 5 a b) → T (read r a) × T (access r b) × (graph r).po a b
  -- 6 ctrl: read to po-later event. 7 casdep: read to po-later exclusive read.
  pub ctrl : (a b : E) → T (r.link 6 a b) → T (read r a) × (graph r).po a b
  pub casdep : (a b : E) → T (r.link 7 a b) → T (read r a) × T (exclusive_read r b) × (graph r).po a b
  -- Cause 9: co does not lead back to its start.
  pub co_acyclic : (a : E) → ¬ Plus (λ x y. T (co_step r x y)) a a
  -- Cause 10: a strong write has an rmw.
  pub strong : (e : E) → T (strong_write r e) → (a : E) × T (r.link 3 a e)

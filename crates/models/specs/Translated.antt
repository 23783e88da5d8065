-- What the translation does, from a source recording S to a chip recording C of the same events and new fences (01, "The translation").
-- Numbers of events, values and the order of links are the encoding's and are not here.
use Rattle.std.specs.Prelude.{◌⊎◌, ◌↔◌, ◌≡◌, ℕ, ◌≤◌, T}
use Rattle.models.specs.Recording.{Recording, event, read, write, fence, access, exclusive_read, strong_write, release_fence}

-- The ctrl links of C.
pub data Control {E : Type 0} (S C : Recording E) : E → E → Type 0 where
  -- "Links 1 to 6 stay."
  kept : {a b : E} → T (S.link 6 a b) → Control S C a b
  -- "For each exclusive read r a ctrl link goes to the event directly after r;
  after_read : {a b : E} → T (exclusive_read S a) → ((w : E) → T (S.link 3 a w) → ¬ T (S.link 4 a w)) → T (C.next a b) → Control S C a b
  -- if r has both rmw and data to its write, to the event after that write."
  after_pair : {a b : E} (w : E) → T (exclusive_read S a) → T (S.link 3 a w) → T (S.link 4 a w) → T (C.next w b) → Control S C a b
  -- "Each casdep q to e becomes ctrl q to the event directly after e."
  after_casdep : {q b : E} (e : E) → T (S.link 7 q e) → T (C.next e b) → Control S C q b

pub record Translated {E : Type 0} (S C : Recording E) : Type 0 where
  -- The fence that is chained in after a strong write.
  pub inserted : E → E
  -- "Events keep their numbers": C has the events of S and the inserted fences, each a new event of its own.
  pub initial : (e : E) → C.initial e ≡ S.initial e
  pub recorded : (e : E) → T (S.recorded e) → T (C.recorded e)
  pub recorded_new : (w : E) → T (strong_write S w) → T (C.recorded (inserted w))
  pub recorded_only : (e : E) → T (C.recorded e) → T (S.recorded e) ⊎ ((w : E) × T (strong_write S w) × (e ≡ inserted w))
  pub inserted_new : (w : E) → T (strong_write S w) → ¬ T (event S (inserted w))
  pub inserted_once : (v w : E) → T (strong_write S v) → T (strong_write S w) → inserted v ≡ inserted w → v ≡ w
  pub class : (e : E) → T (event S e) → C.class e ≡ S.class e
  pub location : (e : E) → T (event S e) → C.location e ≡ S.location e
  -- "Read and write modes stay, strong flags become 0."
  pub mode : (e : E) → T (access S e) → C.mode e ≡ S.mode e
  pub read_flag : (e : E) → T (read S e) → C.flag e ≡ S.flag e
  pub write_flag : (e : E) → T (write S e) → C.flag e ≡ 0
  -- "Fence 1 becomes 5; fences 2, 3, 4 become 6", and a source fence has one of these modes.
  pub fence_mode : (e : E) → T (fence S e) → ((S.mode e ≡ 1) × (C.mode e ≡ 5)) ⊎ (T (release_fence S e) × (C.mode e ≡ 6))
  -- "After each strong write a fence of mode 5 is chained in": chains run through the events of C, w is followed by its fence,
  -- the fence by what followed w, and any other event by what followed it.
  pub inserted_class : (w : E) → T (strong_write S w) → C.class (inserted w) ≡ 3
  pub inserted_mode : (w : E) → T (strong_write S w) → C.mode (inserted w) ≡ 5
  pub next_source : (a b : E) → T (C.next a b) → T (C.recorded a)
  pub next_kept : (a b : E) → T (S.recorded a) → ¬ T (strong_write S a) → C.next a b ≡ S.next a b
  pub next_strong : (w b : E) → T (strong_write S w) → T (C.next w b) ↔ (b ≡ inserted w)
  pub next_inserted : (w b : E) → T (strong_write S w) → C.next (inserted w) b ≡ S.next w b
  -- "Links 1 to 6 stay", ctrl links are added, and casdep is of kind 1 only.
  pub link : (t : ℕ) → 1 ≤ t → t ≤ 5 → (a b : E) → C.link t a b ≡ S.link t a b
  pub ctrl : (a b : E) → T (C.link 6 a b) ↔ Control S C a b
  pub casdep : (a b : E) → ¬ T (C.link 7 a b)

-- A recording says of each event what contents say: the recording of a file says what its records say, and the recording of an
-- encoded file what was encoded.
use mathlib.Core.Path.{◌≡◌, refl, sym, ap₂, ◌∙◌}
use mathlib.Core.Bool.{true, ◌&&◌}
use mathlib.Core.List.{List}
use Prim.Native.Nat.{ℕ, zero, suc, ◌+◌, ◌-◌, ◌*◌, ◌<◌, ◌≤◌}
use native.Mathlib.Omega.{arith}
use borrow.Author.Tests.{eqb-true, eq-eqb, leb-true, le-leb, ltb-true}
use lib.Dec.{T, eqb}
use lib.ListN.{get_or}
use mathlib.Core.Logic.{inl, inr}
use Rattle.models.specs.Recording.{Recording, event}
use Rattle.models.specs.Recording as recording
use Rattle.models.proofs.MemberLaws.{initial_event, recorded_event, event_cases, class_event, class_is, class_intro, flag_class, flag_is, flag_intro}
use Rattle.layout.specs.Layout.{events, locations, event_byte}
use Rattle.layout.specs.Chains.{next_event}
use Rattle.layout.specs.Decode.{is_recorded, is_initial, field_or, decode}
use Rattle.layout.proofs.FieldLaws.{recorded_bounds, recorded_is, record_initial, record_recorded, field_initial, field_recorded, next_first}
use Rattle.translation.specs.Contents.{Contents, contents}
use Rattle.translation.specs.Translate.{flagged}
use Rattle.translation.specs.Encode.{event_record, encode}
use Rattle.relation.proofs.Truth.{is_true, holds, same_test, and_left, and_right, and_both}
use Rattle.translation.proofs.TranslateLaws.{flagged_is, flagged_intro}
use Rattle.translation.proofs.EncodeLaws.{encode_events, encode_locations, encode_event}
use Rattle.translation.proofs.EncodedLinks.{LinksFit, encoded_link}

pub record Says (r : Recording ℕ) (c : Contents) : Type 0 where
  -- Events have records 1 to N; initial writes are 56 to 56 + L - 1.
  pub few : c.events < 56
  pub recorded : (e : ℕ) → T (r.recorded e) → (1 ≤ e) × (e ≤ c.events)
  pub is_recorded_lem : (e : ℕ) → 1 ≤ e → e ≤ c.events → T (r.recorded e)
  pub initial : (e : ℕ) → T (r.initial e) → (56 ≤ e) × (e < 56 + c.locations)
  pub is_initial_lem : (e : ℕ) → 56 ≤ e → e < 56 + c.locations → T (r.initial e)
  -- What a record says.
  pub class : (e : ℕ) → 1 ≤ e → e ≤ c.events → r.class e ≡ c.class e
  pub mode : (e : ℕ) → 1 ≤ e → e ≤ c.events → r.mode e ≡ c.mode e
  pub flag : (e : ℕ) → 1 ≤ e → e ≤ c.events → r.flag e ≡ c.flag e
  pub location : (e : ℕ) → 1 ≤ e → e ≤ c.events → r.location e ≡ c.location e
  pub value : (e : ℕ) → 1 ≤ e → e ≤ c.events → r.value e ≡ c.low e + 256 * c.high e
  -- What an initial write has.
  pub initial_class : (e : ℕ) → 56 ≤ e → r.class e ≡ 2
  pub initial_mode : (e : ℕ) → 56 ≤ e → r.mode e ≡ 0
  pub initial_flag : (e : ℕ) → 56 ≤ e → r.flag e ≡ 0
  pub initial_location : (e : ℕ) → 56 ≤ e → r.location e ≡ e - 56
  pub initial_value : (e : ℕ) → 56 ≤ e → r.value e ≡ 0
  -- Chains and links.
  pub next : (a b : ℕ) → T (r.next a b) → (1 ≤ a) × (a ≤ c.events) × (1 ≤ b) × (b ≤ c.events) × (c.next a ≡ b)
  pub is_next : (a b : ℕ) → 1 ≤ a → a ≤ c.events → 1 ≤ b → b ≤ c.events → c.next a ≡ b → T (r.next a b)
  pub link : (t a b : ℕ) → r.link t a b ≡ c.link t a b

-- Sets of events.
module _ (r : Recording ℕ) (c : Contents) (q : Says r c) where
  -- An event is an initial write or has a record.
  pub data Event (e : ℕ) : Type 0 where
    initially : 56 ≤ e → e < 56 + c.locations → Event e
    recorded : 1 ≤ e → e ≤ c.events → Event e

  pub event_says : (e : ℕ) → T (event r e) → Event e
  event_says e h =
      elim (event_cases r e h) [
        | inl i ↦ (let w = q.initial e i in initially w.0 w.1)
        | inr i ↦ (let w = q.recorded e i in recorded w.0 w.1)
      ]

  pub says_event : (e : ℕ) → Event e → T (event r e)
  says_event e (initially h g) = initial_event r e (q.is_initial_lem e h g)
  says_event e (recorded h g) = recorded_event r e (q.is_recorded_lem e h g)

  -- The events with flag 1.
  flagged_to : (k e : ℕ) → T (recording.flagged r k e) → Event e → flagged c k e ≡ true
  flagged_to k e h (initially i _) = absurd (let x = q.initial_flag e i in let y = flag_is r k e h in omega arith)
  flagged_to k e h (recorded i g) =
      flagged_intro c k e (record { low = i; high = g; class = sym (q.class e i g) ∙ class_is r k e (flag_class r k e h); flag = sym (q.flag e i g) ∙ flag_is r k e h })

  flagged_from : (k e : ℕ) → flagged c k e ≡ true → T (recording.flagged r k e)
  flagged_from k e h =
      let w = flagged_is c k e h in
      flag_intro r k e (class_intro r k e (says_event e (recorded w.low w.high)) (q.class e w.low w.high ∙ w.class)) (q.flag e w.low w.high ∙ w.flag)

  pub flagged_says : (k e : ℕ) → recording.flagged r k e ≡ flagged c k e
  flagged_says k e =
      same_test (recording.flagged r k e) (flagged c k e)
      (λ p. (let h = holds (recording.flagged r k e) p in flagged_to k e h (event_says e (class_event r k e (flag_class r k e h)))))
      (λ p. is_true (recording.flagged r k e) (flagged_from k e p))

-- The bytes of a file's records are those of contents, but for an event's first link.
pub record Bytes (f : List ℕ) (c : Contents) : Type 0 where
  pub few : c.events < 56
  pub events : events f ≡ c.events
  pub locations : locations f ≡ c.locations
  pub byte : (k : ℕ) → k < 7 → (e : ℕ) → 1 ≤ e → e ≤ c.events → event_byte f e k ≡ get_or (event_record c e) k 0
  pub link : (t a b : ℕ) → (decode f).link t a b ≡ c.link t a b

module _ (f : List ℕ) (c : Contents) (b : Bytes f c) where
  there : (e : ℕ) → 1 ≤ e → e ≤ c.events → is_recorded f e ≡ true
  there e h g = recorded_is f e h (omega (arith, b.events))

  field_at : (k given : ℕ) → k < 7 → (e : ℕ) → 1 ≤ e → e ≤ c.events → field_or f k given e ≡ get_or (event_record c e) k 0
  field_at k given small e h g = sym (field_recorded f k given e _ (omega (arith, b.few)) (sym (b.byte k small e h g)) (there e h g))

  pub next_byte : (e : ℕ) → 1 ≤ e → e ≤ c.events → next_event f e ≡ c.next e
  unfolding event_record
  next_byte e h g = sym (next_first f e) ∙ b.byte 0 (omega arith) e h g

  initial_bounds : (e : ℕ) → is_initial f e ≡ true → (56 ≤ e) × (e < 56 + c.locations)
  unfolding is_initial
  initial_bounds e p =
      let high : e < 56 + locations f = search (and_right, ltb-true) in
      (search (and_left, leb-true), omega (arith, b.locations))

  initial_is : (e : ℕ) → 56 ≤ e → e < 56 + c.locations → is_initial f e ≡ true
  unfolding is_initial
  initial_is e h g = (let high : e < 56 + locations f = omega (arith, b.locations) in search (and_both, le-leb))

  pub bytes_say : Says (decode f) c
  unfolding decode field_or event_record
  bytes_say =
      record {
        few = b.few;
        recorded = λ e h. (let r = recorded_bounds f e (is_true (is_recorded f e) h) in (r.0, omega (arith, r.1, b.events)));
        is_recorded_lem = λ e h g. holds (is_recorded f e) (there e h g);
        initial = λ e h. initial_bounds e (is_true (is_initial f e) h);
        is_initial_lem = λ e h g. holds (is_initial f e) (initial_is e h g);
        class = field_at 1 2 (omega arith);
        mode = field_at 2 0 (omega arith);
        flag = field_at 3 0 (omega arith);
        location = λ e h g. sym (record_recorded f (λ x. x - 56) (λ x. event_byte f x 4) e (omega (arith, b.few)) (there e h g)) ∙ b.byte 4 (omega arith) e h g;
        value = λ e h g. ap₂ (λ (x y : ℕ). x + 256 * y) (field_at 5 0 (omega arith) e h g) (field_at 6 0 (omega arith) e h g);
        initial_class = λ e h. sym (field_initial f 1 2 e h);
        initial_mode = λ e h. sym (field_initial f 2 0 e h);
        initial_flag = λ e h. sym (field_initial f 3 0 e h);
        initial_location = λ e h. sym (record_initial f (λ x. x - 56) (λ x. event_byte f x 4) e h);
        initial_value = λ e h. ap₂ (λ (x y : ℕ). x + 256 * y) (sym (field_initial f 5 0 e h)) (sym (field_initial f 6 0 e h));
        next = λ x y h. next_parts x y (is_true (is_recorded f x && is_recorded f y && eqb (next_event f x) y) h);
        is_next = λ x y p q u v e. holds (is_recorded f x && is_recorded f y && eqb (next_event f x) y)
            (let here = there x p q in let other = there y u v in let same = next_byte x p q ∙ e in search (and_both, eq-eqb));
        link = b.link;
      }
    where
      next_parts : (x y : ℕ) → is_recorded f x && is_recorded f y && eqb (next_event f x) y ≡ true → (1 ≤ x) × (x ≤ c.events) × (1 ≤ y) × (y ≤ c.events) × (c.next x ≡ y)
      next_parts x y p =
          let u = recorded_bounds f x (search (and_left, and_right)) in
          let v = recorded_bounds f y (search (and_left, and_right)) in
          let g : x ≤ c.events = omega (arith, u.1, b.events) in
          let same : next_event f x ≡ y = search (and_right, eqb-true) in
          (u.0, g, v.0, omega (arith, v.1, b.events), sym (next_byte x u.0 g) ∙ same)

-- A file says what its records say.
pub contents_bytes : (f : List ℕ) → events f < 56 → Bytes f (contents f)
unfolding contents event_record
contents_bytes f h = record { few = h; events = refl; locations = refl; byte = byte; link = λ t a b. refl }
  where
    byte : (k : ℕ) → k < 7 → (e : ℕ) → 1 ≤ e → e ≤ events f → event_byte f e k ≡ get_or (event_record (contents f) e) k 0
    byte zero h e p q = next_first f e
    byte (suc zero) h e p q = refl
    byte (suc (suc zero)) h e p q = refl
    byte (suc (suc (suc zero))) h e p q = refl
    byte (suc (suc (suc (suc zero)))) h e p q = refl
    byte (suc (suc (suc (suc (suc zero))))) h e p q = refl
    byte (suc (suc (suc (suc (suc (suc zero)))))) h e p q = refl
    byte (suc (suc (suc (suc (suc (suc (suc k))))))) h e p q = absurd (omega arith)

pub contents_say : (f : List ℕ) → events f < 56 → Says (decode f) (contents f)
contents_say f h = bytes_say f (contents f) (contents_bytes f h)

-- An encoded file says what was encoded.
module _ (c : Contents) where
  pub encode_next : (e : ℕ) → 1 ≤ e → e ≤ c.events → next_event (encode c) e ≡ c.next e
  unfolding event_record
  encode_next e h g = sym (next_first (encode c) e) ∙ encode_event c e 0 h g (omega arith)

  pub encode_bytes : LinksFit c → c.events < 56 → Bytes (encode c) c
  encode_bytes fit h =
      record {
        few = h;
        events = encode_events c;
        locations = encode_locations c;
        byte = λ k small e p q. encode_event c e k p q (omega arith);
        link = encoded_link c fit;
      }

  pub encode_says : LinksFit c → c.events < 56 → Says (decode (encode c)) c
  encode_says fit h = bytes_say (encode c) c (encode_bytes fit h)

-- The recording that contents describe, computed from them: it equals the one decoded from bytes that say the same, and so does its verdict,
-- over the list of its events alone.
use mathlib.Core.Path.{◌≡◌, refl, ap, ap₂, fun_ext, ◌∙◌}
use mathlib.Core.Bool.{Bool, true, false, ◌&&◌}
use mathlib.Core.List.{List, [], ◌∷◌, Memᴰ}
use Prim.Native.Nat.{ℕ, zero, suc, ◌+◌, ◌-◌, ◌*◌, ◌<◌, ◌≤◌}
use native.Mathlib.Omega.{arith}
use native.Mathlib.Decide.{ℕ_discrete}
use borrow.Author.Tests.{leb-true}
use lib.Dec.{T, eqb, leb, ltb}
use lib.ListN.{get_or}
use Rattle.relation.specs.Rel.{nodes}
use Rattle.relation.proofs.Truth.{and_left, and_right}
use Rattle.models.specs.Recording.{Recording, event}
use Rattle.models.specs.Graph.{base, Within}
use Rattle.models.specs.Rules.{Model, verdict}
use Rattle.models.proofs.Agree.{verdict_relist}
use Rattle.models.proofs.EvalTable.{table_verdict, table_verdict_lem}
use Rattle.layout.specs.Layout.{event_byte}
use Rattle.layout.specs.Chains.{next_event}
use Rattle.layout.specs.Decode.{is_recorded, is_initial, record_or, field_or, decode}
use Rattle.recording.specs.Causes.{refusal}
use Rattle.recording.proofs.Loaded.{loaded_within}
use Rattle.translation.specs.Contents.{Contents}
use Rattle.translation.specs.Encode.{event_record}
use Rattle.translation.proofs.Says.{Event, initially, recorded, event_says, Bytes, next_byte, bytes_say}

-- The events of a file with n records and l locations: n down to 1, and 56 + l - 1 down to 56.
unfoldable pub event_list : ℕ → ℕ → List ℕ
event_list zero zero = []
event_list zero (suc l) = (56 + l) ∷ event_list zero l
event_list (suc n) l = suc n ∷ event_list n l

pub recorded_listed : (n l e : ℕ) → 1 ≤ e → e ≤ n → Memᴰ e (event_list n l)
unfolding event_list
recorded_listed zero l e h g = absurd (omega arith)
recorded_listed (suc n) l e h g = elim (ℕ_discrete e (suc n)) [ yes p ↦ Memᴰ.head p | no p ↦ Memᴰ.tail (recorded_listed n l e h (omega (arith, p))) ]

pub initial_listed : (n l e : ℕ) → 56 ≤ e → e < 56 + l → Memᴰ e (event_list n l)
unfolding event_list
initial_listed zero zero e h g = absurd (omega arith)
initial_listed zero (suc l) e h g = elim (ℕ_discrete e (56 + l)) [ yes p ↦ Memᴰ.head p | no p ↦ Memᴰ.tail (initial_listed zero l e h (omega (arith, p))) ]
initial_listed (suc n) l e h g = Memᴰ.tail (initial_listed n l e h g)

module _ (c : Contents) where
  unfoldable pub has_record : ℕ → Bool
  has_record e = leb 1 e && leb e c.events

  -- What an initial write has, else what a record says, else 0.
  unfoldable pub said_or : (ℕ → ℕ) → (ℕ → ℕ) → ℕ → ℕ
  said_or given said e = elim (leb 56 e) [ true ↦ given e | false ↦ elim (has_record e) [ true ↦ said e | false ↦ 0 ] ]

  unfoldable pub recording_of : Recording ℕ
  recording_of = record {
    class = said_or (λ e. 2) c.class;
    mode = said_or (λ e. 0) c.mode;
    flag = said_or (λ e. 0) c.flag;
    location = said_or (λ e. e - 56) c.location;
    value = λ e. said_or (λ e. 0) c.low e + 256 * said_or (λ e. 0) c.high e;
    initial = λ e. leb 56 e && ltb e (56 + c.locations);
    recorded = has_record;
    next = λ a b. has_record a && has_record b && eqb (c.next a) b;
    link = c.link;
  }

-- It is the one decoded from bytes that say the same.
abbrev or_zero : Bool → ℕ → ℕ
or_zero b x = elim b [ true ↦ x | false ↦ 0 ]

where_true : (b : Bool) (x y : ℕ) → (b ≡ true → x ≡ y) → or_zero b x ≡ or_zero b y
where_true true x y f = f refl
where_true false x y f = refl

and_where : (b : Bool) (x y : Bool) → (b ≡ true → x ≡ y) → b && x ≡ b && y
and_where true x y f = f refl
and_where false x y f = refl

module _ (f : List ℕ) (c : Contents) (b : Bytes f c) where
  record_same : (e : ℕ) → is_recorded f e ≡ has_record c e
  unfolding is_recorded has_record
  record_same e = ap (λ (n : ℕ). leb 1 e && leb e n) b.events

  record_bounds : (e : ℕ) → has_record c e ≡ true → (1 ≤ e) × (e ≤ c.events)
  unfolding has_record
  record_bounds e p = search (and_left, and_right, leb-true)

  said_same : (given read said : ℕ → ℕ) → ((e : ℕ) → 1 ≤ e → e ≤ c.events → read e ≡ said e) → record_or f given read ≡ said_or c given said
  unfolding record_or said_or
  said_same given read said q = fun_ext λ e.
      ap (λ (t : Bool). elim (leb 56 e) [ true ↦ given e | false ↦ elim t [ true ↦ read e | false ↦ 0 ] ]) (record_same e)
      ∙ ap (λ (x : ℕ). elim (leb 56 e) [ true ↦ given e | false ↦ x ]) (where_true (has_record c e) (read e) (said e) (λ p. (let w = record_bounds e p in q e w.0 w.1)))

  initial_same : (e : ℕ) → is_initial f e ≡ leb 56 e && ltb e (56 + c.locations)
  unfolding is_initial
  initial_same e = ap (λ (l : ℕ). leb 56 e && ltb e (56 + l)) b.locations

  next_same : (x y : ℕ) → is_recorded f x && is_recorded f y && eqb (next_event f x) y ≡ has_record c x && has_record c y && eqb (c.next x) y
  next_same x y =
      ap₂ (λ (s t : Bool). s && t && eqb (next_event f x) y) (record_same x) (record_same y)
      ∙ and_where (has_record c x && has_record c y) (eqb (next_event f x) y) (eqb (c.next x) y)
      (λ p. (let w = record_bounds x (search and_left) in ap (λ (n : ℕ). eqb n y) (next_byte f c b x w.0 w.1)))

  -- Byte k of each record.
  byte_same : (k : ℕ) → k < 7 → (given : ℕ → ℕ) → record_or f given (λ e. event_byte f e k) ≡ said_or c given (λ e. get_or (event_record c e) k 0)
  byte_same k small given = said_same given (λ e. event_byte f e k) (λ e. get_or (event_record c e) k 0) (b.byte k small)

  decoded : decode f ≡ recording_of c
  unfolding decode field_or recording_of event_record
  decoded = λ i. record {
    class = byte_same 1 (omega arith) (λ e. 2) i;
    mode = byte_same 2 (omega arith) (λ e. 0) i;
    flag = byte_same 3 (omega arith) (λ e. 0) i;
    location = byte_same 4 (omega arith) (λ e. e - 56) i;
    value = λ e. byte_same 5 (omega arith) (λ e. 0) i e + 256 * byte_same 6 (omega arith) (λ e. 0) i e;
    initial = λ e. initial_same e i;
    recorded = λ e. record_same e i;
    next = λ x y. next_same x y i;
    link = λ t x y. b.link t x y i;
  }

  -- The verdict on a file that loads, over the list of its events and by tables.
  abbrev es : List ℕ
  es = event_list c.events c.locations

  listed : (e : ℕ) → T (event (decode f) e) → Memᴰ e es
  listed e h = go (event_says (decode f) c (bytes_say f c b) e h)
    where
      go : Event (decode f) c (bytes_say f c b) e → Memᴰ e es
      go (initially h g) = initial_listed c.events c.locations e h g
      go (recorded h g) = recorded_listed c.events c.locations e h g

  within : Within nodes (decode f) → Within es (decode f)
  within w = record { listed = listed; next_source = w.next_source; next_target = w.next_target; link_source = w.link_source; link_target = w.link_target }

  pub verdict_computed : refusal f ≡ 0 → (M : Model) → verdict nodes (base nodes (decode f)) M ≡ table_verdict (event_list c.events c.locations) (recording_of c) M
  verdict_computed l M =
      let w = loaded_within f l in
      verdict_relist nodes es (decode f) w (within w) M ∙ table_verdict_lem es (decode f) M ∙ ap (λ (r : Recording ℕ). table_verdict es r M) decoded

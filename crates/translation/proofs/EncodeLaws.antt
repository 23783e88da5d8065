-- Laws of an encoded file: its length, its header, and the bytes of each record.
use mathlib.Core.Path.{◌≡◌, refl, ap, ◌∙◌}
use mathlib.Core.Bool.{true}
use mathlib.Core.List.{◌++◌}
use Prim.Native.Nat.{ℕ, zero, suc, ◌+◌, ◌-◌, ◌*◌, ◌<◌, ◌≤◌}
use native.Mathlib.Omega.{arith}
use borrow.Author.Tests.{le-leb}
use lib.Dec.{leb}
use lib.ListN.{length, get_or, length-append, get_or-append}
use lib.Seq.{get_or-append-add}
use Rattle.relation.specs.Rel.{count}
use Rattle.layout.specs.Layout.{kind, events, locations, links, link_start, full_length, event_byte, link_byte}
use Rattle.layout.specs.Chains.{head, start_of}
use Rattle.translation.specs.Contents.{Contents}
use Rattle.translation.specs.Encode.{is_link, links_before, links_up_to, header, event_record, link_record, event_records, link_records, encode}
use Rattle.relation.proofs.Counting.{count_yes}
use Rattle.translation.proofs.RecordLaws.{records_length, records_at}

-- e events are numbered from 1 to e.
pub count_numbered : (e : ℕ) → count (suc e) (leb 1) ≡ e
unfolding count
count_numbered zero = refl
count_numbered (suc e) = count_yes (suc e) (leb 1) (le-leb 1 (suc e) (omega arith)) ∙ ap suc (count_numbered e)

module _ (c : Contents) where
  pub event_size_lem : (e : ℕ) → length (event_record c e) ≡ 8
  unfolding event_record
  event_size_lem e = refl

  pub link_size_lem : (k : ℕ) → length (link_record c k) ≡ 4
  unfolding link_record
  link_size_lem k = refl

  pub header_size_lem : length (header c) ≡ 8
  unfolding header
  header_size_lem = refl

  pub events_length : (e : ℕ) → length (event_records c (suc e)) ≡ 8 * e
  unfolding event_records
  events_length e = records_length 8 (event_record c) (leb 1) event_size_lem (suc e) ∙ ap (λ (x : ℕ). 8 * x) (count_numbered e)

  pub links_length : (k : ℕ) → length (link_records c k) ≡ 4 * links_before c k
  unfolding link_records
  links_length k = records_length 4 (link_record c) (is_link c) link_size_lem k

  pub encode_length : length (encode c) ≡ 8 + 8 * c.events + 4 * links_up_to c c.events
  unfolding encode
  encode_length =
      let n = c.events in
      let ev = event_records c (suc n) in
      let ln = link_records c (512 * suc n) in
      omega (arith, length-append (header c) (ev ++ ln), length-append ev ln, header_size_lem, events_length n, links_length (512 * suc n))

  -- The header.
  header_at : (i : ℕ) → i < 8 → get_or (encode c) i 0 ≡ get_or (header c) i 0
  unfolding encode
  header_at i h =
      get_or-append (header c) (event_records c (suc c.events) ++ link_records c (512 * suc c.events)) 0 i (omega (arith, header_size_lem))

  pub encode_kind : kind (encode c) ≡ c.kind
  unfolding header
  encode_kind = header_at 0 (omega arith)

  pub encode_events : events (encode c) ≡ c.events
  unfolding header
  encode_events = header_at 1 (omega arith)

  pub encode_locations : locations (encode c) ≡ c.locations
  unfolding header
  encode_locations = header_at 2 (omega arith)

  pub encode_links : links (encode c) ≡ links_up_to c c.events
  unfolding header
  encode_links = header_at 3 (omega arith)

  pub encode_head : (j : ℕ) → j < 4 → head (encode c) j ≡ c.head j
  unfolding header start_of
  encode_head zero h = header_at 4 (omega arith)
  encode_head (suc zero) h = header_at 5 (omega arith)
  encode_head (suc (suc zero)) h = header_at 6 (omega arith)
  encode_head (suc (suc (suc zero))) h = header_at 7 (omega arith)
  encode_head (suc (suc (suc (suc j)))) h = absurd (omega arith)

  pub encode_full : length (encode c) ≡ full_length (encode c)
  encode_full = omega (arith, encode_length, encode_events, encode_links)

  -- Byte k of event record e.
  pub encode_event : (e k : ℕ) → 1 ≤ e → e ≤ c.events → k < 8 → event_byte (encode c) e k ≡ get_or (event_record c e) k 0
  unfolding encode event_records
  encode_event e k h g m =
      let n = c.events in
      let ev = event_records c (suc n) in
      let ln = link_records c (512 * suc n) in
      let one_more : e ≡ suc (e - 1) = omega arith in
      let before : count e (leb 1) ≡ e - 1 = ap (λ (x : ℕ). count x (leb 1)) one_more ∙ count_numbered (e - 1) in
      let place : 8 + 8 * (e - 1) + k ≡ length (header c) + (8 * count e (leb 1) + k) = omega (arith, header_size_lem) in
      ap (λ (i : ℕ). get_or (encode c) i 0) place
      ∙ get_or-append-add (header c) (ev ++ ln) (8 * count e (leb 1) + k) 0
      ∙ get_or-append ev ln 0 (8 * count e (leb 1) + k) (omega (arith, events_length n, before))
      ∙ records_at 8 (event_record c) (leb 1) event_size_lem (suc n) e k (omega arith) (le-leb 1 e h) m

  -- Byte j of the record of the link k.
  pub encode_link : (k j : ℕ) → k < 512 * suc c.events → is_link c k ≡ true → j < 4
      → link_byte (encode c) (suc (links_before c k)) j ≡ get_or (link_record c k) j 0
  unfolding encode link_records
  encode_link k j h e g =
      let n = c.events in
      let ev = event_records c (suc n) in
      let ln = link_records c (512 * suc n) in
      let place : link_start (encode c) + 4 * (suc (links_before c k) - 1) + j ≡ length (header c) + (length ev + (4 * links_before c k + j)) =
      omega (arith, header_size_lem, events_length n, encode_events) in
      ap (λ (i : ℕ). get_or (encode c) i 0) place
      ∙ get_or-append-add (header c) (ev ++ ln) (length ev + (4 * links_before c k + j)) 0
      ∙ get_or-append-add ev ln (4 * links_before c k + j) 0
      ∙ records_at 4 (link_record c) (is_link c) link_size_lem (512 * suc n) k j h e g

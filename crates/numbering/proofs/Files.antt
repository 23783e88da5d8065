-- The translations of source files that differ in their numbering differ in their numbering.
use mathlib.Core.Path.{◌≡◌, sym, ap, ◌∙◌}
use mathlib.Core.List.{List}
use mathlib.Core.Logic.{inl, inr}
use Prim.Native.Nat.{ℕ, ◌<◌, ◌≤◌}
use native.Mathlib.Omega.{arith}
use Rattle.relation.proofs.Truth.{holds}
use lib.ListN.{get_or}
use Rattle.layout.specs.Layout.{source, side, side_of, events, event_byte}
use Rattle.layout.specs.Decode.{decode}
use Rattle.recording.proofs.Loaded.{loaded_within}
use Rattle.translation.specs.Contents.{Contents, contents}
use Rattle.translation.specs.Encode.{event_record, encode}
use Rattle.translation.specs.Translation.{translation}
use Rattle.translation.specs.Parts.{Source}
use Rattle.translation.proofs.EncodeLaws.{encode_kind, encode_events, encode_locations, encode_head, encode_event}
use Rattle.translation.proofs.EncodedLinks.{LinksFit, encoded_link}
use Rattle.translation.proofs.Says.{initially, recorded, event_says, encode_next}
use Rattle.translation.proofs.SourceFacts as facts
use Rattle.translation.proofs.Bounds.{most_events_lem, links_fit}
use Rattle.translation.proofs.Theorems.{translation_loads}
use Rattle.numbering.specs.Numbering.{numbers_to, Renumbers, Renumbered}
use Rattle.numbering.proofs.Renumberings.{within, thread_within, numbers_fewer, moved_within}
use Rattle.numbering.proofs.Translations.{Sourced, translated_renumbers}

-- Encoded contents say what was encoded, so that renumbering them is renumbering the files.
module _ {s c : Contents} (w : Renumbers s c) (fit : LinksFit s) (fit' : LinksFit c) where
  -- Byte k of each event record.
  byte_along : (k : ℕ) → k < 8 → ((e : ℕ) → 1 ≤ e → e ≤ s.events → get_or (event_record c (w.event.to e)) k 0 ≡ get_or (event_record s e) k 0)
      → (e : ℕ) → 1 ≤ e → e ≤ events (encode s) → event_byte (encode c) (w.event.to e) k ≡ event_byte (encode s) e k
  byte_along k small same e h g =
      let high : e ≤ s.events = omega (arith, encode_events s) in
      let m = moved_within w e h high in
      encode_event c (w.event.to e) k m.0 m.1 small ∙ same e h high ∙ sym (encode_event s e k h high small)

  pub encoded_renumbers : Renumbers (contents (encode s)) (contents (encode c))
  unfolding contents within event_record
  encoded_renumbers =
      record {
        kind = encode_kind c ∙ w.kind ∙ sym (encode_kind s);
        events = encode_events c ∙ w.events ∙ sym (encode_events s);
        locations = encode_locations c ∙ w.locations ∙ sym (encode_locations s);
        event = within w.event (numbers_to (events (encode s))) (numbers_fewer s.events (events (encode s)) (omega (arith, encode_events s)));
        thread = w.thread;
        head = λ t h. encode_head c (w.thread.to t) (thread_within w.thread t h) ∙ w.head t h ∙ ap w.event.to (sym (encode_head s t h));
        next = λ e h g. (let high : e ≤ s.events = omega (arith, encode_events s) in let m = moved_within w e h high in
            encode_next c (w.event.to e) m.0 m.1 ∙ w.next e h high ∙ ap w.event.to (sym (encode_next s e h high)));
        class = byte_along 1 (omega arith) w.class;
        mode = byte_along 2 (omega arith) w.mode;
        flag = byte_along 3 (omega arith) w.flag;
        location = byte_along 4 (omega arith) w.location;
        low = byte_along 5 (omega arith) w.low;
        high = byte_along 6 (omega arith) w.high;
        link = λ t a b. encoded_link c fit' t (w.event.to a) (w.event.to b) ∙ w.link t a b ∙ sym (encoded_link s fit t a b);
      }

-- What loading ensures of a source file's contents.
sourced : (f : List ℕ) → Source f → Sourced (contents f)
unfolding contents
sourced f g = record {
  few = omega (arith, most_events_lem f g);
  head = facts.head_within f g;
  next = facts.next_within f g;
  source = λ t a b p. elim (event_says (decode f) (contents f) (facts.says f g) a ((loaded_within f g.loads).link_source t a b (holds ((decode f).link t a b) p))) [
    | initially h k ↦ inr h
    | recorded h k ↦ inl k
  ];
  target = facts.link_target f g;
}

pub translations_renumbered : (f g : List ℕ) → Renumbered f g → side f ≡ source → Renumbered (translation f) (translation g)
unfolding contents translation
translations_renumbered f g w s =
    let f-loads : Source f = record { loads = w.loads; side_is = s } in
    let g-loads : Source g = record { loads = w.loads_too; side_is = ap side_of w.renumbers.kind ∙ s } in
    record {
      loads = (translation_loads f f-loads).loads;
      loads_too = (translation_loads g g-loads).loads;
      renumbers = encoded_renumbers (translated_renumbers w.renumbers (sourced f f-loads) (sourced g g-loads)) (links_fit f f-loads) (links_fit g g-loads);
    }

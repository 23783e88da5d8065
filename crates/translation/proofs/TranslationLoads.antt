-- Every translation of a source file that loads, loads, and is related to the source as `models` asks.
use mathlib.Core.Path.{◌≡◌, refl, sym, ap, ◌∙◌}
use mathlib.Core.Bool.{true, false, not, false≢true}
use mathlib.Core.List.{List}
use mathlib.Core.Logic.{inl, inr}
use Prim.Native.Nat.{ℕ, ◌+◌, ◌*◌, ◌<◌, ◌≤◌}
use native.Mathlib.Omega.{arith}
use native.Mathlib.Decide.{dec_le}
use borrow.Author.Tests.{eq-eqb, eqb-true, le-ltb, ltb-true}
use lib.Dec.{T, eqb}
use lib.ListN.{length}
use Rattle.relation.specs.Rel.{nodes, below, inverse, some}
use Rattle.relation.proofs.Meaning.{some_sound, below_mem}
use Rattle.models.specs.Recording.{Recording, event, strong_write, member, Fisb}
use Rattle.models.specs.Loads.{Loads}
use Rattle.models.specs.Translated.{Translated}
use Rattle.models.proofs.FromTranslated.{translation_loads}
use Rattle.models.proofs.MemberLaws.{class_event, class_is, mode_class, mode_is}
use Rattle.layout.specs.Layout as layout
use Rattle.layout.specs.Layout.{Side, side_of, side, events, locations, threads, kind_known, by_side, most_in_thread, full_length, link_byte}
use Rattle.layout.specs.Chains.{thread, links_into, all_of}
use Rattle.layout.specs.Decode.{decode}
use Rattle.recording.specs.Causes.{event_legal, too_long, link_legal, link_sound, one_source, links_sound_at, paired_at, header_over, rf_legal, too_short, kind_unknown, over_limit, wrong_length, bad_event, long_thread, bad_chains, bad_link, co_ring, unpaired, refusal}
use Rattle.translation.specs.Contents.{Contents, contents}
use Rattle.translation.specs.Translate.{flagged, strong, new_events, new_flag, translated}
use Rattle.translation.specs.Encode.{links_before, links_up_to, link_record, encode}
use Rattle.translation.specs.Translation.{chip, translation}
use Rattle.translation.specs.Parts.{Source}
use Rattle.relation.proofs.Truth.{is_true, holds, is_false, by_test, and_right, and_both, or_left}
use Rattle.recording.proofs.Accepted.{accepts, each_all, legal_event}
use Rattle.translation.proofs.EncodeLaws.{encode_length, encode_full, encode_kind, encode_events, encode_locations, encode_links}
use Rattle.translation.proofs.Runs.{run_all}
use Rattle.translation.proofs.EncodedLinks.{numbered, link_byte_lem, links_at, links_at_lem, links_within, links_into_lem, links_sound_lem, on_chain, encoded_link}
use Rattle.translation.proofs.TranslateLaws as law
use Rattle.translation.proofs.TranslateLaws.{flagged_is, Linked, stays, exclusively, casdep, new_is}
use Rattle.translation.proofs.Says.{Says, Event, initially, recorded, event_says, flagged_says, encode_says}
use Rattle.translation.proofs.SourceFacts as source
use Rattle.translation.proofs.Bounds.{most_events_lem, most_links_lem, links_fit}
use Rattle.translation.proofs.LegalEvents.{legal_at, legal_says, translated_fence, fence_modes, write_flags, legal_new}
use Rattle.translation.proofs.LegalLinks as legality
use Rattle.translation.proofs.Threads.{threads_fine, thread_translated}
use Rattle.translation.proofs.Relates.{Sound, relates}

-- rf joins equal values.
legal_values : (r : Recording ℕ) (s : Side) (a b : ℕ) → link_legal r s 1 a b ≡ true → r.value a ≡ r.value b
unfolding link_legal rf_legal
legal_values r s a b p = search (and_right, eqb-true)

module _ (f : List ℕ) (s : Source f) where
  l : Loads (decode f)
  l = source.loads f s

  abbrev old : Contents
  old = contents f

  abbrev S : Recording ℕ
  S = decode f

  abbrev C : Recording ℕ
  C = decode (encode (chip f))

  old_says : Says S old
  old_says = source.says f s

  chip_few : new_events old < 56
  chip_few = omega (arith, most_events_lem f s)

  chip_says : Says C (chip f)
  unfolding translated
  chip_says = encode_says (chip f) (links_fit f s) chip_few

  old_legal : (e : ℕ) → 1 ≤ e → e ≤ old.events → legal_at layout.source (locations f) old e ≡ true
  unfolding contents
  old_legal e h g =
      ap (λ (r : Side). legal_at r (locations f) old e) (sym s.side_is) ∙ sym (legal_says f old old_says e h g) ∙ legal_event f s.loads e h g

  sound : Sound old
  unfolding contents
  sound = record {
    few = chip_few;
    next = source.next_within f s;
    target = source.link_target f s;
    rmw = λ a b e. (old_says.next a b (l.rmw a b (holds (S.link 3 a b) e)).2).4;
    fence = λ e h g. fence_modes (locations f) old e (old_legal e h g);
    write = λ e h g. write_flags (locations f) old e (old_legal e h g);
  }

  pub translated_relates : Translated S C
  translated_relates = relates S C old old_says chip_says sound

  -- Its fences are dmb ld and dmb sy, so that none is an isb.
  pub without_isb : (e : ℕ) → T (member C Fisb e) → ⊥
  without_isb e h =
      let fence = mode_class C 3 7 e h in
      let class = class_is C 3 e fence in
      let mode = mode_is C 3 7 e h in
      elim (event_says C (chip f) chip_says e (class_event C 3 e fence)) [
        | initially i j ↦ omega (arith, class, chip_says.initial_class e i)
        | recorded i g ↦ elim (translated_fence old e (sym (chip_says.class e i g) ∙ class)) [
          | inl x ↦ omega (arith, x, chip_says.mode e i g, mode)
          | inr x ↦ omega (arith, x, chip_says.mode e i g, mode)
        ]
      ]

  chip_loads : Loads C
  chip_loads = translation_loads S C l translated_relates

  -- Causes 1 to 4: the header and the length.
  few_links : links_up_to (chip f) (chip f).events ≤ 255
  few_links = omega (arith, most_links_lem f s (chip f).events)

  long_enough : too_short (encode (chip f)) ≡ false
  unfolding too_short
  long_enough = le-ltb (length (encode (chip f))) 8 (omega (arith, encode_length (chip f)))

  kind_known_lem : kind_unknown (encode (chip f)) ≡ false
  unfolding kind_unknown kind_known translated
  kind_known_lem = ap (λ (k : ℕ). not (kind_known k)) (encode_kind (chip f))

  chip_side : side (encode (chip f)) ≡ layout.chip
  unfolding side_of translated
  chip_side = ap side_of (encode_kind (chip f))

  within_limits : over_limit (encode (chip f)) ≡ false
  unfolding over_limit header_over by_side translated contents
  within_limits =
      rw (
        chip_side,
        encode_events (chip f),
        encode_locations (chip f),
        encode_links (chip f),
        le-ltb 48 (new_events old) (most_events_lem f s),
        le-ltb 8 (locations f) (source.limits f s).1,
        le-ltb 255 (links_up_to (chip f) (new_events old)) few_links,
      )

  right_length : wrong_length (encode (chip f)) ≡ false
  unfolding wrong_length
  right_length = ap not (eq-eqb (length (encode (chip f))) (full_length (encode (chip f))) (encode_full (chip f)))

  -- 5: the events.
  events_legal : bad_event (encode (chip f)) ≡ false
  unfolding bad_event translated contents
  events_legal = ap not (each_all (events (encode (chip f))) (event_legal (encode (chip f))) (λ e h g.
      legal_says (encode (chip f)) (chip f) chip_says e h (omega (arith, g, encode_events (chip f)))
      ∙ ap (λ (r : Side). legal_at r (locations (encode (chip f))) (chip f) e) chip_side ∙ ap (λ (k : ℕ). legal_at layout.chip k (chip f) e) (encode_locations (chip f))
      ∙ legal_new (locations f) old old_legal e h))

  -- 6 and 13: the threads.
  threads_short : long_thread (encode (chip f)) ≡ false
  unfolding long_thread too_long translation
  threads_short = is_false (long_thread (encode (chip f))) (λ p.
      let w = some_sound (below threads) (too_long (encode (chip f))) p in
      let room = (thread_translated f s w.0 (below_mem threads w.0 w.1)).enough in
      let over = rw chip_side at (ltb-true (most_in_thread (side (encode (chip f)))) (length (thread (encode (chip f)) w.0)) w.2) in
      omega (arith, room, over))

  -- 7: the link chains.
  chains_fine : bad_chains (encode (chip f)) ≡ false
  unfolding bad_chains
  chains_fine = ap not (links_sound_lem (chip f) (links_fit f s))

  -- 8: the links.
  small : (e : ℕ) → T (event C e) → e < 64
  unfolding translated contents
  small e h = go (event_says C (chip f) chip_says e h)
    where
      go : Event C (chip f) chip_says e → e < 64
      go (initially i g) = omega (arith, (source.limits f s).1)
      go (recorded i g) = omega (arith, chip_few)

  types : (t a b : ℕ) → T (C.link t a b) → (1 ≤ t) × (t ≤ 6)
  unfolding translated
  types t a b h = go (new_is old t a b (sym (chip_says.link t a b) ∙ is_true (C.link t a b) h)).from
    where
      go : Linked old t a b → (1 ≤ t) × (t ≤ 6)
      go (stays p q k) = (p, q)
      go (exclusively e _ _) = omega (arith, e)
      go (casdep _ e _ _) = omega (arith, e)

  same_value : (e : ℕ) → T (event S e) → C.value e ≡ S.value e
  unfolding translated
  same_value e h = go (event_says S old old_says e h)
    where
      go : Event S old old_says e → C.value e ≡ S.value e
      go (initially i _) = chip_says.initial_value e i ∙ sym (old_says.initial_value e i)
      go (recorded i g) =
          chip_says.value e i (omega (arith, law.more_events old)) ∙ ap (λ (x : ℕ). x + 256 * (chip f).high e) (law.kept old old.low 0 e g)
          ∙ ap (λ (x : ℕ). old.low e + 256 * x) (law.kept old old.high 0 e g) ∙ sym (old_says.value e i g)

  values : (a b : ℕ) → T (C.link 1 a b) → C.value a ≡ C.value b
  values a b h =
      let e = sym (translated_relates.link 1 (omega arith) (omega arith) a b) ∙ is_true (C.link 1 a b) h in
      let w = l.rf a b (holds (S.link 1 a b) e) in
      same_value a (class_event S 2 a w.0) ∙ legal_values S (side f) a b (source.legal f s 1 a b e) ∙ sym (same_value b (class_event S 1 b w.1))

  link_sound_lem : (b m : ℕ) → b ≤ (chip f).events → links_before (chip f) (512 * b) < m → m ≤ links_up_to (chip f) b → link_sound (encode (chip f)) b m ≡ true
  unfolding link_sound link_record
  link_sound_lem b m g h k =
      let fit = links_fit f s in
      let t = link_byte (encode (chip f)) m 1 in
      let a = link_byte (encode (chip f)) m 2 in
      let w = numbered (chip f) fit m (omega arith) (omega (arith, links_within (chip f) fit b g)) in
      let is = encoded_link (chip f) fit t a b ∙ on_chain (chip f) fit b m t a g h k refl refl in
      and_both (link_legal C (side (encode (chip f))) t a b) (eqb (link_byte (encode (chip f)) m 3) 0)
      (legality.legal_link C chip_loads small types values (side (encode (chip f))) t a b is)
      (eq-eqb (link_byte (encode (chip f)) m 3) 0 (link_byte_lem (chip f) fit m 3 w (omega arith)))

  links_fine : bad_link (encode (chip f)) ≡ false
  unfolding bad_link links_sound_at
  links_fine = ap not (each_all (events (encode (chip f))) (links_sound_at (encode (chip f))) (λ b h g.
      let fit = links_fit f s in
      let n : b ≤ (chip f).events = omega (arith, g, encode_events (chip f)) in
      and_both (all_of (links_into (encode (chip f)) b) (link_sound (encode (chip f)) b)) (one_source C b)
      (ap (λ (k : List ℕ). all_of k (link_sound (encode (chip f)) b)) (links_into_lem (chip f) fit b h n)
      ∙ run_all (links_before (chip f) (512 * b)) (links_at (chip f) fit b) (link_sound (encode (chip f)) b) (λ m p q. link_sound_lem b m n p (omega (arith, q, links_at_lem (chip f) fit b))))
      (legality.one_source_lem C chip_loads small types values b)))

  -- 9: co.
  no_ring : co_ring (encode (chip f)) ≡ false
  unfolding co_ring
  no_ring = legality.no_co_ring C chip_loads small types values

  -- 10: there is no strong write.
  none_strong : (e : ℕ) → strong_write C e ≡ false
  unfolding translated
  none_strong e = is_false (strong_write C e) (λ p. none (sym (flagged_says C (chip f) chip_says 2 e) ∙ p))
    where
      none : flagged (chip f) 2 e ≡ true → ⊥
      none p =
          let w = flagged_is (chip f) 2 e p in
          elim (dec_le e old.events) [
            | yes g ↦ (let c = sym (law.kept old old.class 3 e g) ∙ w.class in
                let z = sym (law.kept old (new_flag old) 0 e g) ∙ w.flag in
                elim (by_test (strong old e)) [
                  | inl x ↦ omega (arith, law.flag_strong old e x)
                  | inr x ↦ false≢true (sym x ∙ law.flagged_intro old 2 e (record { low = w.low; high = g; class = c; flag = sym (law.flag_kept old e x) ∙ z }))
                ])
            | no n ↦ omega (arith, law.made old old.class 3 e (omega (arith, n)), w.class)
          ]

  all_paired : unpaired (encode (chip f)) ≡ false
  unfolding unpaired paired_at
  all_paired = ap not (each_all (events (encode (chip f))) (paired_at (encode (chip f))) (λ e h g.
      or_left (not (strong_write C e)) (some nodes (inverse (C.link 3) e)) (ap not (none_strong e))))

  pub translation_accepted : refusal (translation f) ≡ 0
  unfolding translation
  translation_accepted =
      accepts (encode (chip f)) (record {
        cause1 = long_enough;
        cause2 = kind_known_lem;
        cause3 = within_limits;
        cause4 = right_length;
        cause5 = events_legal;
        cause6 = threads_fine f s;
        cause13 = threads_short;
        cause7 = chains_fine;
        cause8 = links_fine;
        cause9 = no_ring;
        cause10 = all_paired;
      })

  pub translation_side : side (translation f) ≡ layout.chip
  unfolding translation
  translation_side = chip_side

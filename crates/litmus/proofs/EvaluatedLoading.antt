-- A test of loading that can be evaluated. Causes 8 and 9 close `next` and `co` over 64 numbers, at a cost that doubles with each;
-- here they are closed over the records, and the sources of a read are sought among its links. A file that passes loads.
use mathlib.Core.Path.{◌≡◌, refl, sym, ap, fun_ext, ◌∙◌}
use mathlib.Core.Bool.{Bool, true, false, not, ◌&&◌, false≢true}
use mathlib.Core.List.{List, [], ◌∷◌, Memᴰ}
use Prim.Native.Nat.{ℕ, ◌<◌}
use native.Mathlib.Omega.{arith}
use native.Mathlib.Decide.{ℕ_discrete}
use borrow.Author.Tests.{eqb-true, ne_eqb, not-false}
use lib.Dec.{T, eqb}
use lib.ListN.{get_or}
use Rattle.relation.specs.Rel.{Set, Rel, union, either, diagonal, some, image, compose, through, plus, inverse, optional, below, nodes}
use Rattle.relation.proofs.Meaning.{some_sound, some_complete, mem_below}
use Rattle.models.specs.Recording.{Recording, read, write, access, exclusive_read, co_step, event, of_class, flagged, same_location}
use Rattle.models.specs.Steps.{Plus, one, cons}
use Rattle.models.specs.Graph.{base}
use Rattle.models.proofs.Tests.{some_intro, some_witness, plus_steps, Tests, plus_tests}
use Rattle.models.proofs.MemberLaws.{step_cases, CoStep, linked, initially}
use Rattle.models.specs.Rules.{Numbered, first}
use Rattle.models.proofs.FirstLaws.{positive, test_of, first_fails}
use Rattle.layout.specs.Layout.{Side, side_of, side, events, kind_known, by_side, link_byte}
use Rattle.layout.specs.Chains.{each, links_into, among, follow, met, fresh, once_each, next_of, start_of, all_of}
use Rattle.layout.specs.Decode.{is_recorded, is_initial, record_or, field_or, decode}
use Rattle.recording.specs.Causes.{read_legal, write_legal, fence_mode, fence_legal, legal, event_legal, header_over, same_locations, rf_legal, co_legal, rmw_legal, from_read, data_legal, addr_legal, ctrl_legal, casdep_legal, link_legal, link_sound, one_source, links_sound_at, paired_at, too_short, kind_unknown, over_limit, wrong_length, bad_event, too_long, bad_threads, long_thread, bad_chains, bad_link, co_ring, unpaired, refusal}
use Rattle.relation.proofs.Truth.{is_true, holds, is_false, and_left, and_right, and_both, T_ext}
use Rattle.layout.proofs.FieldLaws.{recorded_bounds, most_events_48}
use Rattle.layout.proofs.ChainLaws.{each_at}
use Rattle.recording.proofs.CauseLaws.{limits}
use Rattle.recording.proofs.Accepted.{accepts, each_all}
use Rattle.translation.proofs.LegalLinks.{one_source_by_lem}
use Rattle.litmus.proofs.Recorded.{event_list, recorded_listed}

-- One or more steps, over two lists that hold all that r joins.
plus_relist : (es fs : List ℕ) (s : Set) (r : Rel) → ((e : ℕ) → T (s e) → Memᴰ e es) → ((e : ℕ) → T (s e) → Memᴰ e fs)
    → ((a b : ℕ) → T (r a b) → T (s a)) → ((a b : ℕ) → T (r a b) → T (s b)) → plus es r ≡ plus fs r
plus_relist es fs s r u v source target =
    let t : Tests s r (λ a b. T (r a b)) = record { to = λ i j h. h; from = λ i j h. h; source = source; target = target } in
    fun_ext λ i. fun_ext λ j. T_ext (plus es r i j) (plus fs r i j)
    (λ h. (plus_tests fs s v t).from i j ((plus_tests es s u t).to i j h)) (λ h. (plus_tests es s u t).from i j ((plus_tests fs s v t).to i j h))

-- The conditions of a link, with program order as a parameter.
module _ (r : Recording ℕ) (po : Rel) where
  unfoldable pub from_read_by : ℕ → ℕ → Bool
  from_read_by a b = read r a && po a b

  unfoldable pub link_legal_by : Side → ℕ → ℕ → ℕ → Bool
  link_legal_by s t a b =
      get_or
      (false ∷ rf_legal r a b ∷ co_legal r a b ∷ rmw_legal r a b
      ∷ (from_read_by a b && write r b)
      ∷ (from_read_by a b && access r b)
      ∷ from_read_by a b
      ∷ (from_read_by a b && (s && exclusive_read r b))
      ∷ [])
      t false

link_legal_by_lem : (r : Recording ℕ) (s : Side) (t a b : ℕ) → link_legal r s t a b ≡ link_legal_by r (base nodes r).po s t a b
unfolding link_legal data_legal addr_legal ctrl_legal casdep_legal from_read link_legal_by from_read_by
link_legal_by_lem r s t a b = refl

module _ (f : List ℕ) where
  -- The records.
  abbrev records : List ℕ
  records = event_list (events f) 0

  -- Cause 8.
  unfoldable pub two_sources : ℕ → ℕ → Bool
  two_sources m n = (eqb (link_byte f m 1) 1 && eqb (link_byte f n 1) 1) && not (eqb (link_byte f m 2) (link_byte f n 2))

  unfoldable pub one_source_by : ℕ → Bool
  one_source_by b = not (some (links_into f b) (λ m. some (links_into f b) (two_sources m)))

  unfoldable pub link_sound_by : ℕ → ℕ → Bool
  link_sound_by b m = link_legal_by (decode f) (base (event_list (events f) 0) (decode f)).po (side f) (link_byte f m 1) (link_byte f m 2) b && eqb (link_byte f m 3) 0

  unfoldable pub links_sound_by : ℕ → Bool
  links_sound_by b = all_of (links_into f b) (link_sound_by b) && one_source_by b

  -- Cause 9: a ring of co passes records alone.
  unfoldable pub co_between : Rel
  co_between a b = is_recorded f a && co_step (decode f) a b

  unfoldable pub co_ring_by : Bool
  co_ring_by = some (event_list (events f) 0) (diagonal (plus (event_list (events f) 0) co_between))

  -- The causes. To unfold it is to unfold all that it computes with.
  unfoldable pub evaluated : List Numbered
  unfolding event_list from_read_by link_legal_by two_sources one_source_by link_sound_by links_sound_by co_between co_ring_by union either diagonal some image compose through plus inverse optional below of_class flagged access event same_location co_step base side_of kind_known by_side each among follow met fresh once_each next_of start_of is_recorded is_initial record_or field_or decode read_legal write_legal fence_mode fence_legal legal event_legal header_over same_locations rf_legal co_legal rmw_legal all_of paired_at too_short kind_unknown over_limit wrong_length bad_event bad_threads too_long long_thread bad_chains unpaired
  evaluated =
      (1, too_short f) ∷ (2, kind_unknown f) ∷ (3, over_limit f) ∷ (4, wrong_length f)
      ∷ (5, bad_event f) ∷ (6, bad_threads f) ∷ (13, long_thread f) ∷ (7, bad_chains f)
      ∷ (8, not (each (events f) links_sound_by)) ∷ (9, co_ring_by) ∷ (10, unpaired f)
      ∷ []

  -- A file that passes.
  recorded_in : (e : ℕ) → T ((decode f).recorded e) → Memᴰ e records
  unfolding decode
  recorded_in e h = (let w = recorded_bounds f e (is_true (is_recorded f e) h) in recorded_listed (events f) 0 e w.0 w.1)

  module _ (few : events f < 64) where
    recorded_node : (e : ℕ) → T ((decode f).recorded e) → Memᴰ e nodes
    unfolding decode
    recorded_node e h = (let w = recorded_bounds f e (is_true (is_recorded f e) h) in mem_below 64 e (omega (arith, w.1)))

    next_from : (a b : ℕ) → T ((decode f).next a b) → T ((decode f).recorded a)
    unfolding decode
    next_from a b h = search (holds, is_true, and_left, and_right)

    next_to : (a b : ℕ) → T ((decode f).next a b) → T ((decode f).recorded b)
    unfolding decode
    next_to a b h = search (holds, is_true, and_left, and_right)

    po_same : (base nodes (decode f)).po ≡ (base records (decode f)).po
    unfolding base
    po_same =
        ap (either (λ a b. (decode f).initial a && (decode f).recorded b))
        (plus_relist nodes records (decode f).recorded (decode f).next recorded_node recorded_in next_from next_to)

    link_sound_lem : (b m : ℕ) → link_sound f b m ≡ link_sound_by b m
    unfolding link_sound link_sound_by
    link_sound_lem b m =
        let t = link_byte f m 1 in
        let a = link_byte f m 2 in
        ap (λ (x : Bool). x && eqb (link_byte f m 3) 0)
        (link_legal_by_lem (decode f) (side f) t a b ∙ ap (λ (po : Rel). link_legal_by (decode f) po (side f) t a b) po_same)

    -- A link of type 1 is a record of the chain.
    link_in : (a b : ℕ) → (decode f).link 1 a b ≡ true → (m : ℕ) × Memᴰ m (links_into f b) × (link_byte f m 1 ≡ 1) × (link_byte f m 2 ≡ a)
    unfolding decode
    link_in a b p =
        let (m, i, e) = some_sound (links_into f b) (λ m. eqb (link_byte f m 1) 1 && eqb (link_byte f m 2) a) (search and_right) in
        (m, i, search (and_left, eqb-true), search (and_right, eqb-true))

    one_source_lem : (b : ℕ) → one_source_by b ≡ true → one_source (decode f) b ≡ true
    unfolding one_source_by two_sources
    one_source_lem b q = one_source_by_lem (decode f) b (λ a c p r. elim (ℕ_discrete a c) [
      | yes e ↦ e
      | no d ↦ (let ms = links_into f b in
          let (m, i, t, s) = link_in a b p in
          let (n, j, u, v) = link_in c b r in
          let found : two_sources m n ≡ true = rw (t, u, s, v) (ap not (ne_eqb a c d)) in
          absurd (false≢true (sym (ap not (some_complete ms (λ k. some ms (two_sources k)) m i (some_complete ms (two_sources m) n j found))) ∙ q)))
    ])

    links_sound_lem : each (events f) links_sound_by ≡ true → bad_link f ≡ false
    unfolding bad_link links_sound_at links_sound_by
    links_sound_lem q = ap not (each_all (events f) (links_sound_at f) (λ b h g.
        let at = each_at (events f) links_sound_by q b h g in
        and_both (all_of (links_into f b) (link_sound f b)) (one_source (decode f) b)
        (ap (all_of (links_into f b)) (fun_ext (link_sound_lem b)) ∙ search and_left) (one_source_lem b (search and_right))))

  co_target : (a b : ℕ) → T (co_step (decode f) a b) → is_recorded f b ≡ true
  unfolding decode
  co_target a b h = go (step_cases (decode f) a b h)
    where
      go : CoStep (decode f) a b → is_recorded f b ≡ true
      go (linked l) = search (is_true, and_left)
      go (initially i c x l) = is_true (is_recorded f b) c

  co_last : {a b : ℕ} → Plus (λ x y. T (co_step (decode f) x y)) a b → is_recorded f b ≡ true
  co_last (one {a = a} {b = b} h) = co_target a b h
  co_last (cons h p) = co_last p

  between : {a b : ℕ} → is_recorded f a ≡ true → Plus (λ x y. T (co_step (decode f) x y)) a b → Plus (λ x y. T (co_between x y)) a b
  unfolding co_between
  between q (one {a = a} {b = b} h) = one {a = a} {b = b} (search (holds, and_both, is_true))
  between q (cons {a = a} {b = b} h p) = cons {a = a} {b = b} (search (holds, and_both, is_true)) (between (co_target a b h) p)

  between_tests : Tests (decode f).recorded co_between (λ a b. T (co_between a b))
  unfolding co_between decode
  between_tests = record {
    to = λ i j h. h;
    from = λ i j h. h;
    source = λ i j h. search (holds, is_true, and_left);
    target = λ i j h. holds (is_recorded f j) (co_target i j (holds _ (and_right (is_recorded f i) (co_step (decode f) i j) (is_true _ h))));
  }

  co_acyclic : co_ring_by ≡ false → co_ring f ≡ false
  unfolding co_ring co_ring_by base diagonal decode
  co_acyclic q = is_false (co_ring f) (λ p.
      let w = some_witness nodes (diagonal (base nodes (decode f)).co) (holds _ p) in
      let x = w.0 in
      let ring = plus_steps nodes (co_step (decode f)) x x w.1 in
      let r = co_last ring in
      let found = (plus_tests records (decode f).recorded recorded_in between_tests).from x x (between r ring) in
      false≢true (sym q ∙ is_true _ (some_intro records (diagonal (plus records co_between)) (recorded_in x (holds _ r)) found)))

  pub passes_loads : first evaluated ≡ 0 → refusal f ≡ 0
  unfolding evaluated positive test_of
  passes_loads e =
      let p : (k : ℕ) → test_of evaluated k ≡ false = first_fails evaluated refl e in
      let few : events f < 64 = omega (arith, (limits f (p 3)).0, most_events_48 (side f)) in
      accepts f (record {
        cause1 = p 1;
        cause2 = p 2;
        cause3 = p 3;
        cause4 = p 4;
        cause5 = p 5;
        cause6 = p 6;
        cause13 = p 13;
        cause7 = p 7;
        cause8 = links_sound_lem few (not-false _ (p 8));
        cause9 = co_acyclic (p 9);
        cause10 = p 10;
      })

-- Laws of the functions over links: the rows of their sources, and how many there are.
use mathlib.Core.Path.{◌≡◌, refl, sym, ap, ap₂, subst, ◌∙◌, fun_ext}
use mathlib.Core.Bool.{Bool, true, false, ◌&&◌, ◌||◌, or-false, and-false}
use mathlib.Core.List.{List, []}
use Prim.Native.Nat.{ℕ, zero, suc, ◌+◌, ◌*◌, ◌<◌, ◌≤◌}
use native.Mathlib.Numerals.{add-one}
use native.Mathlib.Omega.{arith}
use native.Mathlib.Decide.{ℕ_discrete}
use borrow.Author.Tests.{le-leb, ne_eqb}
use lib.Dec.{eqb, leb}
use lib.ListN.{length, get_or, set, replicate, length-set}
use lib.Seq.{get_or-set_same, get_or-set_other}
use Rattle.relation.specs.Rel.{Set, Rel, empty, single, union, intersection, either, inverse, some, image, compose, count, nodes}
use Rattle.relation.specs.Bits.{bit}
use Rattle.models.specs.Recording as recording
use Rattle.layout.specs.Layout.{events, event_byte}
use Rattle.layout.specs.Decode.{is_recorded, decode}
use Rattle.reading.specs.Sets.{SourcesInto}
use Rattle.reading.specs.Readable.{Readable}
use Rattle.relation.proofs.Truth.{is_false, same_test, and_left, and_right, and_both}
use Rattle.layout.proofs.FieldLaws.{recorded_bounds, next_first}
use Rattle.recording.proofs.Loaded.{loaded_readable}
use Rattle.translation.specs.Contents.{Contents, contents}
use Rattle.translation.specs.Translate.{new_events, after, follows, controlled, from_exclusive, from_casdep, new_link, translated}
use Rattle.translation.specs.Encode.{is_link, links_before, links_up_to}
use Rattle.translation.specs.Translation.{chip}
use Rattle.translation.specs.Parts.{Source, NewEvent, RowsInto, Ends, recorded_follows, ctrl_into}
use Rattle.relation.proofs.Counting.{count_add, count_same, count_mono}
use Rattle.translation.proofs.TranslateLaws as law
use Rattle.translation.proofs.TranslateLaws.{flagged_is}
use Rattle.translation.proofs.EncodedLinks.{link_number, none_into_zero}
use Rattle.translation.proofs.SourceFacts.{limits, link_target, flagged_decoded}
use Rattle.translation.proofs.Bounds.{links_fit, most_links_lem}

-- Whether an exclusive read r has both rmw and data to the event w directly after it.
pub record Pair (f : List ℕ) (r w : ℕ) (both : Bool) : Type 0 where
  pub next : w ≡ (contents f).next r
  pub test : both ≡ (contents f).link 3 r w && (contents f).link 4 r w

-- A row with one event where a test holds, and with none where it does not.
pub row_none : {b : Bool} {r : Set} (x : ℕ) → b ≡ false → r ≡ empty → r ≡ (λ j. b && eqb x j)
unfolding empty
row_none x p n = n ∙ fun_ext (λ j. ap (λ (c : Bool). c && eqb x j) (sym p))

pub row_one : {x y : ℕ} {b : Bool} {r u : Set} → b ≡ true → r ≡ empty → u ≡ union r (single x) → x ≡ y → u ≡ (λ j. b && eqb y j)
unfolding empty union single
row_one {x} p n m c =
    m ∙ fun_ext (λ j. ap (λ (r : Set). r j || eqb x j) n ∙ ap₂ (λ (b : Bool) (z : ℕ). b && eqb z j) (sym p) c)

module _ (f : List ℕ) (s : Source f) where
  pub readable : Readable f
  readable = loaded_readable f s.loads

  pub pair_is : {r w : ℕ} {p q u : Set} {x : Bool} → w ≡ event_byte f r 0 → p ≡ inverse ((decode f).link 3) w → q ≡ inverse ((decode f).link 4) w
      → u ≡ intersection p q → x ≡ u r → Pair f r w x
  unfolding contents inverse intersection
  pair_is {r} e a b d k = record { next = e ∙ next_first f r; test = k ∙ ap (λ (t : Set). t r) d ∙ ap₂ (λ (v z : Set). v r && z r) a b }

  module _ {r w : ℕ} {x : Bool} (pair : Pair f r w x) where
    pub pair_new : x ≡ true → NewEvent (contents f) w
    unfolding contents
    pair_new y =
        let both = sym pair.test ∙ y in
        let t = link_target f s 3 r w (search and_left) in
        record { low = t.0; high = omega (arith, t, law.more_events (contents f)) }

    pub pair_controls : x ≡ true → (z : ℕ) → z ≡ after (contents f) w → z ≡ controlled (contents f) r
    pair_controls y z g =
        let both : (contents f).link 3 r ((contents f).next r) && (contents f).link 4 r ((contents f).next r) ≡ true = rw (← pair.next) (sym pair.test ∙ y) in
        cc (pair.next, law.controlled_pair (contents f) r (search and_left) (search and_right))

    pub read_controls : x ≡ false → (z : ℕ) → z ≡ after (contents f) r → z ≡ controlled (contents f) r
    read_controls y z g = g ∙ sym (law.controlled_read (contents f) r (rw (← pair.next) (sym pair.test ∙ y)))

  pub old_new : (e : ℕ) → 1 ≤ e → e ≤ events f → NewEvent (contents f) e
  unfolding contents
  old_new e h g = record { low = h; high = omega (arith, law.more_events (contents f)) }

  -- The row of an exclusive read and of a recorded event, each with the one event that its added ctrl links go to.
  pub exclusive_row : (e : ℕ) {b : Bool} → b ≡ recording.flagged (decode f) 1 e
      → (λ j. b && eqb (controlled (contents f) e) j) ≡ from_exclusive (contents f) e
  unfolding from_exclusive
  exclusive_row e p = fun_ext (λ j. ap (λ (b : Bool). b && eqb (controlled (contents f) e) j) (p ∙ flagged_decoded f s 1 e))

  pub following_row : (e : ℕ) {b : Bool} → b ≡ is_recorded f e → (λ j. b && eqb (after (contents f) e) j) ≡ recorded_follows (contents f) e
  unfolding recorded_follows follows contents is_recorded
  following_row e p = fun_ext (λ j. ap (λ (b : Bool). b && eqb (after (contents f) e) j) p)

  pub exclusive_bounds : (e : ℕ) → recording.flagged (decode f) 1 e ≡ true → (1 ≤ e) × (e ≤ events f)
  unfolding contents
  exclusive_bounds e p = (let w = flagged_is (contents f) 1 e (sym (flagged_decoded f s 1 e) ∙ p) in (w.low, w.high))

  pub exclusive_out : (e : ℕ) → 64 ≤ e → from_exclusive (contents f) e ≡ empty
  exclusive_out e h = sym (row_none _ (is_false (recording.flagged (decode f) 1 e) (λ p. omega (arith, exclusive_bounds e p, (limits f s).0))) refl ∙ exclusive_row e refl)

  pub following_out : (e : ℕ) → 64 ≤ e → recorded_follows (contents f) e ≡ empty
  following_out e h = sym (row_none _ (is_false (is_recorded f e) (λ p. omega (arith, recorded_bounds f e p, (limits f s).0))) refl ∙ following_row e refl)

  -- All ctrl links.
  casdep_links : compose nodes ((decode f).link 7) (recorded_follows (contents f)) ≡ from_casdep (contents f)
  unfolding from_casdep compose image recorded_follows contents
  casdep_links = fun_ext (λ a. fun_ext (λ b. ap (some nodes) (fun_ext (λ e. same_test _ _ (λ p. search (and_both, and_left, and_right)) (λ p.
      let t = link_target f s 7 a e (search and_left) in search (and_both, and_left, and_right, le-leb))))))

  pub ctrl_is : inverse (either ((decode f).link 6) (either (from_exclusive (contents f)) (compose nodes ((decode f).link 7) (recorded_follows (contents f)))))
      ≡ ctrl_into (contents f)
  unfolding ctrl_into contents recorded_follows
  ctrl_is = ap (λ (r : Rel). inverse (either ((decode f).link 6) (either (from_exclusive (contents f)) r))) casdep_links

  -- The sources of the links of one type into one event.
  in_range : (b : ℕ) → NewEvent (contents f) b → (leb 1 b && leb b (new_events (contents f))) ≡ true
  in_range b n = search (and_both, le-leb)

  sources_ctrl : (b : ℕ) → NewEvent (contents f) b → ctrl_into (contents f) b ≡ inverse (new_link (contents f) 6) b
  unfolding ctrl_into inverse either union new_link
  sources_ctrl b n = fun_ext (λ a. sym (simp (in_range b n)))

  sources_none : (b : ℕ) → (empty ≡ inverse (new_link (contents f) 0) b) × (empty ≡ inverse (new_link (contents f) 7) b)
  unfolding inverse new_link empty
  sources_none b = (fun_ext (λ a. simp and-false), fun_ext (λ a. simp and-false))

  sources_kept : (b t : ℕ) → NewEvent (contents f) b → 1 ≤ t → t < 6 → inverse ((decode f).link t) b ≡ inverse (new_link (contents f) t) b
  unfolding inverse new_link contents
  sources_kept b t n h g = fun_ext (λ a. sym (simp (in_range b n, le-leb 1 t h, le-leb t 6 (omega arith), ne_eqb t 6 (λ e. omega arith), or-false)))

  -- The rows of sources, by type.
  pub rows_into : {b : ℕ} {g : Rel} {h : List (List ℕ)} (z x y : List ℕ) → NewEvent (contents f) b → SourcesInto f b h → g ≡ ctrl_into (contents f)
      → bit z ≡ empty → bit x ≡ g b → bit y ≡ empty → RowsInto (contents f) b (set (set (set h 0 z) 6 x) 7 y)
  rows_into {b} {g} {h} z x y n into p pz px py =
      let long = length-set h 0 z ∙ into.long in
      let none = sources_none b in
      record {
        row = λ t k. put (set (set h 0 z) 6 x) 7 y t (omega (arith, length-set (set h 0 z) 6 x ∙ long)) (py ∙ none.1) (λ d.
            put (set h 0 z) 6 x t (omega (arith, long)) (px ∙ ap (λ (r : Rel). r b) p ∙ sources_ctrl b n) (λ d'.
            put h 0 z t (omega (arith, into.long)) (pz ∙ none.0) (λ d''. into.row t k ∙ sources_kept b t n (omega (arith, d'')) (omega (arith, d, d')))));
      }
    where
      put : (l : List (List ℕ)) (i : ℕ) (v : List ℕ) (t : ℕ) → i < length l → bit v ≡ inverse (new_link (contents f) i) b
          → ((t ≡ i → ⊥) → bit (get_or l t []) ≡ inverse (new_link (contents f) t) b) → bit (get_or (set l i v) t []) ≡ inverse (new_link (contents f) t) b
      put l i v t h e other = elim (ℕ_discrete t i) [
        | yes p ↦ rw p (ap bit (get_or-set_same l i v [] h) ∙ e)
        | no d ↦ ap bit (get_or-set_other l i t v [] d) ∙ other d
      ]

-- The links before a type's row, and those of the row.
pub count_row : (s : Contents) (b t : ℕ) (row : Set) → t < 8 → row ≡ inverse (new_link s t) b
    → links_before (translated s) (512 * b + 64 * (t + 1)) ≡ links_before (translated s) (512 * b + 64 * t) + count 64 row
unfolding translated inverse
count_row s b t row h e =
    let k = 512 * b + 64 * t in
    let place : 512 * b + 64 * (t + 1) ≡ k + 64 = omega arith in
    ap (λ (x : ℕ). links_before (translated s) x) place ∙ count_add k 64 (is_link (translated s))
    ∙ ap (λ (x : ℕ). links_before (translated s) k + x)
    (count_same 64 (λ a. is_link (translated s) (k + a)) row (λ a g. link_number (translated s) t a b h g ∙ sym (ap (λ (r : Set). r a) e)))

-- The links into smaller events and, of those into b, of types below t, are counted.
pub record LinksCounted (f : List ℕ) (b t m : ℕ) : Type 0 where
  pub source : Source f
  pub same : m ≡ links_before (chip f) (512 * b + 64 * t)

module _ (f : List ℕ) (b : ℕ) where
  pub links_start : Source f → (n : ℕ) → n ≡ links_before (chip f) (512 * b) → LinksCounted f b 0 n
  links_start r n p =
      let place : 512 * b ≡ 512 * b + 64 * 0 = omega arith in
      record { source = r; same = p ∙ ap (λ (x : ℕ). links_before (chip f) x) place }

  pub links_more : (t m x : ℕ) (row : Set) → LinksCounted f b t m → t < 8 → row ≡ inverse (new_link (contents f) t) b → x ≡ count 64 row → LinksCounted f b (t + 1) (m + x)
  links_more t m x row w h e p =
      record { source = w.source; same = ap₂ ◌+◌ w.same p ∙ sym (count_row (contents f) b t row h e) }

  -- They are few.
  pub links_few : (t m : ℕ) → LinksCounted f b t m → t ≤ 8 → m ≤ 232
  links_few t m w h =
      omega (arith, w.same, count_mono (512 * b + 64 * t) (512 * suc b) (is_link (chip f)) (omega arith), most_links_lem f w.source b)

  pub links_all : (t m : ℕ) → LinksCounted f b t m → t ≡ 8 → (m ≡ links_up_to (chip f) b) × (m ≤ 232)
  links_all t m w e =
      let place : 512 * b + 64 * t ≡ 512 * suc b = omega arith in
      (w.same ∙ ap (λ (x : ℕ). links_before (chip f) x) place, links_few t m w (omega arith))

-- The links into events below b are counted.
pub record EventsCounted (f : List ℕ) (n b m : ℕ) : Type 0 where
  pub source : Source f
  pub events : n ≡ new_events (contents f)
  pub low : 1 ≤ b
  pub same : m ≡ links_before (chip f) (512 * b)

module _ (f : List ℕ) (n : ℕ) where
  pub events_start : Source f → n ≡ new_events (contents f) → EventsCounted f n 1 0
  events_start r e = record { source = r; events = e; low = omega arith; same = sym (none_into_zero (chip f) (links_fit f r)) }

  pub event_counted : (b m : ℕ) → EventsCounted f n b m → b ≤ n → NewEvent (contents f) b
  event_counted b m w h = record { low = w.low; high = omega (arith, w.events) }

  pub events_more : (b m x : ℕ) → EventsCounted f n b m → x ≡ links_up_to (chip f) b → EventsCounted f n (suc b) x
  events_more b m x w e = record { source = w.source; events = w.events; low = omega arith; same = e }

  -- The counts that stand in the array.
  pub record Ending (b m : ℕ) (at : List ℕ) : Type 0 where
    pub counted : EventsCounted f n b m
    pub long : length at ≡ 64
    pub upto : (k : ℕ) → k < b → get_or at k 0 ≡ links_up_to (chip f) k

  pub ending_start : Source f → n ≡ new_events (contents f) → Ending 1 0 (replicate 64 0)
  ending_start r e =
      let c = events_start r e in
      record { counted = c; long = refl; upto = λ k h. first k h c.same }
    where
      first : (k : ℕ) → k < 1 → 0 ≡ links_before (chip f) (512 * 1) → get_or {A = ℕ} (replicate 64 0) k 0 ≡ links_up_to (chip f) k
      first zero h p = p
      first (suc k) h p = absurd (omega arith)

  pub ending_more : (b m x : ℕ) (at : List ℕ) → Ending b m at → b < 64 → x ≡ links_up_to (chip f) b → Ending (b + 1) x (set at b x)
  ending_more b m x at w h e =
      record {
        counted = rw (add-one b) (events_more b m x w.counted e);
        long = length-set at b x ∙ w.long;
        upto = λ k g. elim (ℕ_discrete b k) [
          | yes p ↦ subst (λ (i : ℕ). get_or (set at b x) i 0 ≡ links_up_to (chip f) i) p (get_or-set_same at b x 0 (omega (arith, w.long)) ∙ e)
          | no d ↦ get_or-set_other at b k x 0 (λ q. d (sym q)) ∙ w.upto k (omega (arith, d))
        ];
      }

  pub ending_all : (b m : ℕ) (at : List ℕ) → Ending b m at → n < b → Ends f n at
  ending_all b m at w h = record { upto = λ k g. w.upto k (omega arith) }

  pub ends_few : Source f → (at : List ℕ) (b : ℕ) → Ends f n at → b ≤ n → get_or at b 0 ≤ 232
  ends_few s at b w h = omega (arith, w.upto b h, most_links_lem f s b)

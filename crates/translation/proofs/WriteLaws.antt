-- Laws of the writers: records written one after the other.
use mathlib.Core.Path.{◌≡◌, refl, sym, ap, ap₂, subst, ◌∙◌}
use mathlib.Core.List.{List, [], ◌∷◌, ◌++◌}
use Prim.Native.Nat.{ℕ, suc, ◌+◌, ◌*◌, ◌/◌, ◌%◌, ◌<◌, ◌≤◌}
use native.Mathlib.Numerals.{add-one}
use native.Mathlib.Nat.{add_assoc}
use native.Mathlib.Omega.{arith}
use borrow.Author.Tests.{le-leb}
use lib.Dec.{leb}
use lib.ListN.{length, length-append}
use Rattle.relation.specs.Rel.{Set, inverse, count, members}
use Rattle.relation.proofs.MemberLaws.{Left, left_all, First, left_next, left_none}
use Rattle.output.specs.Output.{placed}
use Rattle.output.proofs.OutputLaws.{Placing, placing_none, placing_more}
use Rattle.translation.specs.Contents.{Contents, contents}
use Rattle.translation.specs.Translate.{new_events, new_link, translated}
use Rattle.translation.specs.Encode.{chained, records, is_link, links_before, links_up_to, event_record, link_record, event_records, link_records}
use Rattle.translation.specs.Translation.{chip}
use Rattle.translation.specs.Parts.{Source, row_record, link_stretch}
use Rattle.relation.proofs.Counting.{count_next_yes, count_le, count_mono, count_none, count_lt, count_add, count_same}
use Rattle.translation.proofs.RecordLaws.{records_yes, records_none, records_length, records_add, records_same}
use Rattle.translation.proofs.EncodeLaws.{event_size_lem, link_size_lem, events_length, links_length}
use Rattle.translation.proofs.EncodedLinks.{digits, link_number, none_into_zero}
use Rattle.translation.proofs.Bounds.{links_fit, most_links_lem}
use Rattle.translation.proofs.LinkRows.{LinksCounted, links_start, links_more, links_all, EventsCounted, events_start, events_more, count_row}

-- The records of events below e stand in the output from a place on, and there is room for those of all n.
pub record RecordsWritten (f : List ℕ) (n : ℕ) (out₀ : List ℕ) (at : ℕ) (bytes : ℕ → List ℕ) (e m : ℕ) (out : List ℕ) : Type 0 where
  pub counted : EventsCounted f n e m
  pub room : at + length (bytes (suc n)) ≤ length out₀
  pub placing : Placing out₀ at (bytes e) out

module _ {f : List ℕ} {n : ℕ} {out₀ : List ℕ} {at : ℕ} {bytes : ℕ → List ℕ} where
  pub written_none : Source f → n ≡ new_events (contents f) → bytes 1 ≡ [] → at + length (bytes (suc n)) ≤ length out₀
      → RecordsWritten f n out₀ at bytes 1 0 out₀
  written_none s e none h = record { counted = events_start f n s e; room = h; placing = placing_none out₀ at (bytes 1) none (omega arith) }

  written_more : {e m last place : ℕ} {out more : List ℕ} (y : List ℕ) → RecordsWritten f n out₀ at bytes e m out → last ≡ links_up_to (chip f) e
      → bytes e ++ y ≡ bytes (suc e) → at + length (bytes e) ≡ place → length (bytes (suc e)) ≤ length (bytes (suc n)) → more ≡ placed out place y
      → RecordsWritten f n out₀ at bytes (e + 1) last more
  written_more {e} {m} {last} y w p q h g r =
      rw (add-one e) (record {
        counted = events_more f n e m last w.counted p;
        room = w.room;
        placing = placing_more y w.placing h r q (omega (arith, w.room));
      })

  pub written_all : {e m : ℕ} {out : List ℕ} → RecordsWritten f n out₀ at bytes e m out → n + 1 ≡ e → out ≡ placed out₀ at (bytes (suc n))
  written_all w p = w.placing.done ∙ ap (λ (x : ℕ). placed out₀ at (bytes x)) (sym p ∙ add-one n)

-- The records of the links into events below b.
abbrev pub links_below : Contents → ℕ → List ℕ
links_below c b = link_records c (512 * b)

module _ {f : List ℕ} {n : ℕ} {out₀ : List ℕ} where
  -- Event records, behind the header.
  pub events_none : Source f → n ≡ new_events (contents f) → 8 + 8 * n ≤ length out₀ → RecordsWritten f n out₀ 8 (event_records (chip f)) 1 0 out₀
  unfolding event_records records
  events_none s e h = written_none s e refl (omega (arith, events_length (chip f) n))

  pub event_room : {e m : ℕ} {out : List ℕ} → RecordsWritten f n out₀ 8 (event_records (chip f)) e m out → e ≤ n → 8 * e + 8 ≤ length out
  event_room w h = omega (arith, w.room, w.placing.long, events_length (chip f) n)

  pub event_written : {e m last : ℕ} {out bytes more : List ℕ} → RecordsWritten f n out₀ 8 (event_records (chip f)) e m out → e ≤ n
      → last ≡ links_up_to (chip f) e → bytes ≡ event_record (chip f) e → more ≡ placed out (8 * e) bytes
      → RecordsWritten f n out₀ 8 (event_records (chip f)) (e + 1) last more
  unfolding event_records
  event_written {e} {out = out} w h p q r =
      let c = chip f in
      let one = event_record c e in
      let next : event_records c (suc e) ≡ event_records c e ++ one = records_yes (event_record c) (leb 1) e (le-leb 1 e w.counted.low) in
      let size = ap length next ∙ length-append (event_records c e) one in
      written_more one w p (sym next) (omega (arith, size, event_size_lem c e, events_length c e)) (omega (arith, events_length c e, events_length c n))
      (r ∙ ap (placed out (8 * e)) q)

  -- Link records, at the start of their part.
  pub links_none : Source f → n ≡ new_events (contents f) → 4 * links_up_to (chip f) n ≤ length out₀ → RecordsWritten f n out₀ 0 (links_below (chip f)) 1 0 out₀
  links_none s e h =
      let c = chip f in
      let empty : link_records c 512 ≡ [] = no_bytes (link_records c 512) (links_length c 512 ∙ omega (arith, none_into_zero c (links_fit f s))) in
      written_none s e empty (omega (arith, links_length c (512 * suc n)))
    where
      no_bytes : (l : List ℕ) → length l ≡ 0 → l ≡ []
      no_bytes [] e = refl
      no_bytes (x ∷ l) e = absurd (omega arith)

  module _ {b m : ℕ} {part : List ℕ} (w : RecordsWritten f n out₀ 0 (links_below (chip f)) b m part) (h : b ≤ n) where
    links_within : links_up_to (chip f) b ≤ links_up_to (chip f) n
    links_within = count_mono (512 * suc b) (512 * suc n) (is_link (chip f)) (omega arith)

    pub links_room : 4 * links_up_to (chip f) b ≤ length part
    links_room = omega (arith, links_within, w.room, links_length (chip f) (512 * suc n), w.placing.long)

    pub links_written : {x : ℕ} {more : List ℕ} → x ≡ links_up_to (chip f) b → more ≡ placed part (4 * m) (link_stretch (chip f) (512 * b) 512)
        → RecordsWritten f n out₀ 0 (links_below (chip f)) (b + 1) x more
    unfolding link_records link_stretch
    links_written p q =
        let c = chip f in
        let place : 512 * suc b ≡ 512 * b + 512 = omega arith in
        written_more (link_stretch c (512 * b) 512) w p (sym (ap (link_records c) place ∙ records_add (link_record c) (is_link c) (512 * b) 512))
        (omega (arith, links_length c (512 * b), w.counted.same)) (omega (arith, links_within, links_length c (512 * suc b), links_length c (512 * suc n))) q

-- The links of a row: what is given, and where the writer stands when some sources are left.
abbrev pub RowGiven : List ℕ → Set → ℕ → ℕ → ℕ → Type 0
RowGiven part row t last n = (t < 8) × (last < 256) × (n < 256) × (4 * (n + count 64 row) ≤ length part)

pub record RowAt (part₀ : List ℕ) (row : Set) (t last n : ℕ) (left : List ℕ) (m : ℕ) (part : List ℕ) : Type 0 where
  pub upto : ℕ
  pub left_is : Left row upto left
  pub number : m ≡ n + count upto row
  pub placing : Placing part₀ (4 * n) (records (row_record t last n row) row upto) part

row_length : (row : Set) (t last n a : ℕ) → length (records (row_record t last n row) row a) ≡ 4 * count a row
unfolding row_record
row_length row t last n a = records_length 4 (row_record t last n row) row (λ k. refl) a

module _ {part₀ : List ℕ} {row : Set} {t last n : ℕ} (given : RowGiven part₀ row t last n) where
  pub row_first : {left : List ℕ} → left ≡ members row → RowAt part₀ row t last n left n part₀
  unfolding count records
  row_first e =
      record {
        upto = 0;
        left_is = subst (Left row 0) (sym e) (left_all row);
        number = omega arith;
        placing = placing_none part₀ (4 * n) _ refl (omega (arith, given));
      }

  -- Where the smallest source left is a, what the next record has.
  module _ {left more : List ℕ} {a m : ℕ} {part : List ℕ} (w : RowAt part₀ row t last n left m part) (is : left ≡ a ∷ more) where
    next : First row w.upto a more
    next = left_next w.left_is is

    passed : count a row ≡ count w.upto row
    passed = count_none w.upto a row next.next.low next.next.before

    pub row_room : (4 * m + 4 ≤ length part) × (m < 512)
    row_room =
        let c = count_lt a 64 row next.inside next.member in
        (omega (arith, w.number, passed, given, w.placing.long, c), omega (arith, w.number, passed, given, c, count_le 64 row))

    pub row_next : {x : ℕ} {out : List ℕ} → x ≡ chained last (m + 1) → out ≡ placed part (4 * m) (x ∷ t ∷ a ∷ 0 ∷ [])
        → RowAt part₀ row t last n more (m + 1) out
    unfolding row_record
    row_next {x} p r =
        let R = row_record t last n row in
        let one_more = count_next_yes a row next.member in
        let after_it : m + 1 ≡ suc (n + count a row) = omega (arith, w.number, passed) in
        let made : (x ∷ t ∷ a ∷ 0 ∷ []) ≡ R a = ap (λ (y : ℕ). y ∷ t ∷ a ∷ 0 ∷ []) (p ∙ ap (chained last) after_it) in
        let all = ap (records R row) (add-one a) ∙ records_yes R row a next.member ∙ ap (λ (l : List ℕ). l ++ R a) (records_none R row w.upto a next.next.low next.next.before) in
        record {
          upto = a + 1;
          left_is = next.left;
          number = omega (arith, w.number, passed, one_more);
          placing = placing_more (x ∷ t ∷ a ∷ 0 ∷ []) w.placing (omega (arith, w.number, row_length row t last n w.upto)) r
              (ap (◌++◌ (records R row w.upto)) made ∙ sym all)
              (omega (arith, given, row_length row t last n (a + 1), count_mono (a + 1) 64 row (omega (arith, next.inside))));
        }

  pub row_all : {left : List ℕ} {m : ℕ} {part : List ℕ} → RowAt part₀ row t last n left m part → left ≡ []
      → (m ≡ n + count 64 row) × (part ≡ placed part₀ (4 * n) (records (row_record t last n row) row 64))
  row_all w e =
      let none = left_none w.left_is e in (
        w.number ∙ ap (λ (y : ℕ). n + y) (sym (count_none w.upto 64 row none.low none.before)),
        w.placing.done ∙ ap (placed part₀ (4 * n)) (sym (records_none (row_record t last n row) row w.upto 64 none.low none.before)),
      )

-- The links of a row, by their numbers.
module _ (s : Contents) (b t : ℕ) (row : Set) (h : t < 8) (e : row ≡ inverse (new_link s t) b) where
  abbrev c : Contents
  c = translated s

  abbrev from : ℕ
  from = 512 * b + 64 * t

  in_row : (a : ℕ) → a < 64 → is_link c (from + a) ≡ row a
  unfolding translated inverse
  in_row a g = link_number c t a b h g ∙ sym (ap (λ (r : Set). r a) e)

  before_it : (a : ℕ) → a < 64 → links_before c (from + a) ≡ links_before c from + count a row
  before_it a g = count_add from a (is_link c) ∙ ap (λ (x : ℕ). links_before c from + x) (count_same a (λ i. is_link c (from + i)) row (λ i k. in_row i (omega arith)))

  record_of_row : (last m a : ℕ) → last ≡ links_up_to c b → m ≡ links_before c from → a < 64 → link_record c (from + a) ≡ row_record t last m row a
  unfolding link_record row_record
  record_of_row last m a p q g =
      let k = from + a in
      let d = digits k t a b refl h g in
      let target : links_up_to c (k / 512) ≡ last = ap (λ (x : ℕ). links_up_to c x) d.2 ∙ sym p in
      let number : suc (links_before c k) ≡ suc (m + count a row) = ap suc (before_it a g ∙ ap (λ (x : ℕ). x + count a row) (sym q)) in
      ap₂ (λ (x y : ℕ). x ∷ y ∷ k % 64 ∷ 0 ∷ []) (ap₂ chained target number) d.0 ∙ ap (λ (x : ℕ). chained last (suc (m + count a row)) ∷ t ∷ x ∷ 0 ∷ []) d.1

  stretch_row : (last m : ℕ) → last ≡ links_up_to c b → m ≡ links_before c from
      → link_stretch c (512 * b) (64 * t) ++ records (row_record t last m row) row 64 ≡ link_stretch c (512 * b) (64 * (t + 1))
  unfolding link_stretch
  stretch_row last m p q =
      let k = 512 * b in
      let length-of : 64 * (t + 1) ≡ 64 * t + 64 = omega arith in
      let place : (a : ℕ) → k + (64 * t + a) ≡ from + a = λ a. sym (add_assoc k (64 * t) a) in
      sym (ap (records (λ i. link_record c (k + i)) (λ i. is_link c (k + i))) length-of
      ∙ records_add (λ i. link_record c (k + i)) (λ i. is_link c (k + i)) (64 * t) 64
      ∙ ap (◌++◌ (records (λ i. link_record c (k + i)) (λ i. is_link c (k + i)) (64 * t)))
      (records_same (λ a. link_record c (k + (64 * t + a))) (row_record t last m row) (λ a. is_link c (k + (64 * t + a))) row 64
      (λ a g. ap (is_link c) (place a) ∙ in_row a g) (λ a g. ap (link_record c) (place a) ∙ record_of_row last m a p q g)))

-- The bytes of a stretch.
stretch_length : (c : Contents) (k d : ℕ) → 4 * links_before c k + length (link_stretch c k d) ≡ 4 * links_before c (k + d)
unfolding link_stretch
stretch_length c k d =
    omega (arith, records_length 4 (λ i. link_record c (k + i)) (λ i. is_link c (k + i)) (λ i. link_size_lem c (k + i)) d, count_add k d (is_link c))

-- The links into b of types below t are written.
pub record IntoWritten (f : List ℕ) (b n last : ℕ) (part₀ : List ℕ) (t m : ℕ) (part : List ℕ) : Type 0 where
  pub counted : LinksCounted f b t m
  pub first : n ≡ links_before (chip f) (512 * b)
  pub last_is : last ≡ links_up_to (chip f) b
  pub room : 4 * links_up_to (chip f) b ≤ length part₀
  pub placing : Placing part₀ (4 * n) (link_stretch (chip f) (512 * b) (64 * t)) part

module _ {f : List ℕ} {b n last : ℕ} {part₀ : List ℕ} where
  pub into_none : Source f → n ≡ links_before (chip f) (512 * b) → 4 * links_up_to (chip f) b ≤ length part₀ → last ≡ links_up_to (chip f) b
      → IntoWritten f b n last part₀ 0 n part₀
  unfolding link_stretch records
  into_none y p r q =
      let some = count_mono (512 * b) (512 * suc b) (is_link (chip f)) (omega arith) in
      record { counted = links_start f b y n p; first = p; last_is = q; room = r; placing = placing_none part₀ (4 * n) _ refl (omega arith) }

  module _ {t m : ℕ} {part : List ℕ} {row : Set} (w : IntoWritten f b n last part₀ t m part) (h : t < 8) (e : row ≡ inverse (new_link (contents f) t) b) where
    within : links_before (chip f) (512 * b + 64 * (t + 1)) ≤ links_up_to (chip f) b
    within = count_mono (512 * b + 64 * (t + 1)) (512 * suc b) (is_link (chip f)) (omega arith)

    -- What one row more asks for.
    pub into_room : RowGiven part row t last m
    into_room =
        let most = most_links_lem f w.counted.source b in
        let more = count_row (contents f) b t row h e in
        (h, omega (arith, w.last_is), omega (arith, w.counted.same, within), omega (arith, w.counted.same, w.room, w.placing.long, within))

    pub into_more : {x : ℕ} {more : List ℕ} → x ≡ m + count 64 row → more ≡ placed part (4 * m) (records (row_record t last m row) row 64)
        → IntoWritten f b n last part₀ (t + 1) x more
    into_more p q =
        let c = chip f in
        let k = links_more f b t m (count 64 row) row w.counted h e refl in
        record {
          counted = record { source = k.source; same = p ∙ k.same };
          first = w.first;
          last_is = w.last_is;
          room = w.room;
          placing = placing_more (records (row_record t last m row) row 64) w.placing
              (omega (arith, w.first, w.counted.same, stretch_length c (512 * b) (64 * t))) q
              (stretch_row (contents f) b t row h e last m w.last_is w.counted.same)
              (omega (arith, w.room, w.first, within, stretch_length c (512 * b) (64 * (t + 1))));
        }

  pub into_all : {t m : ℕ} {part : List ℕ} → IntoWritten f b n last part₀ t m part → t ≡ 8
      → (m ≡ links_up_to (chip f) b) × (part ≡ placed part₀ (4 * n) (link_stretch (chip f) (512 * b) 512))
  into_all {t} {m} w e =
      let place : 64 * t ≡ 512 = omega arith in
      ((links_all f b t m w.counted e).0, w.placing.done ∙ ap (λ (x : ℕ). placed part₀ (4 * n) (link_stretch (chip f) (512 * b) x)) place)

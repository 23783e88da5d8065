-- Laws of a page: its blocks and lines one behind the other, and its length.
use mathlib.Core.Path.{◌≡◌, refl, sym, ap, subst, ◌∙◌}
use mathlib.Core.List.{List, [], ◌∷◌, ◌++◌, append_assoc, append-nil}
use Prim.Native.Nat.{ℕ, zero, suc, ◌+◌, ◌*◌, ◌<◌, ◌≤◌}
use native.Mathlib.Numerals.{add-one}
use native.Mathlib.Omega.{arith}
use native.Mathlib.Decide.{dec_lt}
use borrow.Author.Tests.{lt-ltb, le-ltb}
use lib.ListN.{length, get_or, take, drop, length-append}
use Rattle.models.specs.Recording.{Recording}
use Rattle.layout.specs.Layout.{threads}
use Rattle.layout.specs.Chains.{thread}
use Rattle.layout.specs.Decode.{decode}
use Rattle.recording.specs.Causes.{refusal}
use Rattle.recording.proofs.Accepted.{sized}
use Rattle.output.specs.Output.{placed}
use Rattle.output.proofs.OutputLaws.{length_placed, Placing, placing_none, placing_more}
use Rattle.decimal.specs.Decimal.{digit, spaces}
use Rattle.decimal.proofs.DecimalLaws.{columns5}
use Rattle.printout.specs.Page.{letter, place, star, block_width, line_size, block, block_at, blocks, line, lines, longest, page_of, thread_lists, page}
use Rattle.printout.specs.Table.{Members}
use Rattle.printout.proofs.BlockLaws.{place_size, block_is}
use Rattle.printout.proofs.TableLaws.{event_at}

-- The block of an event has 20 columns.
module _ (r : Recording ℕ) where
  block_size : (ring : List ℕ) (e : ℕ) → e < 100 → length (block r ring e) ≡ block_width
  block_size ring e h =
      ap length (sym (block_is r e ring h refl refl refl refl refl refl refl) ∙ ap (λ (l : List ℕ). l ++ (32 ∷ letter (r.class e) ∷ digit (r.mode e) ∷ digit (r.flag e) ∷ 32 ∷ (place r e ++ (32 ∷ star ring e ∷ spaces 4)))) (ap (λ (l : List ℕ). take 2 (drop 3 l)) (columns5 e)))
      ∙ ap (λ (n : ℕ). suc (suc (suc (suc (suc (suc (suc n))))))) (length-append (place r e) (32 ∷ star ring e ∷ spaces 4) ∙ ap (λ (n : ℕ). n + 6) (place_size r e))

  -- The block of a thread in line k.
  module _ (ring : List ℕ) (k : ℕ) (l : List ℕ) where
    pub block_present : k < length l → block_at r ring k l ≡ block r ring (get_or l k 0)
    unfolding block_at
    block_present h = rw (lt-ltb k (length l) h, block_at)

    pub block_absent : length l ≤ k → block_at r ring k l ≡ spaces block_width
    unfolding block_at
    block_absent h = rw (le-ltb k (length l) h, block_at)

  -- One thread more.
  blocks_last : (ring : List ℕ) (k : ℕ) (ls : List (List ℕ)) (l : List ℕ) → blocks r ring k (ls ++ (l ∷ [])) ≡ blocks r ring k ls ++ block_at r ring k l
  unfolding blocks
  blocks_last ring k [] l = append-nil (block_at r ring k l)
  blocks_last ring k (x ∷ ls) l =
      ap (λ (m : List ℕ). block_at r ring k x ++ m) (blocks_last ring k ls l) ∙ sym (append_assoc (block_at r ring k x) (blocks r ring k ls) (block_at r ring k l))

-- The lines of a file that loads.
module _ (f : List ℕ) where
  blocks_more : (ring : List ℕ) (k t : ℕ) → blocks (decode f) ring k (thread_lists f (t + 1)) ≡ blocks (decode f) ring k (thread_lists f t) ++ block_at (decode f) ring k (thread f t)
  unfolding thread_lists
  blocks_more ring k t =
      ap (λ (n : ℕ). blocks (decode f) ring k (thread_lists f n)) (add-one t) ∙ blocks_last (decode f) ring k (thread_lists f t) (thread f t)

  module _ (loads : refusal f ≡ 0) (ring : List ℕ) where
    at_size : (k t : ℕ) → t < threads → length (block_at (decode f) ring k (thread f t)) ≡ block_width
    at_size k t h =
        elim (dec_lt k (length (thread f t))) [
          | yes p ↦ ap length (block_present (decode f) ring k (thread f t) p)
              ∙ block_size (decode f) ring (get_or (thread f t) k 0) (omega (arith, event_at f loads t k h p, (sized f loads).most_events))
          | no p ↦ ap length (block_absent (decode f) ring k (thread f t) (omega (arith, p)))
        ]

    blocks_size : (k t : ℕ) → t ≤ threads → length (blocks (decode f) ring k (thread_lists f t)) ≡ block_width * t
    unfolding thread_lists blocks
    blocks_size k zero h = refl
    blocks_size k (suc t) h =
        ap length (blocks_last (decode f) ring k (thread_lists f t) (thread f t)) ∙ length-append (blocks (decode f) ring k (thread_lists f t)) _
        ∙ omega (arith, blocks_size k t (omega arith), at_size k t (omega arith))

    line_size_lem : (k : ℕ) → length (line (decode f) ring k (thread_lists f threads)) ≡ line_size threads
    unfolding line
    line_size_lem k = length-append (blocks (decode f) ring k (thread_lists f threads)) (10 ∷ []) ∙ omega (arith, blocks_size k threads (omega arith))

    lines_size : (n : ℕ) → length (lines (decode f) ring n (thread_lists f threads)) ≡ line_size threads * n
    unfolding lines
    lines_size zero = refl
    lines_size (suc n) = length-append (lines (decode f) ring n (thread_lists f threads)) _ ∙ omega (arith, lines_size n, line_size_lem n)

    -- A page is as long as its lines.
    pub page_size : length (page f ring) ≡ line_size threads * longest (thread_lists f threads)
    unfolding page_of
    page_size = lines_size (longest (thread_lists f threads))

-- The blocks of the first t threads are written in line k.
pub record BlocksWritten (f stars out₀ : List ℕ) (k t : ℕ) (out : List ℕ) : Type 0 where
  pub within : t ≤ threads
  pub room : line_size threads * (k + 1) ≤ length out₀
  pub long : length out ≡ length out₀
  pub placing : (ring : List ℕ) → Members ring stars → Placing out₀ (line_size threads * k) (blocks (decode f) ring k (thread_lists f t)) out

-- The first n lines are written, and there is room for `all`.
pub record LinesWritten (f stars out₀ : List ℕ) (all n : ℕ) (out : List ℕ) : Type 0 where
  pub room : line_size threads * all ≤ length out₀
  pub long : length out ≡ length out₀
  pub placing : (ring : List ℕ) → Members ring stars → Placing out₀ 0 (lines (decode f) ring n (thread_lists f threads)) out

module _ (f stars out₀ : List ℕ) where
  pub blocks_none : (k : ℕ) → line_size threads * (k + 1) ≤ length out₀ → BlocksWritten f stars out₀ k 0 out₀
  unfolding thread_lists blocks
  blocks_none k h = record { within = omega arith; room = h; long = refl; placing = λ ring w. placing_none out₀ (line_size threads * k) _ refl (omega arith) }

  pub lines_none : (all : ℕ) → line_size threads * all ≤ length out₀ → LinesWritten f stars out₀ all 0 out₀
  unfolding lines
  lines_none all h = record { room = h; long = refl; placing = λ ring w. placing_none out₀ 0 _ refl (omega arith) }

  module _ (loads : refusal f ≡ 0) where
    pub blocks_written : {k t : ℕ} {out bytes more : List ℕ} → BlocksWritten f stars out₀ k t out → t < threads → length bytes ≡ block_width
        → ((ring : List ℕ) → Members ring stars → bytes ≡ block_at (decode f) ring k (thread f t)) → more ≡ placed out (line_size threads * k + block_width * t) bytes
        → BlocksWritten f stars out₀ k (t + 1) more
    blocks_written {k} {t} {out} {bytes} w h size e p =
        record {
          within = omega arith;
          room = w.room;
          long = ap length p ∙ length_placed out (line_size threads * k + block_width * t) bytes (omega (arith, w.room, w.long)) ∙ w.long;
          placing = λ ring m. placing_more bytes (w.placing ring m) (omega (arith, blocks_size f loads ring k t (omega arith))) p
              (ap (◌++◌ (blocks (decode f) ring k (thread_lists f t))) (e ring m) ∙ sym (blocks_more f ring k t)) (omega (arith, w.room, blocks_size f loads ring k (t + 1) (omega arith)));
        }

    pub line_written : {k t : ℕ} {out left : List ℕ} → BlocksWritten f stars out₀ k t out → threads ≤ t
        → left ≡ placed out (line_size threads * k + block_width * threads) (10 ∷ [])
        → (ring : List ℕ) → Members ring stars → left ≡ placed out₀ (line_size threads * k) (line (decode f) ring k (thread_lists f threads))
    unfolding line
    line_written {k} {t} {out} w h p ring m =
        let all : t ≡ threads = omega (arith, w.within) in
        let placing = subst (λ (n : ℕ). Placing out₀ (line_size threads * k) (blocks (decode f) ring k (thread_lists f n)) out) all (w.placing ring m) in
        (placing_more (10 ∷ []) placing (omega (arith, blocks_size f loads ring k threads (omega arith))) p refl (omega (arith, w.room, line_size_lem f loads ring k))).done

    pub lines_written : {all n : ℕ} {out more : List ℕ} → LinesWritten f stars out₀ all n out → n < all → length more ≡ length out
        → ((ring : List ℕ) → Members ring stars → more ≡ placed out (line_size threads * n) (line (decode f) ring n (thread_lists f threads)))
        → LinesWritten f stars out₀ all (n + 1) more
    unfolding lines
    lines_written {all} {n} w h size e =
        rw (add-one n) (record {
          room = w.room;
          long = size ∙ w.long;
          placing = λ ring m. placing_more _ (w.placing ring m) (omega (arith, lines_size f loads ring n)) (e ring m) refl (omega (arith, w.room, lines_size f loads ring (suc n)));
        })

    pub lines_all : {all n : ℕ} {out : List ℕ} → LinesWritten f stars out₀ all n out → n ≡ all
        → (ring : List ℕ) → Members ring stars → out ≡ placed out₀ 0 (lines (decode f) ring all (thread_lists f threads))
    lines_all w e ring m = (w.placing ring m).done ∙ ap (λ (i : ℕ). placed out₀ 0 (lines (decode f) ring i (thread_lists f threads))) e

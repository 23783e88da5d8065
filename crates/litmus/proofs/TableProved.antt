-- The litmus table, proved: a row that passes one test holds, and the test is evaluated at every row.
use mathlib.Core.Path.{◌≡◌, refl, ap, ◌∙◌}
use mathlib.Core.Bool.{Bool, true, ◌&&◌}
use mathlib.Core.List.{List, [], ◌∷◌, Memᴰ}
use Prim.Native.Nat.{ℕ}
use native.Mathlib.Omega.{arith}
use borrow.Author.Tests.{eqb-true}
use lib.Dec.{eqb}
use lib.ListN.{length}
use Rattle.relation.specs.Rel.{count, least}
use Rattle.relation.proofs.Truth.{and_left, and_right}
use Rattle.models.specs.Rules.{Model, IMM, ARMv8, TSO, first}
use Rattle.models.proofs.EvalTable.{table_verdict}
use Rattle.layout.specs.Layout.{side}
use Rattle.recording.specs.Causes.{refusal}
use Rattle.translation.specs.Contents.{contents}
use Rattle.translation.specs.Translate.{flagged, inserted, new_events, fenced, after, follows, kept_or, new_mode, new_flag, controlled, from_exclusive, from_casdep, new_link, translated}
use Rattle.translation.specs.Translation.{translation}
use Rattle.translation.specs.Parts.{Source}
use Rattle.translation.proofs.SourceFacts.{limits}
use Rattle.translation.proofs.Bounds.{most_events_lem, links_fit}
use Rattle.translation.proofs.Says.{Bytes, contents_bytes, encode_bytes}
use Rattle.soundness.specs.Soundness.{imm_verdict, armv8_verdict, tso_verdict}
use Rattle.soundness.proofs.Proved.{soundness}
use Rattle.litmus.specs.Table.{Row, Holds, table, Litmus, empty, message_passing, release_acquire, load_buffering, load_buffering_data, store_buffering, store_buffering_fences, independent_reads, two_pairs, newer_before_older, normal_pair, strong_pair}
use Rattle.litmus.proofs.Recorded.{event_list, has_record, said_or, recording_of, verdict_computed}
use Rattle.litmus.proofs.EvaluatedLoading.{evaluated, passes_loads}

-- The bytes of a source file that loads, and of its translation, say what the contents say.
module _ (f : List ℕ) (s : Source f) where
  source_bytes : Bytes f (contents f)
  source_bytes = contents_bytes f (omega (arith, (limits f s).0))

  chip_bytes : Bytes (translation f) (translated (contents f))
  unfolding translation translated
  chip_bytes = encode_bytes (translated (contents f)) (links_fit f s) (omega (arith, most_events_lem f s))

-- The verdicts on what a file's contents and their translation describe. To unfold them is to unfold all that they compute with.
module _ (f : List ℕ) where
  unfoldable pub source_verdict : Model → ℕ
  unfolding evaluated table_verdict event_list has_record said_or recording_of contents
  source_verdict M = table_verdict (event_list (contents f).events (contents f).locations) (recording_of (contents f)) M

  unfoldable pub chip_verdict : ℕ
  unfolding evaluated table_verdict event_list has_record said_or recording_of contents count least flagged inserted new_events fenced after follows kept_or new_mode new_flag controlled from_exclusive from_casdep new_link translated
  chip_verdict = table_verdict (event_list (translated (contents f)).events (translated (contents f)).locations) (recording_of (translated (contents f))) ARMv8

-- The test of a row: its file loads, is a source file, and the three verdicts are the row's.
unfoldable pub passes : Row → Bool
unfolding first evaluated source_verdict chip_verdict
passes row =
    (eqb (first (evaluated row.bytes)) 0 && side row.bytes)
    && (eqb (source_verdict row.bytes IMM) row.source && eqb (chip_verdict row.bytes) row.chip && eqb (source_verdict row.bytes TSO) row.tso)

-- A row that passes holds.
pub passes_holds : (row : Row) → passes row ≡ true → Holds row
unfolding passes imm_verdict armv8_verdict tso_verdict
passes_holds row p =
    let f = row.bytes in
    let loads : refusal f ≡ 0 = passes_loads f (search (and_left, and_right, eqb-true)) in
    let loaded : Source f = record { loads = loads; side_is = search (and_left, and_right) } in
    let imm : source_verdict f IMM ≡ row.source = search (and_left, and_right, eqb-true) in
    let armv8 : chip_verdict f ≡ row.chip = search (and_left, and_right, eqb-true) in
    let tso : source_verdict f TSO ≡ row.tso = search (and_left, and_right, eqb-true) in
    record {
      loads = loaded;
      source = verdict_computed f (contents f) (source_bytes f loaded) loads IMM ∙ imm;
      chip = verdict_computed (translation f) (translated (contents f)) (chip_bytes f loaded) (soundness f loaded).translation_loads.loads ARMv8 ∙ armv8;
      tso = verdict_computed f (contents f) (source_bytes f loaded) loads TSO ∙ tso;
    }

-- Every row passes.
unfoldable pub all_pass : List Row → Bool
all_pass [] = true
all_pass (row ∷ rows) = passes row && all_pass rows

pub passes_at : (row : Row) (rows : List Row) → all_pass rows ≡ true → Memᴰ row rows → passes row ≡ true
unfolding all_pass
passes_at row [] p x'' = elim x'' [ ]
passes_at row (x ∷ rows) p (Memᴰ.head e) = ap passes e ∙ and_left (passes x) (all_pass rows) p
passes_at row (x ∷ rows) p (Memᴰ.tail m) = passes_at row rows (and_right (passes x) (all_pass rows) p) m

all_pass_lem : all_pass table ≡ true
unfolding all_pass passes table empty message_passing release_acquire load_buffering load_buffering_data store_buffering store_buffering_fences independent_reads two_pairs newer_before_older normal_pair strong_pair
all_pass_lem = refl

pub twelve_rows : length table ≡ 12
unfolding table
twelve_rows = refl

-- The theorem.
pub litmus : Litmus
litmus row m = passes_holds row (passes_at row table all_pass_lem m)

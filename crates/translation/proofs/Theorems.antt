-- The theorems of the translation of a source file that loads (01, "The translation"; 02, slips 1 and 3).
use mathlib.Core.Path.{◌≡◌}
use mathlib.Core.Bool.{false}
use mathlib.Core.List.{List}
use Prim.Native.Nat.{ℕ, ◌<◌, ◌≤◌}
use native.Mathlib.Omega.{arith}
use lib.ListN.{length}
use Rattle.relation.specs.Rel.{nodes}
use Rattle.relation.proofs.Truth.{holds, is_false}
use Rattle.models.specs.Recording.{member, Fisb}
use Rattle.models.specs.Graph.{base}
use Rattle.models.specs.Rules.{IMM, ARMv8, verdict}
use Rattle.models.specs.Translated.{Translated}
use Rattle.models.proofs.Sound.{verdict_sound}
use Rattle.layout.specs.Layout as layout
use Rattle.layout.specs.Layout.{events, links, threads}
use Rattle.layout.specs.Decode.{decode}
use Rattle.recording.specs.Load.{LoadsAs}
use Rattle.recording.proofs.Loaded as loaded
use Rattle.translation.specs.Translate.{translated}
use Rattle.translation.specs.Translation.{chip, translation}
use Rattle.translation.specs.Parts.{Source}
use Rattle.translation.specs.Threads.{ThreadTranslated}
use Rattle.translation.proofs.EncodeLaws.{encode_events, encode_links, encode_length}
use Rattle.translation.proofs.Bounds.{most_events_lem, most_links_lem}
use Rattle.translation.proofs.Threads.{thread_translated}
use Rattle.translation.proofs.TranslationLoads.{translated_relates, without_isb, translation_accepted, translation_side}

module _ (f : List ℕ) (given : Source f) where
  -- Every translation of a recording that loads, loads.
  pub translation_loads : LoadsAs layout.chip (translation f)
  translation_loads = record { loads = translation_accepted f given; side_is = translation_side f given }

  -- "At most 48 events and 232 links arise", so at most 1,320 bytes.
  pub few_events : events (translation f) ≤ 48
  unfolding translation translated
  few_events = omega (arith, encode_events (chip f), most_events_lem f given)

  pub few_links : links (translation f) ≤ 232
  unfolding translation
  few_links = omega (arith, encode_links (chip f), most_links_lem f given (chip f).events)

  pub few_bytes : length (translation f) ≤ 1320
  unfolding translation translated
  few_bytes = omega (arith, encode_length (chip f), most_events_lem f given, most_links_lem f given (chip f).events)

  -- "Eighteen is enough, since a thread of 12 has at most six strong writes."
  pub threads_translated : (t : ℕ) → t < threads → ThreadTranslated f t
  threads_translated = thread_translated f given

  -- "Translations never write one": no event of a translation is an isb.
  pub translation_without_isb : (e : ℕ) → member (decode (translation f)) Fisb e ≡ false
  unfolding translation
  translation_without_isb e = is_false (member (decode (translation f)) Fisb e) (λ p. without_isb f given e (holds (member (decode (translation f)) Fisb e) p))

  -- The translation is related to its source as the soundness of the mapping asks.
  pub translation_related : Translated (decode f) (decode (translation f))
  unfolding translation
  translation_related = translated_relates f given

  -- A source recording is allowed by IMM where ARMv8 allows its translation.
  pub translation_sound : verdict nodes (base nodes (decode (translation f))) ARMv8 ≡ 0 → verdict nodes (base nodes (decode f)) IMM ≡ 0
  translation_sound =
      verdict_sound nodes nodes (decode f) (decode (translation f)) (loaded.loaded_within f given.loads) (loaded.loaded_within (translation f) translation_loads.loads)
      (loaded.loads f given.loads) translation_related

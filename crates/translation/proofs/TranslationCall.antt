-- Laws of the call: that the parts written make up the translation, what is answered of an input, and that what is written is short.
use mathlib.Core.Path.{◌≡◌, sym, ap, subst, ◌∙◌}
use mathlib.Core.Logic.{inl, inr}
use mathlib.Core.List.{List, ◌++◌}
use Prim.Native.Nat.{ℕ, suc, ◌+◌, ◌-◌, ◌*◌, ◌<◌, ◌≤◌}
use native.Mathlib.Omega.{arith}
use lib.ListN.{length, take, drop, length-drop}
use lib.Seq.{take_all}
use Rattle.layout.specs.Layout.{source}
use Rattle.recording.specs.Causes.{refusal}
use Rattle.recording.specs.Load.{cause_for}
use Rattle.recording.specs.Input.{longest}
use Rattle.recording.proofs.CauseLaws.{cause_goes_on, cause_own, cause_early}
use Rattle.recording.proofs.Longest.{read_of}
use Rattle.output.specs.Output.{placed, Fills}
use Rattle.std.specs.Prelude.{Result, Ok, Err}
use Rattle.refusal.specs.declared.Refusal.{Refusal}
use Rattle.refusal.specs.declared.Refusal.TheVariants.{NoRoom}
use Rattle.output.proofs.OutputLaws.{length_placed, placed_placed, part_placed}
use Rattle.output.proofs.FillLaws.{fills_short, fills_written, fills_other, fills_few}
use Rattle.translation.specs.Contents.{contents}
use Rattle.translation.specs.Translate.{new_events, translated}
use Rattle.translation.specs.Encode.{links_up_to, header, event_records, link_records, encode}
use Rattle.translation.specs.Translation.{chip, translation}
use Rattle.translation.specs.Parts.{Source}
use Rattle.translation.proofs.EncodeLaws.{header_size_lem, events_length, encode_length}
use Rattle.translation.proofs.Theorems.{few_bytes}

module _ (f : List ℕ) where
  -- The measured length is the translation's.
  measured : (n m : ℕ) → n ≡ new_events (contents f) → m ≡ links_up_to (chip f) n → 8 + 8 * n + 4 * m ≡ length (translation f)
  unfolding translation translated
  measured n m p q =
      let c = chip f in
      omega (arith, encode_length c, p, q ∙ ap (λ (x : ℕ). links_up_to c x) p)

  pub refused_short : (n m : ℕ) (out : List ℕ) → Source f → n ≡ new_events (contents f) → m ≡ links_up_to (chip f) n
      → length out < 8 + 8 * n + 4 * m → Fills (cause_for source f) (translation f) out (Err NoRoom) out
  refused_short n m out p u v h = fills_short (cause_for source f) (translation f) out (cause_own source f p) (omega (arith, measured n m u v))

  -- What is written has at most 1320 bytes, whatever the room.
  pub few_written : (out : List ℕ) (r : Result ℕ Refusal) (left : List ℕ) → Fills (cause_for source f) (translation f) out r left → (n : ℕ) → r ≡ Ok n → n ≤ 1320
  few_written out r left w = fills_few (cause_for source f) (translation f) out r left w 1320 (λ e. few_bytes f (cause_goes_on source f e))

-- Behind the header there is room for the events.
header_length : (f out one : List ℕ) (n m : ℕ) → 8 + 8 * n + 4 * m ≤ length out → one ≡ placed out 0 (header (chip f)) → length one ≡ length out
header_length f out one n m room first =
    let c = chip f in
    ap length first ∙ length_placed out 0 (header c) (omega (arith, header_size_lem c))

pub events_room : (f out one : List ℕ) (n m : ℕ) → 8 + 8 * n + 4 * m ≤ length out → one ≡ placed out 0 (header (chip f)) → 8 + 8 * n ≤ length one
events_room f out one n m room first = omega (arith, header_length f out one n m room first)

module _ (f : List ℕ) (out one two part : List ℕ) (n m : ℕ) (p : Source f) (u : n ≡ new_events (contents f))
    (v : m ≡ links_up_to (chip f) n) (room : 8 + 8 * n + 4 * m ≤ length out)
    (first : one ≡ placed out 0 (header (chip f))) (second : two ≡ placed one 8 (event_records (chip f) (suc n))) where
  -- The output stays as long as it was.
  sizes : (length one ≡ length out) × (length two ≡ length out)
  sizes =
      let c = chip f in
      let a = header_length f out one n m room first in
      (a, ap length second ∙ length_placed one 8 (event_records c (suc n)) (omega (arith, events_length c n)) ∙ a)

  pub links_part : 4 * links_up_to (chip f) n ≤ length (take (length two - (8 + 8 * n)) (drop (8 + 8 * n) two))
  links_part =
      let rest = drop (8 + 8 * n) two in
      let size = length-drop (8 + 8 * n) two in
      omega (arith, sizes.1, v, ap length (take_all (length two - (8 + 8 * n)) rest (omega arith)))

  whole : header (chip f) ++ (event_records (chip f) (suc n) ++ link_records (chip f) (512 * suc n)) ≡ translation f
  unfolding translation encode translated
  whole =
      let c = chip f in
      ap (λ (x : ℕ). header c ++ (event_records c (suc x) ++ link_records c (512 * suc x))) u

  placed_whole : placed two (8 + 8 * n) (link_records (chip f) (512 * suc n)) ≡ placed out 0 (translation f)
  placed_whole =
      let c = chip f in
      let ev = event_records c (suc n) in
      let ln = link_records c (512 * suc n) in
      ap (λ (d : List ℕ). placed d (8 + 8 * n) ln) second
      ∙ placed_placed one 8 ev ln (8 + 8 * n) (omega (arith, sizes.0, events_length c n)) (omega (arith, events_length c n))
      ∙ ap (λ (d : List ℕ). placed d 8 (ev ++ ln)) first ∙ placed_placed out 0 (header c) (ev ++ ln) 8 (omega (arith, header_size_lem c)) (omega (arith, header_size_lem c))
      ∙ ap (placed out 0) whole

  pub all_written : part ≡ placed (take (length two - (8 + 8 * n)) (drop (8 + 8 * n) two)) 0 (link_records (chip f) (512 * suc n))
      → Fills (cause_for source f) (translation f) out (Ok (8 + 8 * n + 4 * m)) (take (8 + 8 * n) two ++ (part ++ drop (length two - (8 + 8 * n)) (drop (8 + 8 * n) two)))
  all_written third =
      let size = measured f n m u v in
      fills_written (cause_for source f) (translation f) out (cause_own source f p) (omega (arith, size)) (8 + 8 * n + 4 * m) size _
      (part_placed two (8 + 8 * n) (link_records (chip f) (512 * suc n)) part (omega (arith, sizes.1)) third ∙ placed_whole)

-- A call on what is read of an input answers, and leaves the output, as one on the input.
pub fills_input : (input start : List ℕ) → start ≡ take (longest + 1) input → (out : List ℕ) (r : Result ℕ Refusal) (left : List ℕ)
    → Fills (cause_for source start) (translation start) out r left → Fills (cause_for source input) (translation input) out r left
fills_input input start read out r left w =
    elim (read_of input) [
      | inl e ↦ subst (λ (f : List ℕ). Fills (cause_for source f) (translation f) out r left) (read ∙ e) w
      | inr (n, all, part) ↦ fills_other (refused start n (ap refusal read ∙ part)) (refused input n all) w
    ]
  where
    refused : (f : List ℕ) (n : ℕ) → refusal f ≡ suc n → cause_for source f ≡ suc n
    refused f n e = sym (cause_early source (suc n) f (sym e) (λ z. omega arith))

-- Laws of the call: refused, or all lines written; and that what is written is short.
use mathlib.Core.Path.{◌≡◌, sym, ap, ◌∙◌}
use mathlib.Core.List.{List}
use Prim.Native.Nat.{ℕ, ◌*◌, ◌<◌, ◌≤◌}
use native.Mathlib.Omega.{arith}
use lib.ListN.{length}
use Rattle.layout.specs.Layout.{threads}
use Rattle.layout.specs.Decode.{decode}
use Rattle.recording.specs.Causes.{refusal}
use Rattle.output.specs.Output.{placed, Fills}
use Rattle.std.specs.Prelude.{Result, Ok, Err}
use Rattle.refusal.specs.declared.Refusal.{Refusal}
use Rattle.refusal.specs.declared.Refusal.TheVariants.{NoRoom}
use Rattle.output.proofs.FillLaws.{fills_short, fills_written, fills_few}
use Rattle.printout.specs.Page.{line_size, lines, longest, page_of, thread_lists, page}
use Rattle.printout.proofs.TableLaws.{few_lines}
use Rattle.printout.proofs.PageLaws.{page_size}

-- Of a file that loads, whose longest thread has n events.
module _ (f ring out : List ℕ) (loads : refusal f ≡ 0) (n : ℕ) (is : n ≡ longest (thread_lists f threads)) where
  measured : line_size threads * n ≡ length (page f ring)
  measured = ap (λ (k : ℕ). line_size threads * k) is ∙ sym (page_size f loads ring)

  pub page_short : length out < line_size threads * n → Fills (refusal f) (page f ring) out (Err NoRoom) out
  page_short h = fills_short (refusal f) (page f ring) out loads (omega (arith, measured))

  pub page_written : (left : List ℕ) → line_size threads * n ≤ length out → left ≡ placed out 0 (lines (decode f) ring n (thread_lists f threads))
      → Fills (refusal f) (page f ring) out (Ok (line_size threads * n)) left
  unfolding page_of
  page_written left h e =
      fills_written (refusal f) (page f ring) out loads (omega (arith, measured)) (line_size threads * n) measured left
      (e ∙ ap (λ (k : ℕ). placed out 0 (lines (decode f) ring k (thread_lists f threads))) is)

-- A page of a file that loads has at most 1458 bytes.
pub few_bytes : (f ring : List ℕ) → refusal f ≡ 0 → length (page f ring) ≤ 1458
few_bytes f ring loads = omega (arith, page_size f loads ring, few_lines f loads)

-- So has what is written, whatever the room.
pub few_written : (f ring out : List ℕ) (r : Result ℕ Refusal) (left : List ℕ) → Fills (refusal f) (page f ring) out r left → (n : ℕ) → r ≡ Ok n → n ≤ 1458
few_written f ring out r left w = fills_few (refusal f) (page f ring) out r left w 1458 (few_bytes f ring)

-- Laws of the page that is printed: the array for it is never too short, and what is written there is the page.
use mathlib.Core.Path.{◌≡◌}
use mathlib.Core.List.{List}
use Prim.Native.Nat.{ℕ, ◌≤◌}
use native.Mathlib.Omega.{arith}
use lib.ListN.{length}
use Rattle.std.specs.Prelude.{Result, Ok, IsOk}
use Rattle.recording.specs.Causes.{refusal}
use Rattle.refusal.specs.declared.Refusal.{Refusal}
use Rattle.output.specs.Output.{Fills}
use Rattle.printout.specs.Page.{page}
use Rattle.printout.proofs.PageCall.{few_bytes}
use Rattle.judgement.proofs.FitLaws.{fills_ok, Written, written}

-- Of a file that loads.
module _ (f ring : List ℕ) {out : List ℕ} {r : Result ℕ Refusal} {left : List ℕ} (loads : refusal f ≡ 0) (w : Fills (refusal f) (page f ring) out r left) where
  pub page_fits : 1458 ≤ length out → IsOk r
  page_fits h = fills_ok w loads (omega (arith, few_bytes f ring loads))

  pub page_written : {n : ℕ} → r ≡ Ok n → Written (page f ring) 1458 n left
  page_written p = written w (few_bytes f ring loads) p

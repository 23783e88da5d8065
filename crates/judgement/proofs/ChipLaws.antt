-- Laws of the translation of a source file: the array for it is never too short, what is written there is the translation, and it loads.
use mathlib.Core.Path.{◌≡◌, sym, subst}
use mathlib.Core.List.{List}
use Prim.Native.Nat.{ℕ, ◌≤◌}
use native.Mathlib.Omega.{arith}
use lib.ListN.{length}
use Rattle.std.specs.Prelude.{Result, Ok, IsOk}
use Rattle.layout.specs.Layout.{source, chip}
use Rattle.recording.specs.Load.{LoadsAs, cause_for}
use Rattle.recording.proofs.CauseLaws.{cause_own}
use Rattle.refusal.specs.declared.Refusal.{Refusal}
use Rattle.verdict.specs.Verdict.{Verdict}
use Rattle.output.specs.Output.{Fills}
use Rattle.translation.specs.Translation.{translation}
use Rattle.translation.proofs.Theorems.{few_bytes}
use Rattle.soundness.proofs.Proved.{soundness}
use Rattle.judgement.proofs.FitLaws.{fills_ok, Written, written}
use Rattle.judgement.specs.Judgement.{OnChip}

-- Of a source file that loads.
module _ (f : List ℕ) (l : LoadsAs source f) where
  module _ {out : List ℕ} {r : Result ℕ Refusal} {left : List ℕ} (w : Fills (cause_for source f) (translation f) out r left) where
    pub translation_fits : 1320 ≤ length out → IsOk r
    translation_fits h = fills_ok w (cause_own source f l) (omega (arith, few_bytes f l))

    pub translation_written : {n : ℕ} → r ≡ Ok n → Written (translation f) 1320 n left
    translation_written p = written w (few_bytes f l) p

  pub chip_loads : {g : List ℕ} → g ≡ translation f → LoadsAs chip g
  chip_loads e = subst (LoadsAs chip) (sym e) (soundness f l).translation_loads

-- A verdict on the bytes of the translation.
pub chip_judged : (f g : List ℕ) (v : Verdict) → g ≡ translation f → OnChip g v → OnChip (translation f) v
chip_judged f g v e on = subst (λ (b : List ℕ). OnChip b v) e on

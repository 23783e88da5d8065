-- An allowed ARMv8 verdict on a file shows every event of its recording exactly once.
use mathlib.Core.List.{List}
use Prim.Native.Nat.{ℕ}
use Rattle.std.specs.Prelude.{Ok}
use Rattle.models.specs.Armv8.{ob}
use Rattle.models.specs.Rules.{ARMv8}
use Rattle.layout.specs.Layout.{chip}
use Rattle.verdict.specs.Verdict.{Verdict}
use Rattle.execution.specs.OnFile.{OnFile, ShowsAll}
use Rattle.execution.proofs.PerLocationShown.{per_location_shows_all}
use Rattle.armv8.specs.Judged.{Judged}

pub armv8_shows_all : (f : List ℕ) (v : Verdict) → OnFile chip ARMv8 Judged f (Ok v) → ShowsAll f v
armv8_shows_all f v on = per_location_shows_all chip ob f v on

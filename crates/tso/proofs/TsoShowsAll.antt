-- An allowed x86-TSO verdict on a file shows every event of its recording exactly once.
use mathlib.Core.List.{List}
use Prim.Native.Nat.{ℕ}
use Rattle.std.specs.Prelude.{Ok}
use Rattle.models.specs.Tso.{tso}
use Rattle.models.specs.Rules.{TSO}
use Rattle.layout.specs.Layout.{source}
use Rattle.verdict.specs.Verdict.{Verdict}
use Rattle.execution.specs.OnFile.{OnFile, ShowsAll}
use Rattle.execution.proofs.PerLocationShown.{per_location_shows_all}
use Rattle.tso.specs.Judged.{Judged}

pub tso_shows_all : (f : List ℕ) (v : Verdict) → OnFile source TSO Judged f (Ok v) → ShowsAll f v
tso_shows_all f v on = per_location_shows_all source tso f v on

-- An x86-TSO verdict on a file that is broken by rule 3 or 5 shows no more events than any way that breaks the rule has steps.
use mathlib.Core.List.{List}
use Prim.Native.Nat.{ℕ}
use Rattle.std.specs.Prelude.{Ok}
use Rattle.models.specs.Steps.{count}
use Rattle.models.specs.Tso.{tso}
use Rattle.models.specs.Rules.{TSO}
use Rattle.layout.specs.Layout.{source}
use Rattle.verdict.specs.Verdict.{Verdict}
use Rattle.execution.specs.OnFile.{OnFile, ShowsFewest}
use Rattle.execution.proofs.PerLocationShown.{per_location_shows_fewest}
use Rattle.tso.specs.Judged.{Judged}

pub tso_shows_fewest : (f : List ℕ) (v : Verdict) → OnFile source TSO Judged f (Ok v) → ShowsFewest TSO f (λ a way. count way) v
tso_shows_fewest f v on = per_location_shows_fewest source tso f v on

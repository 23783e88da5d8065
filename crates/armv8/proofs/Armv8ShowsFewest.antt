-- An ARMv8 verdict on a file that is broken by rule 3 or 5 shows no more events than any way that breaks the rule has steps.
use mathlib.Core.List.{List}
use Prim.Native.Nat.{ℕ}
use Rattle.std.specs.Prelude.{Ok}
use Rattle.models.specs.Steps.{count}
use Rattle.models.specs.Armv8.{ob}
use Rattle.models.specs.Rules.{ARMv8}
use Rattle.layout.specs.Layout.{chip}
use Rattle.verdict.specs.Verdict.{Verdict}
use Rattle.execution.specs.OnFile.{OnFile, ShowsFewest}
use Rattle.execution.proofs.PerLocationShown.{per_location_shows_fewest}
use Rattle.armv8.specs.Judged.{Judged}

pub armv8_shows_fewest : (f : List ℕ) (v : Verdict) → OnFile chip ARMv8 Judged f (Ok v) → ShowsFewest ARMv8 f (λ a way. count way) v
armv8_shows_fewest f v on = per_location_shows_fewest chip ob f v on

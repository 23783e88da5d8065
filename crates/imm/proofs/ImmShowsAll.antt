-- An allowed IMM verdict on a file shows every event of its recording exactly once.
use mathlib.Core.List.{List}
use Prim.Native.Nat.{ℕ}
use Rattle.std.specs.Prelude.{Ok}
use Rattle.relation.specs.Rel.{nodes}
use Rattle.models.specs.Graph.{base}
use Rattle.models.specs.Rules.{IMM}
use Rattle.layout.specs.Layout.{source}
use Rattle.layout.specs.Decode.{decode}
use Rattle.verdict.specs.Verdict.{Verdict}
use Rattle.execution.specs.OnFile.{OnFile, ShowsAll}
use Rattle.execution.proofs.AllShown.{shows_all}
use Rattle.imm.specs.Judged.{Judged, steps, closing}

pub imm_shows_all : (f : List ℕ) (v : Verdict) → OnFile source IMM Judged f (Ok v) → ShowsAll f v
imm_shows_all f v on = shows_all source IMM Judged f v on (steps (base nodes (decode f))) (closing (base nodes (decode f))) (λ j. j)

-- What the verdict of a model on a file shows whose rule 3 is SC-per-location (ARMv8, x86-TSO), whatever the relation t of its rule 5 is.
use mathlib.Core.List.{List}
use Prim.Native.Nat.{ℕ}
use native.Mathlib.Omega.{arith}
use Rattle.std.specs.Prelude.{Ok}
use Rattle.relation.specs.Rel.{Rel, nodes}
use Rattle.models.specs.Steps.{count}
use Rattle.models.specs.Graph.{base}
use Rattle.models.specs.Term.{Term, eval}
use Rattle.models.specs.Armv8.{sc_per_loc}
use Rattle.models.specs.Rules.{per_location}
use Rattle.layout.specs.Layout.{Side}
use Rattle.layout.specs.Decode.{decode}
use Rattle.verdict.specs.Verdict.{Verdict}
use Rattle.verdict.specs.PerLocation.{PerLocation}
use Rattle.verdict.proofs.ShownMeaning.{term_inside}
use Rattle.verdict.proofs.FewestSteps.{plus_round}
use Rattle.execution.specs.OnFile.{OnFile, ShowsAll, ShowsFewest}
use Rattle.execution.proofs.AllShown.{shows_all, shows_fewest}

module _ (s : Side) (t : Term) (f : List ℕ) (v : Verdict) (on : OnFile s (per_location t) (PerLocation t) f (Ok v)) where
  abbrev steps : Rel
  steps = eval nodes sc_per_loc (base nodes (decode f))

  -- Where it is allowed, every event of the recording exactly once.
  pub per_location_shows_all : ShowsAll f v
  per_location_shows_all = shows_all s (per_location t) (PerLocation t) f v on steps steps (λ j. j)

  -- Where rule 3 or 5 is broken, no more events than any way that breaks the rule has steps.
  pub per_location_shows_fewest : ShowsFewest (per_location t) f (λ a way. count way) v
  per_location_shows_fewest =
      shows_fewest s (per_location t) (PerLocation t) f v on steps steps (λ j. j) (λ a way. count way)
      (λ within. (term_inside (decode f) within sc_per_loc, term_inside (decode f) within sc_per_loc))
      (λ within a way. let (n, long, round) = plus_round (decode f) within sc_per_loc way in (n, omega arith, round))

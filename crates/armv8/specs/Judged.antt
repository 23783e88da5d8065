-- What the ARMv8 verdict says and shows, for the base of an execution graph.
use Rattle.models.specs.Graph.{Base}
use Rattle.models.specs.Armv8.{ob}
use Rattle.verdict.specs.PerLocation.{PerLocation}
use Rattle.verdict.specs.Verdict.{Verdict}

-- Rule 3 is SC-per-location, and rule 5 is of ob.
abbrev pub Judged : Base → Verdict → Type 0
Judged = PerLocation ob

-- What the x86-TSO verdict says and shows (02, slip 6), for the base of an execution graph.
use Rattle.models.specs.Graph.{Base}
use Rattle.models.specs.Tso.{tso}
use Rattle.verdict.specs.PerLocation.{PerLocation}
use Rattle.verdict.specs.Verdict.{Verdict}

-- "rule 3 is ARMv8's": SC-per-location. Rule 5 is of tso: "An allowed line goes by this relation, and a ring shown is a shortest one".
abbrev pub Judged : Base → Verdict → Type 0
Judged = PerLocation tso

-- What the verdict of a model says and shows whose rule 3 is SC-per-location (ARMv8, x86-TSO), for the base of an execution graph.
use Rattle.std.specs.Prelude.{Result, ⊤}
use Rattle.relation.specs.Rel.{nodes}
use Rattle.models.specs.Graph.{Base}
use Rattle.models.specs.Term.{Term, eval}
use Rattle.models.specs.Armv8.{sc_per_loc}
use Rattle.models.specs.Rules.{per_location}
use Rattle.verdict.specs.declared.Broken.{Broken}
use Rattle.verdict.specs.Verdict.{Verdict}
use Rattle.verdict.specs.Shown.{Shown, Tried}

-- The ring of rule 3: each step, the closing one too, is of "po-loc, rf, co, fr together". t is the relation of rule 5.
abbrev pub PerLocation : Term → Base → Verdict → Type 0
PerLocation t B v = Shown (eval nodes sc_per_loc B) (eval nodes sc_per_loc B) (per_location t) B v

-- r is what is found where rules 1 to 4 are tried.
abbrev pub TriedPerLocation : Term → Base → Result ⊤ Broken → Type 0
TriedPerLocation t B r = Tried 4 (eval nodes sc_per_loc B) (eval nodes sc_per_loc B) (per_location t) B r

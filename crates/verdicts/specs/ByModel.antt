-- What a model has, by its name: the side of the files that it judges, its rules, what its verdict shows, the clauses of its rings.
use Rattle.models.specs.Graph.{Base}
use Rattle.models.specs.Rules as models
use Rattle.models.specs.Why.{Clauses, imm_rings, armv8_rings, tso_rings}
use Rattle.layout.specs.Layout.{Side, source, chip}
use Rattle.verdict.specs.Verdict.{Verdict}
use Rattle.imm.specs.Judged as imm
use Rattle.armv8.specs.Judged as armv8
use Rattle.tso.specs.Judged as tso
use Rattle.lines.specs.declared.Model.{Model}
use Rattle.lines.specs.declared.Model.TheVariants.{Source, Chip, Tso}

abbrev pub side_for : Model → Side
side_for Source = source
side_for Chip = chip
side_for Tso = source

abbrev pub model_for : Model → models.Model
model_for Source = models.IMM
model_for Chip = models.ARMv8
model_for Tso = models.TSO

abbrev pub clauses_for : Model → Clauses
clauses_for Source = imm_rings
clauses_for Chip = armv8_rings
clauses_for Tso = tso_rings

abbrev pub JudgedFor : Model → Base → Verdict → Type 0
JudgedFor Source = imm.Judged
JudgedFor Chip = armv8.Judged
JudgedFor Tso = tso.Judged

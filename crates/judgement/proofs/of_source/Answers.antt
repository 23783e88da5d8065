-- `of_source` meets its contract: the verdicts on the file and on its translation, demand 3, and slip 6's assurance.
use Rattle.execution.proofs.BaseOf.{on_recording}
use Rattle.imm.specs.Judged as imm
use Rattle.tso.specs.Judged as tso
use Rattle.judgement.proofs.PrintLaws.{chip_sound, tso_sound}
use Rattle.judgement.proofs.of_source.Goals as goal

pub base-base-requires : goal.base-base-requires
base-base-requires c = c.requires.loads

pub returns-clause-source : goal.returns-clause-source
returns-clause-source c =
    on_recording _ imm.Judged _ _ c.requires.loads (λ B j. j.answer) _ c.base-base.ensures.sets c.base-base.ensures.relations c.judge.ensures

pub returns-clause-tso : goal.returns-clause-tso
returns-clause-tso c =
    on_recording _ tso.Judged _ _ c.requires.loads (λ B j. j.answer) _ c.base-base.ensures.sets c.base-base.ensures.relations c.judge-2.ensures

pub returns-clause-sound : goal.returns-clause-sound
returns-clause-sound c = chip_sound _ _ _ c.requires (returns-clause-source c) c.chip.ensures

pub returns-clause-tso_sound : goal.returns-clause-tso_sound
returns-clause-tso_sound c = tso_sound _ _ _ c.requires (returns-clause-source c) (returns-clause-tso c)

-- Demand 3 and slip 6's assurance, proved.
use Rattle.relation.specs.Rel.{nodes}
use Rattle.models.proofs.Sound.{tso_verdict_sound}
use Rattle.layout.specs.Decode.{decode}
use Rattle.recording.proofs.Loaded.{loads, loaded_within}
use Rattle.translation.proofs.Theorems.{translation_loads, translation_sound}
use Rattle.soundness.specs.Soundness.{imm_verdict, armv8_verdict, tso_verdict, Soundness, TsoSoundness}

pub soundness : Soundness
unfolding imm_verdict armv8_verdict
soundness f s = record { translation_loads = translation_loads f s; allowed_back = translation_sound f s }

pub tso_soundness : TsoSoundness
unfolding imm_verdict tso_verdict
tso_soundness f s = tso_verdict_sound nodes (decode f) (loaded_within f s.loads) (loads f s.loads)

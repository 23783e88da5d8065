-- Slip 7, proved.
use Rattle.models.specs.Rules.{IMM, ARMv8, TSO}
use Rattle.layout.specs.Layout.{source, chip}
use Rattle.soundness.specs.Soundness.{imm_verdict, armv8_verdict, tso_verdict}
use Rattle.imm.specs.Judged as imm
use Rattle.armv8.specs.Judged as armv8
use Rattle.tso.specs.Judged as tso
use Rattle.numbering.specs.Numbering.{Equivalence, VerdictsAgree, TranslationsAgree}
use Rattle.numbering.specs.Answers.{CallsAgree, LinesAgree}
use Rattle.numbering.proofs.Decoded.{verdicts_same}
use Rattle.numbering.proofs.Answers.{call_agrees}
use Rattle.numbering.proofs.Equivalence as equivalence
use Rattle.numbering.proofs.Files.{translations_renumbered}
use Rattle.numbering.proofs.Printed as printed

pub renumbered_equivalence : Equivalence
renumbered_equivalence = equivalence.equivalence

pub verdicts_agree : VerdictsAgree
unfolding imm_verdict armv8_verdict tso_verdict
verdicts_agree f g w = record { imm = verdicts_same f g w IMM; armv8 = verdicts_same f g w ARMv8; tso = verdicts_same f g w TSO }

pub translations_agree : TranslationsAgree
translations_agree = translations_renumbered

pub calls_agree : CallsAgree
calls_agree = record {
  imm = call_agrees source IMM imm.Judged (λ B v j. j.answer) (λ B v j. j.bound);
  armv8 = call_agrees chip ARMv8 armv8.Judged (λ B v j. j.answer) (λ B v j. j.bound);
  tso = call_agrees source TSO tso.Judged (λ B v j. j.answer) (λ B v j. j.bound);
}

pub lines_agree : LinesAgree
lines_agree = printed.lines_agree

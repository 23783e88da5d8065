-- `legal::is_next` meets its contract.
use mathlib.Core.Path.{sym, ◌∙◌}
use mathlib.Core.Bool.{false≢true}
use native.Mathlib.Omega.{arith}
use Rattle.layout.specs.Decode.{decode}
use Rattle.layout.proofs.FieldLaws.{recorded_bounds}
use Rattle.recording.proofs.LegalLaws.{legal_tests}
use Rattle.recording.proofs.legal.is_next.Goals.{then-is_recorded, else-is_recorded}
use Rattle.recording.proofs.legal.is_next.Goals as goal

pub event_byte-requires : goal.event_byte-requires
event_byte-requires c =
    elim c.if-is_recorded.branch [
      | then-is_recorded w ↦ let first = recorded_bounds _ _ (sym c.is_recorded.ensures ∙ w.if-is_recorded.true) in (c.requires, first.0, first.1, omega arith)
      | else-is_recorded w ↦ absurd (false≢true (sym w.if-is_recorded.false ∙ sym w.value-is ∙ c.if-is_recorded-2.true))
    ]

pub returns-then-is_recorded-2 : goal.returns-then-is_recorded-2
unfolding decode
returns-then-is_recorded-2 c = search legal_tests

pub returns-else-is_recorded-2 : goal.returns-else-is_recorded-2
unfolding decode
returns-else-is_recorded-2 c = search legal_tests

-- `event::strong_below` meets its contract: the count grows with each strong write passed.
use native.Mathlib.Omega.{arith}
use Rattle.translation.proofs.SourceFacts.{sized}
use Rattle.translation.proofs.EventLaws.{counted_none, counted_yes, counted_no, counted_all}
use Rattle.translation.proofs.event.strong_below.Goals as goal

pub loop-w-init : goal.loop-w-init
loop-w-init c = counted_none _

pub is_flagged-requires : goal.is_flagged-requires
is_flagged-requires c = sized _ c.requires.0

pub loop-w-preserved : goal.loop-w-preserved
loop-w-preserved c =
    let inv = c.loop-w.invariant in
    let test = c.is_flagged.ensures in
    elim c.if-is_flagged.branch [
      | goal.then-is_flagged w ↦ rw w.n-is (counted_yes _ c.requires.0 _ _ _ test w.if-is_flagged.true inv)
      | goal.else-is_flagged w ↦ rw w.n-is (counted_no _ c.requires.0 _ _ _ test w.if-is_flagged.false inv)
    ]

pub returns : goal.returns
returns c = counted_all _ _ _ _ (omega arith) c.loop-w.invariant

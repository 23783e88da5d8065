-- `grid::passing` meets its contract: the events below i that pass are found.
use mathlib.Core.Path.{ap, subst}
use mathlib.Core.Bool.{Bool}
use Prim.Native.Nat.{ℕ}
use Rattle.relation.specs.Rel.{Set, empty}
use Rattle.relation.proofs.MadeLaws.{passed_with, passed_keep}
use native.Mathlib.Omega.{arith}
use Rattle.relation.proofs.grid.passing.Goals as goal

pub loop-i-init : goal.loop-i-init
unfolding empty
loop-i-init g c = (λ j h. ap (λ (s : Set). s j) c.none-r.ensures, λ j h. absurd (omega arith))

pub loop-i-preserved : goal.loop-i-preserved
loop-i-preserved g c =
    let inv = c.loop-i.invariant in
    let passes : ℕ → Bool → Type 0 = λ j b. g.F.Fn.post c.args.test (j, tt) b in
    elim c.if-test.branch [
      | goal.then-test w ↦ rw w.r-is (passed_with passes inv.0 inv.1 w.with-more.ensures (subst (passes _) w.if-test.true c.test.ensures))
      | goal.else-test w ↦ rw w.r-is (passed_keep passes inv.0 inv.1 (subst (passes _) w.if-test.false c.test.ensures))
    ]

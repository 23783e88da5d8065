-- `grid::closure` meets its contract: one round for each event, row by row.
use mathlib.Core.Path.{refl, sym, ap, ◌∙◌}
use Prim.Native.Nat.{ℕ}
use native.Mathlib.Omega.{arith}
use Rattle.relation.specs.Rel.{empty, union, given, plus, below}
use Rattle.relation.specs.Bits.{edge}
use Rattle.relation.proofs.GridLaws.{mapped_start, mapped_more, mapped_all, through_row, through_rows, through_none, none_in, plus_none, plus_step}
use borrow.Author.Rules.{rules}
use Rattle.relation.proofs.grid.closure.Goals as goal

pub loop-k-init : goal.loop-k-init
loop-k-init c = (plus_none _, search rules)

pub loop-i-init : goal.loop-i-init
unfolding edge union given empty
loop-i-init c = (mapped_start c.loop-k.invariant.1 (λ m h. refl), refl)

pub loop-i-preserved : goal.loop-i-preserved
unfolding edge
loop-i-preserved c =
    let inv = c.loop-i.invariant in (
      mapped_more inv.0 c.loop-i-test.true _
          (c.or.ensures ∙ ap (union _) c.given.ensures ∙ through_row _ _ _ c.has.ensures (inv.0.rows.rest _ (omega arith))),
      inv.1,
    )

pub loop-k-preserved : goal.loop-k-preserved
unfolding edge
loop-k-preserved c =
    let inv = c.loop-k.invariant in
    elim c.if-not-is_empty.branch [
      | goal.then-not-is_empty+else-loop-i-test w ↦ rw w.h-is (mapped_all w.loop-i.invariant.0 w.loop-i-test.false ∙ through_rows _ _ _ w.loop-i.invariant.1 ∙ plus_step _ _ _ inv.0, w.loop-i.invariant.0.rows.long)
      | goal.else-not-is_empty w ↦ rw w.h-is (through_none _ _ (none_in _ (sym c.is_empty.ensures ∙ w.if-not-is_empty.false)) ∙ plus_step _ _ _ inv.0, inv.1)
    ]

pub returns : goal.returns
returns c = c.loop-k.invariant.0 ∙ ap (λ (k : ℕ). plus (below k) (edge c.args.g)) (omega arith)

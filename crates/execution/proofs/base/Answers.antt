-- `base` meets its contract, field by field.
use mathlib.Core.Path.{refl, ap₂, ◌∙◌}
use native.Mathlib.Omega.{arith}
use Rattle.relation.specs.Rel.{union}
use Rattle.models.specs.Graph.{base}
use Rattle.models.specs.Recording.{event, acquire_fence, release_fence, R, W, F, Racq, Rex, Wrel, Wstrong, Facq, Frel, Fsc, Fld, Fsy, Fisb}
use Rattle.layout.specs.Decode.{decode}
use Rattle.recording.proofs.Accepted.{sized}
use Rattle.reading.proofs.SortLaws.{sorted_class, sorted_writes, sorted_mode, sorted_flag, union_three}
use Rattle.execution.proofs.BaseOf.{links_of}
use borrow.Author.Rules.{rules}
use Rattle.execution.proofs.base.Goals as goal

pub returns-clause-sets : goal.returns-clause-sets
unfolding event decode union acquire_fence release_fence
returns-clause-sets c =
    let recorded = c.recorded-recorded.ensures in
    let initial = c.initial-initial.ensures in
    let fits = sized _ c.requires in
    let sorted = c.sorted-classes.ensures in
    let class = sorted_class _ _ recorded _ sorted fits in
    let mode = sorted_mode _ _ recorded _ sorted fits in
    let flag = sorted_flag _ _ recorded _ sorted fits in
    let fence = mode 3 (search rules) _ c.sorted-fences.ensures in
    let two = c.or-both.ensures ∙ ap₂ union (fence 3 (search rules) (search rules)) (fence 4 (search rules) (search rules)) in
    record {
      events = c.or.ensures ∙ ap₂ union initial recorded;
      initial = initial;
      named = elim [
        | R ↦ class 1 (search rules) refl
        | W ↦ sorted_writes _ _ recorded _ sorted fits _ _ initial c.or-2.ensures
        | F ↦ class 3 (search rules) refl
        | Racq ↦ mode 1 (search rules) _ c.sorted-reads.ensures 1 (search rules) (search rules)
        | Rex ↦ flag 1 (search rules) _ c.sorted-exclusive.ensures
        | Wrel ↦ mode 2 (search rules) _ c.sorted-writes.ensures 2 (search rules) (search rules)
        | Wstrong ↦ flag 2 (search rules) _ c.sorted-strong.ensures
        | Facq ↦ union_three _ _ _ _ _ _ c.or-3.ensures (fence 1 (search rules) (search rules)) two
        | Frel ↦ union_three _ _ _ _ _ _ c.or-4.ensures (fence 2 (search rules) (search rules)) two
        | Fsc ↦ fence 4 (search rules) (search rules)
        | Fld ↦ fence 5 (search rules) (search rules)
        | Fsy ↦ fence 6 (search rules) (search rules)
        | Fisb ↦ fence 7 (search rules) (search rules)
      ];
    }

pub returns-clause-relations : goal.returns-clause-relations
unfolding base
returns-clause-relations c =
    let rows = c.rows_by_type-rows.ensures in
    record {
      loc = c.same_location-loc.ensures;
      po = c.program_order-po.ensures;
      rf = links_of rows 1 (omega arith) (omega arith) c.inverse.ensures;
      co = c.coherence.ensures;
      rmw = links_of rows 3 (omega arith) (omega arith) c.inverse-3.ensures;
      «data» = links_of rows 4 (omega arith) (omega arith) c.inverse-4.ensures;
      addr = links_of rows 5 (omega arith) (omega arith) c.inverse-5.ensures;
      ctrl = c.control.ensures;
      casdep = links_of rows 7 (omega arith) (omega arith) c.inverse-7.ensures;
    }

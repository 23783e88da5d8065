-- `graph::sources_by_type` meets its contract.
use mathlib.Core.Path.{sym, ◌∙◌}
use Rattle.layout.proofs.FieldLaws.{recorded_bounds}
use Rattle.reading.proofs.GraphLaws.{sources_none}
use Rattle.reading.proofs.graph.sources_by_type.Goals as goal

pub returns-then-not-is_recorded : goal.returns-then-not-is_recorded
returns-then-not-is_recorded c = sources_none _ _ _ c.none.ensures (sym c.is_recorded.ensures ∙ c.if-not-is_recorded.true)

pub by_type-requires : goal.by_type-requires
by_type-requires c =
    let pre = c.requires in
    let first = recorded_bounds _ _ (sym c.is_recorded.ensures ∙ c.if-not-is_recorded.false) in
    (pre.sized, first.0, first.1, pre.chains _ first.0 first.1)

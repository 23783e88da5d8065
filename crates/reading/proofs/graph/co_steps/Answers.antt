-- `graph::co_steps` meets its contract, call by call.
use Rattle.reading.proofs.GraphLaws.{co_is}
use Rattle.reading.proofs.SortLaws.{recorded_writes}
use Rattle.reading.proofs.graph.co_steps.Goals as goal

pub returns : goal.returns
returns c =
    let pre = c.requires in
    co_is _ _ _ _ _ _ _ _ (recorded_writes _ _ c.recorded.ensures _ c.sorted-classes.ensures pre.0)
    c.initial.ensures c.product-first.ensures
    pre.1 pre.2 c.and.ensures c.or.ensures

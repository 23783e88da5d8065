-- `graph::place_of` meets its contract.
use mathlib.Core.Path.{sym, ◌∙◌}
use Rattle.reading.proofs.GraphLaws.{place_none, place_far, place_here}
use Rattle.reading.proofs.graph.place_of.Goals as goal

pub returns-then-not-is_access : goal.returns-then-not-is_access
returns-then-not-is_access c = place_none _ _ (sym c.is_access.ensures ∙ c.if-not-is_access.true)

pub returns-then-l-lt8 : goal.returns-then-l-lt8
returns-then-l-lt8 c =
    place_here _ _ _ (sym c.is_access.ensures ∙ c.if-not-is_access.false) c.location_of-l.ensures c.if-l-lt8.true

pub returns-else-l-lt8 : goal.returns-else-l-lt8
returns-else-l-lt8 c = place_far _ _ _ c.location_of-l.ensures c.if-l-lt8.false

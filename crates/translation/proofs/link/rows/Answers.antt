-- `link::rows` meets its contract, by type.
use native.Mathlib.Omega.{arith}
use Rattle.translation.proofs.Bounds.{most_events_lem}
use Rattle.translation.proofs.LinkRows.{readable, rows_into}
use Rattle.translation.proofs.link.rows.Goals as goal

pub sources_by_type-h-requires : goal.sources_by_type-h-requires
sources_by_type-h-requires c = readable _ c.requires.0.source

pub row_of-requires : goal.row_of-requires
row_of-requires c = omega (arith, most_events_lem _ c.requires.0.source, c.requires.1.high)

pub returns : goal.returns
returns c =
    rows_into _ c.requires.0.source _ _ _ c.requires.1 c.sources_by_type-h.ensures c.requires.0.grid
    c.none.ensures c.row_of.ensures c.none-2.ensures

-- `link::links_up_to` meets its contract, type by type.
use Rattle.translation.proofs.LinkRows.{LinksCounted}
use Rattle.translation.proofs.link.links_up_to.Given as goal

abbrev pub invariant-loop-row : goal.invariant-loop-row
invariant-loop-row l = LinksCounted l.file l.b l.row-index l.m

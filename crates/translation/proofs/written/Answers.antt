-- `written` meets its contract: refused before anything is written, or written part by part.
use mathlib.Core.Path.{ap, ◌∙◌}
use mathlib.Core.List.{[]}
use native.Mathlib.Omega.{arith}
use Rattle.output.specs.Output.{placed}
use Rattle.translation.proofs.TranslationCall.{refused_short, events_room, links_part, all_written}
use Rattle.translation.proofs.LinkRows.{ends_few}
use Rattle.translation.proofs.written.Goals as goal

pub overflow_mul-length : goal.overflow_mul-length
overflow_mul-length c =
    let few = ends_few _ _ c.requires _ c.new_events-n.result c.ends-ends.ensures (omega arith) in omega (arith, few)

pub overflow_add-length : goal.overflow_add-length
overflow_add-length c =
    let few = ends_few _ _ c.requires _ c.new_events-n.result c.ends-ends.ensures (omega arith) in omega (arith, few, c.new_events-n.ensures.1)

pub returns-then-out-length : goal.returns-then-out-length
returns-then-out-length c =
    refused_short _ _ _ _ c.requires c.new_events-n.ensures.0 (c.ends-ends.ensures.upto _ (omega arith)) c.if-out-length.true

pub header-header-requires : goal.header-header-requires
header-header-requires c = (c.requires, c.new_events-n.ensures.0, (c.ends-ends.ensures.upto _ (omega arith)))

pub write_events-requires : goal.write_events-requires
write_events-requires c = (
  c.requires,
  c.ends-ends.ensures,
  c.new_events-n.ensures.0,
  events_room _ _ _ _ _ c.if-out-length.false (c.put.ensures ∙ ap (placed _ 0) c.header-header.ensures),
)

pub write_links-requires : goal.write_links-requires
write_links-requires c = (
  c.ends-ends.ensures,
  record { source = c.requires; grid = c.ctrl-ctrl.ensures },
  c.new_events-n.ensures.0,
  links_part _ _ _ _ [] _ _ c.requires c.new_events-n.ensures.0 (c.ends-ends.ensures.upto _ (omega arith)) c.if-out-length.false
      (c.put.ensures ∙ ap (placed _ 0) c.header-header.ensures) c.write_events.ensures,
)

pub returns : goal.returns
returns c =
    all_written _ _ _ _ _ _ _ c.requires c.new_events-n.ensures.0 (c.ends-ends.ensures.upto _ (omega arith)) c.if-out-length.false
    (c.put.ensures ∙ ap (placed _ 0) c.header-header.ensures) c.write_events.ensures c.write_links.ensures

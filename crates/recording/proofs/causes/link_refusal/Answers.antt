-- `causes::link_refusal` may call what it calls: what the causes of the records leave, and that the links are sound.
use Rattle.recording.specs.Causes.{bad_link}
use Rattle.recording.proofs.CauseLaws.{threads_of_records, chained_of_records, readable_of}
use Rattle.recording.proofs.causes.link_refusal.Goals as goal

pub program_order-requires : goal.program_order-requires
program_order-requires c = (c.requires.0, threads_of_records _ c.requires.0 c.requires.1)

pub links_sound-requires : goal.links_sound-requires
links_sound-requires c = (chained_of_records _ c.requires.0 c.requires.1, c.program_order.ensures)

pub co_ring-requires : goal.co_ring-requires
unfolding bad_link
co_ring-requires c = readable_of _ (chained_of_records _ c.requires.0 c.requires.1) cc

pub paired-requires : goal.paired-requires
unfolding bad_link
paired-requires c = readable_of _ (chained_of_records _ c.requires.0 c.requires.1) cc

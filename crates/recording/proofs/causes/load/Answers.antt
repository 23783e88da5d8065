-- `causes::load` meets its contract: the causes of one part after the other, and the header where none applies.
use mathlib.Core.Path.{refl, sym}
use Rattle.recording.proofs.CauseLaws.{refused_header, refused_records, refused_links, loaded_of, loads_raised, sized_8}
use Rattle.recording.proofs.causes.load.Goals as goal

pub returns-in_err-header_refusal : goal.returns-in_err-header_refusal
returns-in_err-header_refusal c = loads_raised c.from_residual.ensures.1 (refused_header _ c.in_err-header_refusal.ensures.cause)

pub record_refusal-requires : goal.record_refusal-requires
record_refusal-requires c = c.in_ok-header_refusal.ensures.sized refl

pub returns-in_err-record_refusal : goal.returns-in_err-record_refusal
returns-in_err-record_refusal c =
    loads_raised c.from_residual-in_err-record_refusal.ensures.1
    (refused_records _ c.in_ok-header_refusal.ensures.cause c.in_err-record_refusal.ensures)

pub link_refusal-requires : goal.link_refusal-requires
link_refusal-requires c = (c.in_ok-header_refusal.ensures.sized refl, sym c.in_ok-record_refusal.ensures)

pub returns-in_err-link_refusal : goal.returns-in_err-link_refusal
returns-in_err-link_refusal c =
    loads_raised c.from_residual-in_err-link_refusal.ensures.1
    (refused_links _ c.in_ok-header_refusal.ensures.cause c.in_ok-record_refusal.ensures c.in_err-link_refusal.ensures)

pub header-requires : goal.header-requires
header-requires c = sized_8 _ (c.in_ok-header_refusal.ensures.sized refl)

pub returns : goal.returns
returns c =
    loaded_of _ c.in_ok-header_refusal.ensures.cause c.in_ok-record_refusal.ensures c.in_ok-link_refusal.ensures c.header.ensures

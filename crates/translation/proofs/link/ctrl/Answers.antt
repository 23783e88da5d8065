-- `link::ctrl` meets its contract.
use mathlib.Core.Path.{◌≡◌}
use Rattle.relation.specs.Bits.{edge}
use Rattle.relation.proofs.MadeLaws.{rows_made, from_fact}
use Rattle.translation.specs.Contents.{contents}
use Rattle.translation.specs.Translate.{from_exclusive}
use Rattle.translation.specs.Parts.{recorded_follows}
use Rattle.translation.proofs.LinkRows.{readable, exclusive_out, following_out, ctrl_is}
use borrow.Author.Rules.{rules}
use Rattle.translation.proofs.link.ctrl.Goals as goal

pub links-kept-requires : goal.links-kept-requires
links-kept-requires c = readable _ c.requires

pub links-requires : goal.links-requires
links-requires c = readable _ c.requires

pub returns : goal.returns
returns c =
    let exclusive : edge c.by_rows-exclusive.result ≡ from_exclusive (contents c.args.file.now) =
    rows_made _ _ (search rules) (λ i h. from_fact (c.by_rows-exclusive.ensures i h) (λ k. search rules)) (exclusive_out _ c.requires) in
    let following : edge c.by_rows-following.result ≡ recorded_follows (contents c.args.file.now) =
    rows_made _ _ (search rules) (λ i h. from_fact (c.by_rows-following.ensures i h) (λ k. search rules)) (following_out _ c.requires) in
    rw (c.inverse.ensures, c.or-2.ensures, c.or.ensures, exclusive, c.then-casdep.ensures, following, c.links.ensures, c.links-kept.ensures)
    (ctrl_is _ c.requires)

-- `page::starred` meets its contract: the array is never too short, and the page is what is taken of it.
use mathlib.Core.Path.{ap, ◌∙◌}
use Rattle.printout.specs.Page.{page}
use Rattle.judgement.proofs.PageLaws.{page_fits, page_written}
use borrow.Author.Rules.{rules}
use Rattle.judgement.proofs.page.starred.Goals as goal

pub unwrap-n-requires : goal.unwrap-n-requires
unwrap-n-requires c = page_fits _ _ c.requires c.written.ensures (search rules)

pub of-requires : goal.of-requires
of-requires c = (search rules, (search rules, (page_written _ _ c.requires c.written.ensures c.unwrap-n.ensures).few))

pub returns : goal.returns
returns c = c.of.ensures ∙ (page_written _ _ c.requires c.written.ensures c.unwrap-n.ensures).begins ∙ ap (page c.args.file.now) c.ring_of.ensures

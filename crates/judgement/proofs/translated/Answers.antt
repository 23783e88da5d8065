-- `translated` meets its contract: the array is never too short, and the translation is what is taken of it.
use mathlib.Core.Path.{◌∙◌}
use Rattle.judgement.proofs.ChipLaws.{translation_fits, translation_written}
use borrow.Author.Rules.{rules}
use Rattle.judgement.proofs.translated.Goals as goal

pub unwrap-n-requires : goal.unwrap-n-requires
unwrap-n-requires c = translation_fits _ c.requires c.written.ensures (search rules)

pub of-requires : goal.of-requires
of-requires c = (search rules, (search rules, (translation_written _ c.requires c.written.ensures c.unwrap-n.ensures).few))

pub returns : goal.returns
returns c = c.of.ensures ∙ (translation_written _ c.requires c.written.ensures c.unwrap-n.ensures).begins

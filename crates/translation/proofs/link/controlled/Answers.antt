-- `link::controlled` meets its contract: after the pair's write, or after the read.
use native.Mathlib.Omega.{arith}
use Rattle.translation.proofs.SourceFacts.{sized, limits}
use Rattle.translation.proofs.LinkRows.{readable, pair_is, pair_new, pair_controls, read_controls, old_new}
use borrow.Author.Rules.{rules}
use Rattle.translation.proofs.link.controlled.Goals as goal

pub event_byte-w-requires : goal.event_byte-w-requires
event_byte-w-requires c = (sized _ c.requires.0, c.requires.1, c.requires.2, search rules)

pub sources_of-requires : goal.sources_of-requires
sources_of-requires c = readable _ c.requires.0

pub sources_of-requires-2 : goal.sources_of-requires-2
sources_of-requires-2 c = readable _ c.requires.0

pub has-requires : goal.has-requires
has-requires c = omega (arith, limits _ c.requires.0, c.requires.2)

pub after-requires : goal.after-requires
after-requires c = (
  c.requires.0,
  pair_new _ c.requires.0 (pair_is _ c.requires.0 c.event_byte-w.ensures.0 c.sources_of.ensures
      c.sources_of-2.ensures c.and-both.ensures c.has.ensures) c.if-has.true,
)

pub returns-then-has : goal.returns-then-has
returns-then-has c = (
  pair_controls _ c.requires.0 (pair_is _ c.requires.0 c.event_byte-w.ensures.0 c.sources_of.ensures
      c.sources_of-2.ensures c.and-both.ensures c.has.ensures) c.if-has.true _ c.after.ensures.0,
  c.after.ensures.1,
)

pub after-requires-2 : goal.after-requires-2
after-requires-2 c = (c.requires.0, old_new _ c.requires.0 _ c.requires.1 c.requires.2)

pub returns : goal.returns
returns c = (
  read_controls _ c.requires.0 (pair_is _ c.requires.0 c.event_byte-w.ensures.0 c.sources_of.ensures
      c.sources_of-2.ensures c.and-both.ensures c.has.ensures) c.if-has.false _ c.after-2.ensures.0,
  c.after-2.ensures.1,
)

-- `write::header` meets its contract, byte by byte.
use native.Mathlib.Omega.{arith}
use Rattle.layout.specs.Chains.{start_of}
use Rattle.translation.specs.Contents.{contents}
use Rattle.translation.specs.Translate.{translated}
use Rattle.translation.specs.Encode.{header}
use Rattle.translation.proofs.SourceFacts.{sized}
use Rattle.translation.proofs.Bounds.{most_events_lem, most_links_lem}
use Rattle.translation.proofs.write.header.Goals as goal

pub overflow_cast-result : goal.overflow_cast-result
overflow_cast-result c = omega (arith, c.requires.1, most_events_lem _ c.requires.0)

pub bounds-file-2 : goal.bounds-file-2
bounds-file-2 c = omega (arith, (sized _ c.requires.0).long)

pub overflow_cast-result-2 : goal.overflow_cast-result-2
overflow_cast-result-2 c = let pre = c.requires in omega (arith, pre.2, most_links_lem _ pre.0 c.args.n)

pub bounds-file-4 : goal.bounds-file-4
bounds-file-4 c = omega (arith, (sized _ c.requires.0).long)

pub bounds-file-5 : goal.bounds-file-5
bounds-file-5 c = omega (arith, (sized _ c.requires.0).long)

pub bounds-file-6 : goal.bounds-file-6
bounds-file-6 c = omega (arith, (sized _ c.requires.0).long)

pub bounds-file-7 : goal.bounds-file-7
bounds-file-7 c = omega (arith, (sized _ c.requires.0).long)

pub returns : goal.returns
unfolding header translated contents start_of
returns c = cc

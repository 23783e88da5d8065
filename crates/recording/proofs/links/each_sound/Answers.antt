-- `links::each_sound` meets its contract: the test of a link, along the links into b.
use mathlib.Core.Path.{refl}
use Rattle.std.proofs.Common.{rules, tests}
use Rattle.std.proofs.lemmas.Iterator.Adapters.{serves_from_places}
use Rattle.recording.specs.Causes.{link_sound}
use Rattle.recording.proofs.AllLaws.{all_yielded}
use Rattle.recording.proofs.IntoLaws.{link_in, links_yielded}
use Rattle.recording.proofs.links.each_sound.Goals as goal

pub all-requires-clause-callable : goal.all-requires-clause-callable
all-requires-clause-callable c =
    let pre = c.requires in
    serves_from_places (links_yielded c.into.ensures) (λ x q k. search rules) (λ x k h e.
    let m = link_in pre.0 pre.2 pre.3 refl h e in
    search rules)

pub returns : goal.returns
returns c = all_yielded (link_sound c.args.file.now c.args.b) _ (λ x b q k. search (rules, tests)) c.all.ensures.ran (links_yielded c.into.ensures)

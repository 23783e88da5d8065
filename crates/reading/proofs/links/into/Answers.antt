-- `links::into` meets its contract: from the first link into b on, at most all links are followed, and one more.
use Rattle.reading.proofs.LinkLaws.{whole}
use Rattle.reading.proofs.links.into.Goals as goal

pub returns : goal.returns
returns c = whole c.args.file.now c.args.b c.links.result c.start.result.at c.links.ensures.0 c.start.ensures.0

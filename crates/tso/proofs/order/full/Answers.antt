-- `order::full` meets its contract: its definition, call by call.
use Rattle.models.specs.Term.{eval}
use Rattle.models.specs.Tso.{full}
use Rattle.verdict.specs.Base.{base_of}
use Rattle.verdict.proofs.TermLaws.{holds, terms}
use Rattle.tso.proofs.order.full.Goals as goal

pub returns : goal.returns
unfolding eval base_of
returns c = holds (base_of c.args.b.now) full (search terms depth 9)

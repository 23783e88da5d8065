-- `rules::broken_pairs` meets its contract: its definition, call by call.
use Rattle.models.specs.Term.{eval}
use Rattle.models.specs.Rules.{broken_pair}
use Rattle.verdict.proofs.TermLaws.{holds, terms}
use Rattle.verdict.proofs.rules.broken_pairs.Goals as goal

pub returns : goal.returns
unfolding eval
returns c = λ B p q r. holds B broken_pair (search terms depth 9)

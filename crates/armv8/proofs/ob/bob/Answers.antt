-- `ob::bob` meets its contract: its clauses, call by call.
use Rattle.models.specs.Term.{eval}
use Rattle.verdict.specs.Base.{base_of}
use Rattle.verdict.proofs.TermLaws.{terms}
use Rattle.clause.proofs.StepLaws.{held_each, arrays}
use Rattle.armv8.proofs.ob.bob.Goals as goal

pub returns : goal.returns
unfolding eval base_of
returns c = held_each (search (arrays, terms) depth 12)

-- `hb::steps` meets its contract: po and sw.
use Rattle.models.specs.Term.{po, ◌∪◌, eval}
use Rattle.models.specs.Imm.{sw}
use Rattle.verdict.specs.Base.{base_of}
use Rattle.verdict.proofs.TermLaws.{holds, terms}
use Rattle.imm.proofs.hb.steps.Goals as goal

pub returns : goal.returns
unfolding eval base_of
returns c = holds (base_of c.args.b.now) (po ∪ sw) (search terms)

-- `why::order` meets its contract: what the clauses of ar are made of, call by call.
use Rattle.models.specs.Term.{eval}
use Rattle.models.specs.Imm.{hb}
use Rattle.verdict.specs.Base.{base_of}
use Rattle.verdict.proofs.TermLaws.{holds, given, is_plus}
use Rattle.imm.proofs.why.order.Goals as goal

pub returns : goal.returns
unfolding eval
returns c =
    c.clauses.ensures (holds (base_of c.args.b.now) hb (is_plus c.closure-hb.ensures (given c.steps.ensures))) (c.eco-eco.ensures c.fr.ensures)

-- `why::order` meets its contract: the clauses of ob, by fre.
use mathlib.Core.Path.{refl}
use Rattle.models.specs.Term.{eval, frₑ}
use Rattle.verdict.specs.Base.{base_of}
use Rattle.verdict.proofs.TermLaws.{holds, given, is_minus}
use Rattle.armv8.proofs.why.order.Goals as goal

pub returns : goal.returns
unfolding eval base_of
returns c = c.clauses.ensures (holds (base_of c.args.b.now) frₑ (is_minus c.minus.ensures (given c.fr.ensures) (given refl)))

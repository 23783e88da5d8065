-- `rules::unread` meets its contract: its definition, call by call.
use mathlib.Core.Path.{refl}
use Rattle.verdict.specs.Base.{base_of}
use Rattle.verdict.proofs.PairLaws.{unread_is}
use Rattle.verdict.proofs.rules.unread.Goals as goal

pub returns : goal.returns
unfolding base_of
returns c = unread_is c.all.ensures c.image.ensures c.minus.ensures (base_of c.args.base.now) refl refl

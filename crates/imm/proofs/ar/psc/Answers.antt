-- `ar::psc` meets its contract: from SC fences only, and into them only.
use mathlib.Core.Path.{refl}
use Rattle.models.specs.Term.{eval}
use Rattle.models.specs.Imm.{psc}
use Rattle.verdict.specs.Base.{base_of}
use Rattle.verdict.proofs.TermLaws.{given, holds, is_then, is_set, is_before, is_after, is_assoc}
use Rattle.imm.proofs.ar.psc.Goals as goal

pub returns : goal.returns
unfolding eval base_of
returns c =
    λ h k. let last = is_then c.then-last.ensures (given k) (is_after _ c.into.ensures (given h) (is_set refl refl)) in
    holds (base_of c.args.b.now) psc (is_assoc (is_then c.then.ensures (is_before _ c.from.ensures (is_set refl refl) (given h)) last))

-- `hb::eco` meets its contract: co and fr go on together.
use mathlib.Core.Path.{refl, sym, ap, ◌∙◌}
use Rattle.relation.specs.Rel.{Rel, either, compose, nodes}
use Rattle.relation.specs.Bits.{edge}
use Rattle.models.specs.Term.{eval}
use Rattle.models.specs.Imm.{eco}
use Rattle.relation.proofs.ComposeLaws.{either_compose, either_assoc}
use Rattle.verdict.specs.Base.{base_of}
use Rattle.verdict.proofs.TermLaws.{holds, given, is_union, is_then, is_opt}
use Rattle.imm.proofs.hb.eco.Goals as goal

pub returns : goal.returns
unfolding eval base_of
returns c =
    λ r. let b = c.args.b.now in
    let rest = edge c.optional.result in
    let parted = c.then.ensures ∙ ap (λ (s : Rel). compose nodes s rest) c.or.ensures ∙ either_compose (edge b.co) (edge c.args.fr) rest in
    holds (base_of b) eco
    (is_union (c.or-2.ensures ∙ ap (either (edge b.rf)) parted ∙ sym (either_assoc _ _ _))
    (is_union refl (given refl) (is_then refl (given refl) (is_opt c.optional.ensures refl (given refl))))
    (is_then refl (given r) (is_opt c.optional.ensures refl (given refl))))

-- `ar::clauses` meets its contract: the clauses of its parts, one after the other.
use mathlib.Core.Path.{refl}
use mathlib.Core.List.{[], ◌∷◌}
use Rattle.models.specs.Recording.{W, Wstrong}
use Rattle.models.specs.Term.{eval, po, ⟨◌⟩, ◌⨾◌}
use Rattle.models.specs.Imm.{bob_clauses}
use Rattle.verdict.specs.Base.{base_of}
use Rattle.verdict.proofs.TermLaws.{holds, given, is_set, is_before, is_after}
use Rattle.clause.proofs.StepLaws.{held_at}
use Rattle.imm.proofs.ar.clauses.Goals as goal

pub returns : goal.returns
unfolding eval base_of
returns c =
    λ h e. let B = base_of c.args.b.now in
    let b = held_at bob_clauses B _ c.bob-bob.ensures in
    let strong = holds B (⟨ Wstrong ⟩ ⨾ po ⨾ ⟨ W ⟩) (is_before _ c.from-strong.ensures (is_set refl refl) (is_after _ c.into.ensures (given refl) (is_set refl refl))) in
    record { clauses = λ n. c.rfe.ensures n ∷ b 0 n ∷ b 1 n ∷ b 2 n ∷ b 3 n ∷ b 4 n ∷ c.ppo.ensures n ∷ c.detour.ensures n ∷ c.psc.ensures h e n ∷ strong n ∷ [] }

-- `order::clauses` meets its contract: the clauses of its parts, one after the other.
use mathlib.Core.Path.{refl}
use mathlib.Core.List.{[], ◌∷◌}
use Rattle.models.specs.Term.{eval}
use Rattle.models.specs.Tso.{ppo_clauses, fenced_clauses}
use Rattle.verdict.specs.Base.{base_of}
use Rattle.clause.proofs.StepLaws.{held_at}
use Rattle.tso.proofs.order.clauses.Goals as goal

pub returns : goal.returns
unfolding eval base_of
returns c =
    λ fr. let B = base_of c.args.b.now in
    let p = held_at ppo_clauses B _ c.ppo-ppo.ensures in
    let f = held_at fenced_clauses B _ c.fenced-fenced.ensures in
    let co = refl {a = B.co} in
    record { clauses = λ n. p 0 n ∷ p 1 n ∷ f 0 n ∷ f 1 n ∷ c.rfe.ensures n ∷ co n ∷ fr n ∷ [] }

-- `ob::clauses` meets its contract: the clauses of its parts, one after the other.
use mathlib.Core.List.{[], ◌∷◌}
use Rattle.models.specs.Term.{eval}
use Rattle.models.specs.Armv8.{dob_clauses, aob_clauses, bob_clauses}
use Rattle.verdict.specs.Base.{base_of}
use Rattle.clause.proofs.StepLaws.{held_at}
use Rattle.armv8.proofs.ob.clauses.Goals as goal

pub returns : goal.returns
unfolding eval base_of
returns c =
    λ fre. let B = base_of c.args.b.now in
    let d = held_at dob_clauses B _ c.dob-dob.ensures in
    let a = held_at aob_clauses B _ c.aob-aob.ensures in
    let b = held_at bob_clauses B _ c.bob-bob.ensures in
    record { clauses = λ n. c.rfe.ensures n ∷ fre n ∷ c.coe.ensures n ∷ d 0 n ∷ d 1 n ∷ d 2 n ∷ d 3 n ∷ a 0 n ∷ a 1 n ∷ b 0 n ∷ b 1 n ∷ b 2 n ∷ b 3 n ∷ b 4 n ∷ [] }

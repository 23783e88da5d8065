-- `shown::atomicity` meets its contract: the first broken pair, or none is.
use mathlib.Core.Path.{ap}
use Rattle.models.specs.Rules.{failures}
use Rattle.models.proofs.FirstLaws.{at}
use Rattle.verdict.specs.Verdict.{number}
use Rattle.verdict.proofs.PairLaws.{pair_none}
use Rattle.verdict.proofs.ShownLaws.{pair_same, next_rule, tried_broken, tried_holds, shown_4}
use Rattle.verdict.proofs.shown.atomicity.Goals as goal

pub returns-in-Some : goal.returns-in-Some
returns-in-Some c =
    λ M B s e hold p q r.
    let (rule, events) = c.broken_pair.ensures in
    tried_broken (shown_4 M B s e _ hold (pair_same (c.broken_pairs-pairs.ensures B p q r) c.in-Some.ensures) (ap number rule) events)

pub returns : goal.returns
unfolding failures at
returns c =
    λ M B s e hold p q r.
    tried_holds (next_rule M B 3 hold (pair_none (pair_same (c.broken_pairs-pairs.ensures B p q r) c.in_default.ensures)))

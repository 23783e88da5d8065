-- `rules::unordered` meets its contract. No write that is passed has an unsettled peer; in the turn of `first` no peer that is passed is unsettled.
use mathlib.Core.Path.{◌≡◌}
use Rattle.std.specs.Prelude.{None}
use Rattle.relation.specs.Rel.{members}
use Rattle.relation.specs.Bits.{on, bit, edge}
use Rattle.verdict.proofs.PairLaws.{Passing, Turn}
use Rattle.verdict.proofs.rules.unordered.Given as goal

abbrev pub invariant-loop-second : goal.invariant-loop-second
invariant-loop-second l =
    (goal.iterator-loop-second).can_next l.second-iterator × (goal.iterator-loop-second).is_finite l.second-iterator
    × Turn (bit l.base.writes) (edge l.base.loc) (edge l.settled) l.first (members (on l.second-iterator.rest)) × (l.found ≡ None)

abbrev pub invariant-pairs : goal.invariant-pairs
invariant-pairs l =
    (goal.iterator-pairs).can_next l.first-iterator × (goal.iterator-pairs).is_finite l.first-iterator
    × Passing (bit l.base.writes) (edge l.base.loc) (edge l.settled) (members (on l.first-iterator.rest)) × (l.found ≡ None)

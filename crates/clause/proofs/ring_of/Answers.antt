-- `ring_of` meets its contract, by the rule.
use mathlib.Core.Path.{sym, ap, ◌∙◌}
use native.Mathlib.Omega.{arith}
use Rattle.clause.specs.Steps.{ring}
use Rattle.clause.proofs.StepLaws.{ring_shown, no_ring_shown}
use Rattle.clause.proofs.ring_of.Goals as goal

pub returns-in_default-clause-ring : goal.returns-in_default-clause-ring
unfolding ring
returns-in_default-clause-ring c = sym (ap ring c.in_default.is)

pub returns-in-Coherence-clause-ring : goal.returns-in-Coherence-clause-ring
returns-in-Coherence-clause-ring c = c.as_slice.ensures.value ∙ sym (ap ring c.in-Err.is ∙ ring_shown c.in-Err.broken c.in-Coherence.is)

pub returns-in-Reads : goal.returns-in-Reads
returns-in-Reads c =
    record { ring = sym (ap ring c.in-Err.is ∙ no_ring_shown c.in-Err.broken c.in-Reads.is); bounded = omega arith }

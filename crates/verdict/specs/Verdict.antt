-- A verdict by 01's numbers, and the events that it shows.
use Rattle.std.specs.Prelude.{List, ℕ, Result, Ok, Err}
use Rattle.sequence.specs.Items.{Items}
use Rattle.verdict.specs.declared.Broken.{Broken}
use Rattle.verdict.specs.declared.Rule.{Rule}
use Rattle.verdict.specs.declared.Rule.TheVariants.{Reads, Writes, Coherence, Atomicity, Acyclicity}

abbrev pub number : Rule → ℕ
number Reads = 1
number Writes = 2
number Coherence = 3
number Atomicity = 4
number Acyclicity = 5

-- Allowed or broken.
abbrev pub Verdict : Type 0
Verdict = Result (Items ℕ) Broken

-- The number of the first broken rule ("first broken one named"), and 0 where none is, as `verdict` of `models`.
abbrev pub rule_of : Verdict → ℕ
rule_of (Ok events) = 0
rule_of (Err broken) = number broken.rule

-- The events that it shows.
abbrev pub events : Verdict → List ℕ
events (Ok all) = all.items
events (Err broken) = broken.events.items

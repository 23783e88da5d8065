-- `chain::follow` meets its contract: what is left of the chain decides what the whole does.
use mathlib.Core.Path.{◌≡◌}
use mathlib.Core.List.{List}
use Prim.Native.Nat.{ℕ, ◌+◌, ◌-◌, ◌<◌}
use lib.ListN.{length}
use Rattle.layout.specs.Chains.{next_of, chain, Linked, Marked}
use Rattle.layout.proofs.ChainLaws.{Going}
use Rattle.layout.proofs.chain.follow.Given as goal

abbrev pub invariant-loop : goal.invariant-loop
invariant-loop w = Linked w.file 0 0 0 w.from w.size w.limit × (w.cursor.at < 256) × (length w.marks ≡ 256)
    × ((l : List ℕ) → Marked l w.initial.marks → Going w.limit (next_of w.file w.from w.size) l (chain w.limit (next_of w.file w.from w.size) w.initial.cursor.at) (w.limit + 1 - w.counter) w.cursor.at w.marks)

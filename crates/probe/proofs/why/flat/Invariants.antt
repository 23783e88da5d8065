-- `why::flat`: the bytes of the steps before the one that is next are put.
use Rattle.std.proofs.Common.{◌≡◌, ◌*◌, length, take}
use Rattle.probe.specs.Calls.{bytes_of}
use Rattle.probe.proofs.why.flat.Given as goal

abbrev pub invariant-loop-step : goal.invariant-loop-step
invariant-loop-step l = (l.bytes.items ≡ bytes_of (take l.step-index l.steps)) × (length l.bytes.items ≡ 3 * l.step-index)

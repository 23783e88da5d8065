-- `answered` meets its contract, by cases.
use mathlib.Core.Path.{ap, subst, ◌∙◌}
use Prim.Native.Nat.{ℕ, ◌≤◌}
use native.Mathlib.Omega.{arith}
use Rattle.std.specs.Prelude.{Result, IfOk}
use Rattle.refusal.specs.declared.Refusal.{Refusal}
use Rattle.output.specs.Output.{Fills}
use Rattle.probe.specs.Calls.{coded}
use Rattle.probe.proofs.ProbeLaws.{stored_ok, stored_err}
use Rattle.probe.proofs.answered.Goals as goal

pub coded-requires : goal.coded-requires
coded-requires c = omega (arith, subst (λ (r : Result ℕ Refusal). IfOk r (λ n. n ≤ 1458)) c.in-Ok.is c.requires)

pub returns-in-Ok : goal.returns-in-Ok
returns-in-Ok c = λ k bytes out left w. stored_ok (subst (λ (r : Result ℕ Refusal). Fills k bytes out r left) c.in-Ok.is w) c.coded.ensures

pub returns-in-Err : goal.returns-in-Err
returns-in-Err c = λ k bytes out left w.
    stored_err (subst (λ (r : Result ℕ Refusal). Fills k bytes out r left) c.in-Err.is w)
    (c.coded-in-Err.ensures ∙ ap (λ (j : ℕ). coded j 0 0) c.number.ensures)

-- `table::longest` meets its contract, thread by thread.
use mathlib.Core.Path.{◌≡◌, ap, ◌∙◌}
use Prim.Native.Nat.{ℕ}
use native.Mathlib.Omega.{arith}
use Rattle.layout.specs.Layout.{threads}
use Rattle.recording.proofs.Accepted.{sized}
use Rattle.printout.specs.Page.{longest, thread_lists}
use Rattle.printout.proofs.TableLaws.{few_in_thread, larger_is, longest_none, longest_more}
use Rattle.printout.proofs.table.longest.Goals as goal

pub loop-t-init : goal.loop-t-init
loop-t-init c = (omega arith, longest_none _)

pub length_of-requires : goal.length_of-requires
length_of-requires c = (sized _ c.requires, c.loop-t-test.true)

pub loop-t-preserved : goal.loop-t-preserved
loop-t-preserved c =
    let inv = c.loop-t.invariant in
    let length = c.length_of.ensures in
    let larger = c.max-r.ensures ∙ larger_is _ _ in
    (omega (arith, larger, inv.0, length, few_in_thread _ c.requires _ c.loop-t-test.true), larger ∙ longest_more _ _ _ _ inv.1 length)

pub returns : goal.returns
returns c =
    let inv = c.loop-t.invariant in
    let all : c.loop-t.t ≡ threads = omega arith in
    (inv.1 ∙ ap (λ (k : ℕ). longest (thread_lists c.args.file.now k)) all, inv.0)

-- `block::members` meets its contract: the members of the part gone over are in the row.
use mathlib.Core.Path.{ap, ◌∙◌}
use Prim.Native.Nat.{ℕ}
use Rattle.relation.specs.Rel.{single, union}
use Rattle.relation.specs.Bits.{bit}
use Rattle.printout.proofs.BlockLaws.{members_none, members_more, members_all}
use Rattle.printout.proofs.block.members.Goals as goal

pub loop-e-init : goal.loop-e-init
loop-e-init c = members_none _ c.none-r.ensures

pub loop-e-preserved : goal.loop-e-preserved
loop-e-preserved c =
    members_more _ _ _ _ c.loop-e-test.true c.loop-e.invariant
    (λ j h. c.with-more.ensures j h ∙ ap (λ (x : ℕ). union (bit c.loop-e.r) (single x) j) c.from.ensures)

pub returns : goal.returns
returns c = members_all _ _ _ c.loop-e-test.false c.loop-e.invariant

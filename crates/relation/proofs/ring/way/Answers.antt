-- `ring::way` meets its contract: it ends where e closes it.
use mathlib.Core.Path.{◌≡◌, ap, ◌∙◌}
use Prim.Native.Nat.{ℕ}
use Rattle.std.specs.Prelude.{Some}
use Rattle.relation.specs.Rel.{intersection}
use Rattle.relation.specs.Bits.{edge}
use Rattle.relation.proofs.RingLaws.{Picked, picked_some, picked_first, closing_reached, levels_lead, way_of_steps}
use Rattle.relation.proofs.ring.way.Goals as goal

-- The way's last event.
last : (c : goal.After-first) {k : ℕ} → c.first.result ≡ Some k → Picked (edge c.levels-h.result c.args.n) (edge c.args.e) c.args.s k
unfolding edge
last c e =
    let pre = c.requires in
    picked_first _ _ _ _ (closing_reached _ _ _ pre.1 c.levels-h.ensures pre.2) (c.and.ensures ∙ ap (intersection _) c.column.ensures)
    c.first.ensures e

pub unwrap-x-requires : goal.unwrap-x-requires
unfolding edge
unwrap-x-requires c =
    let pre = c.requires in
    picked_some _ _ _ _ (closing_reached _ _ _ pre.1 c.levels-h.ensures pre.2) (c.and.ensures ∙ ap (intersection _) c.column.ensures)
    c.first.ensures

pub steps_back-requires : goal.steps_back-requires
steps_back-requires c =
    let x = last c.before.before c.unwrap-x.ensures in
    (c.requires.1, x.inside, x.member, levels_lead _ _ _ _ c.levels-h.ensures c.inverse.ensures)

pub returns : goal.returns
returns c =
    way_of_steps c.requires.1 c.levels-h.ensures c.inverse.ensures (last c.before.before.before c.unwrap-x.ensures).leads c.steps_back.ensures

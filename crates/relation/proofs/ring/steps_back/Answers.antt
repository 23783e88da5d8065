-- `ring::steps_back` meets its contract: each event but the last leads to the one after it.
use mathlib.Core.Path.{◌≡◌, ap, ◌∙◌}
use mathlib.Core.List.{List, [], ◌∷◌, ◌++◌}
use Prim.Native.Nat.{ℕ, ◌-◌}
use Rattle.std.specs.Prelude.{Some}
use native.Mathlib.Omega.{arith}
use Rattle.relation.specs.Rel.{inverse}
use Rattle.relation.specs.Bits.{edge}
use Rattle.relation.proofs.RingLaws.{Picked, picked_some, picked_first, back_start, back_reached, back_more, back_all}
use Rattle.relation.proofs.ring.steps_back.Goals as goal

-- The event before y.
before : (c : goal.After-first) {k : ℕ} → c.first.result ≡ Some k → Picked (edge c.args.h (c.loop-k.k - 1)) (inverse (edge c.args.b)) c.loop-k.y k
unfolding edge inverse
before c e = picked_first _ _ _ _ (back_reached c.loop-k.invariant (omega arith) c.requires.0 c.requires.3) c.and.ensures c.first.ensures e

pub loop-k-init : goal.loop-k-init
loop-k-init c = back_start (c.push.ensures.items ∙ ap (λ (l : List ℕ). l ++ c.args.x ∷ []) c.new-events.ensures) c.requires.1 c.requires.2

pub unwrap-y-requires : goal.unwrap-y-requires
unfolding edge inverse
unwrap-y-requires c =
    picked_some _ _ _ _ (back_reached c.loop-k.invariant (omega arith) c.requires.0 c.requires.3) c.and.ensures c.first.ensures

pub overflow_cast-y : goal.overflow_cast-y
overflow_cast-y c = record { fits = omega (arith, (before c.before.before c.unwrap-y.ensures).inside) }

pub loop-k-preserved : goal.loop-k-preserved
loop-k-preserved c = back_more c.loop-k.invariant (omega arith) c.push-in-loop-k.ensures.items (before c.before.before.before c.unwrap-y.ensures)

pub returns : goal.returns
returns c = back_all c.loop-k.invariant c.loop-k-test.false c.reverse.ensures

-- `order::order` meets its contract: what is out, followed by the order of what is left, is the order of all.
use mathlib.Core.Path.{sym, ap, ◌∙◌}
use native.Mathlib.Omega.{arith}
use Rattle.relation.specs.Rel.{count}
use Rattle.relation.proofs.OrderLaws.{order_inverse, out_none, out_next, out_more, out_all}
use borrow.Author.Rules.{rules}
use Rattle.relation.proofs.order.order.Goals as goal

pub loop-k-init : goal.loop-k-init
loop-k-init c = out_none _ _ c.new-events.ensures

pub overflow_cast-k : goal.overflow_cast-k
overflow_cast-k c = record { fits = omega (arith, (out_next c.loop-k.invariant (sym c.in-Some.ensures)).0) }

pub push-requires : goal.push-requires
push-requires c = (search rules, omega (arith, c.loop-k.invariant.room, (out_next c.loop-k.invariant (sym c.in-Some.ensures)).1))

pub without-rest-requires : goal.without-rest-requires
without-rest-requires c = (out_next c.loop-k.invariant (sym c.in-Some.ensures)).0

pub loop-k-smaller : goal.loop-k-smaller
loop-k-smaller c =
    omega (arith, ap (count 64) c.without-rest.ensures, (out_next c.loop-k.invariant (sym c.in-Some.ensures)).1)

pub loop-k-preserved : goal.loop-k-preserved
loop-k-preserved c = out_more c.loop-k.invariant (sym c.in-Some.ensures) _ c.without-rest.ensures c.push.ensures.items

pub returns-clause-ordered : goal.returns-clause-ordered
returns-clause-ordered c = out_all c.loop-k.invariant (sym c.in_default.ensures) ∙ order_inverse _ _ _ c.inverse-before.ensures

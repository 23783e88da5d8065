-- `next` of the members of a set gives the lowest set bit and clears it.
use mathlib.Core.Path.{ap}
use native.Mathlib.Omega.{arith}
use lib.ListN.{length}
use mir.Syntax.{w64}
use mir.Val.{Fits}
use Rattle.relation.proofs.WordLaws.{members_on, members_on_none, lowest_inside}
use borrow.Author.Rules.{rules}
use Rattle.relation.proofs.row.MemberIterIterator.next.Goals as goal

pub returns-then-w-eq0-clause-steps : goal.returns-then-w-eq0-clause-steps
returns-then-w-eq0-clause-steps c = let e = members_on_none _ c.if-w-eq0.true in ((e, e), search rules)

pub returns-clause-steps : goal.returns-clause-steps
returns-clause-steps c =
    let f : Fits w64 c.args.self.now.rest = search rules in (members_on _ c.if-w-eq0.false f.fits, lowest_inside _ c.if-w-eq0.false f.fits)

pub returns-clause-goes : goal.returns-clause-goes
returns-clause-goes c =
    let f : Fits w64 c.args.self.now.rest = search rules in
    let fewer = ap length (members_on _ c.if-w-eq0.false f.fits) in
    record { on = λ h. (search rules, search rules, omega (arith, fewer)); keeps = search rules; rests = search rules }

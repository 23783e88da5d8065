-- `next` of the links into an event gives the link at which the walk stands, and goes on to the one that follows it.
use mathlib.Core.Path.{ap, sym, ◌∙◌}
use mathlib.Core.Logic.{inl, inr}
use native.Mathlib.Omega.{arith}
use lib.ListN.{length}
use borrow.Author.Rules.{rules}
use Rattle.reading.proofs.LinkLaws.{over, walk_onward}
use Rattle.reading.proofs.links.LinkIterIterator.next.Goals as goal
use Rattle.reading.proofs.links.LinkIterIterator.next.Goals.{then-self-eq0-via-then-self-eq0, then-self-eq0-via-else-self-eq0+then-m-eq0}

pub returns-then-self-eq0-clause-steps : goal.returns-then-self-eq0-clause-steps
returns-then-self-eq0-clause-steps c =
    let none = sym c.self.view_is ∙ over c.self.inside.file.now c.self.inside.left c.self.inside.cursor.at (elim c.then-self-eq0.branch [
      | then-self-eq0-via-then-self-eq0 w ↦ inl w.if-self-eq0.true
      | then-self-eq0-via-else-self-eq0+then-m-eq0 w ↦ inr w.if-m-eq0.true
    ]) in
    ((none, none), tt)

pub moved-self-inside-requires : goal.moved-self-inside-requires
moved-self-inside-requires c = let here = walk_onward c.self.invariant c.if-self-eq0.false c.if-m-eq0.false in (omega (arith, c.if-m-eq0.false), here.room)

pub invariant_of-self : goal.invariant_of-self
invariant_of-self c = (walk_onward c.self.invariant c.if-self-eq0.false c.if-m-eq0.false).on _ c.moved-self-inside.ensures.0

pub returns-clause-steps : goal.returns-clause-steps
returns-clause-steps c =
    let here = walk_onward c.self.invariant c.if-self-eq0.false c.if-m-eq0.false in
    (sym c.self.view_is ∙ here.next _ c.moved-self-inside.ensures.0, omega (arith, c.if-m-eq0.false))

pub returns-clause-goes : goal.returns-clause-goes
returns-clause-goes c =
    let here = walk_onward c.self.invariant c.if-self-eq0.false c.if-m-eq0.false in
    let fewer = ap length (sym c.self.view_is ∙ here.next _ c.moved-self-inside.ensures.0) in
    record { on = λ h. (search rules, search rules, omega (arith, fewer)); keeps = search rules; rests = search rules }

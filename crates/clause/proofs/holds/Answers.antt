-- `holds` meets its contract: a grid holds no pair of numbers from 64 on.
use mathlib.Core.Bool.{false}
use mathlib.Core.Path.{◌≡◌, sym, ◌∙◌}
use mathlib.Core.List.{List}
use mathlib.Core.Logic.{inl, inr}
use Prim.Native.Nat.{ℕ, ◌<◌, ◌≤◌}
use native.Mathlib.Omega.{arith}
use borrow.Author.Tests.{le-ltb}
use lib.ListN.{length}
use Rattle.relation.specs.Bits.{edge}
use Rattle.relation.proofs.Truth.{is_false}
use Rattle.relation.proofs.Walks.{edge_inside}
use borrow.Author.Rules.{rules}
use Rattle.clause.proofs.holds.Goals.{then-a-lt64, else-a-lt64}
use Rattle.clause.proofs.holds.Goals as goal

outside : (g : List (List ℕ)) → length g ≡ 64 → (a b : ℕ) → (a < 64 → b < 64 → ⊥) → false ≡ edge g a b
outside g l a b h = let inside = edge_inside g l in sym (is_false (edge g a b) (λ e. h (inside.source a b e) (inside.target a b e)))

pub returns-else-b-lt64 : goal.returns-else-b-lt64
returns-else-b-lt64 c =
    elim c.if-a-lt64.branch [
      | then-a-lt64 w ↦
          let high : 64 ≤ c.args.b = elim c.if-b-lt64.either [ inl p ↦ p.1 | inr q ↦ absurd (omega (arith, q, w.if-a-lt64.true)) ] in
          w.t-5-is ∙ le-ltb _ 64 high ∙ outside _ (search rules) _ _ (λ p q. omega arith)
      | else-a-lt64 w ↦ w.t-5-is ∙ le-ltb _ 64 w.if-a-lt64.false ∙ outside _ (search rules) _ _ (λ p q. omega (arith, w.if-a-lt64.false))
    ]

-- `causes::over_limit` meets its contract: where neither of the first two tests applies, the links decide.
use mathlib.Core.Path.{◌≡◌, sym, ap, ◌∙◌}
use Prim.Native.Nat.{ℕ, ◌≤◌}
use native.Mathlib.Omega.{arith}
use borrow.Author.Tests.{le-ltb}
use lib.Dec.{ltb}
use Rattle.layout.specs.Layout.{Side, most_events, most_links}
use Rattle.recording.specs.Causes.{header_over}
use Rattle.recording.proofs.causes.over_limit.Goals as goal

over_links : (s : Side) (n l m x y : ℕ) → x ≡ most_events s → n ≤ x → l ≤ 8 → y ≡ most_links s → ltb y m ≡ header_over s n l m
unfolding header_over
over_links s n l m x y e h g q = ap (λ (z : ℕ). ltb z m) q ∙ sym (rw (le-ltb (most_events s) n (omega arith), le-ltb 8 l g))

pub returns-else-header-gt8 : goal.returns-else-header-gt8
returns-else-header-gt8 c =
    let few : c.args.header.locations ≤ 8 = omega arith in
    over_links _ _ _ _ _ _ c.most_events.ensures (omega arith) few c.most_links.ensures

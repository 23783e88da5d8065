-- `ring::turned` meets its contract: the way's events from the smallest on, and then those before it.
use mathlib.Core.Path.{◌≡◌, ap, subst, ◌∙◌}
use mathlib.Core.List.{List, [], ◌++◌}
use Prim.Native.Nat.{ℕ, ◌-◌}
use native.Mathlib.Omega.{arith}
use lib.ListN.{length, take, drop, length-drop}
use lib.Seq.{take_all}
use Rattle.relation.specs.Ring.{SmallestAt, Turned}
use Rattle.relation.proofs.ring.turned.Goals as goal

-- The first part is the events from place m to the last, the second those before m.
turned_of : {l events none part out : List ℕ} {m : ℕ} → events ≡ l → SmallestAt events (length events) m → none ≡ []
    → part ≡ none ++ take (length events - m) (drop m events) → out ≡ part ++ take m events → Turned l out
turned_of {l} {events} {none} {part} {out} {m} e w n p q =
    let rest = take_all (length events - m) (drop m events) (omega (arith, length-drop m events)) in
    let first = p ∙ ap (λ (x : List ℕ). none ++ x) rest ∙ ap (λ (x : List ℕ). x ++ drop m events) n in
    subst (λ (s : List ℕ). Turned s out) e (record { shift = m; front = w; turned = q ∙ ap (λ (x : List ℕ). x ++ take m events) first })

pub returns : goal.returns
returns c =
    turned_of c.as_slice-events.ensures.value c.smallest_at-m.ensures c.new-ring.ensures c.extend_from_slice.ensures.items c.extend_from_slice-2.ensures.items

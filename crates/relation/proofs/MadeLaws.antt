-- Laws of grids and sets that are made event by event.
use mathlib.Core.Path.{◌≡◌, refl, sym, ap, subst, ◌∙◌, fun_ext}
use mathlib.Core.List.{List, []}
use mathlib.Core.Bool.{Bool, true, false, ◌||◌, or-true, or-false}
use Prim.Native.Nat.{ℕ, ◌+◌, ◌<◌, ◌≤◌}
use native.Mathlib.Omega.{arith}
use native.Mathlib.Decide.{dec_lt}
use borrow.Author.Count.{below_more}
use borrow.Author.Tests.{eq-eqb, ne_eqb}
use lib.ListN.{length, get_or}
use Rattle.relation.specs.Rel.{Set, Rel, empty, union, single}
use Rattle.relation.specs.Bits.{bit, edge}
use Rattle.relation.proofs.ByteLaws.{bit_out}
use Rattle.relation.proofs.GridLaws.{edge_out}

-- The relation whose rows are these.
pub rows_made : (r : Rel) (h : List (List ℕ)) → length h ≡ 64 → ((i : ℕ) → i < 64 → bit (get_or h i []) ≡ r i)
    → ((m : ℕ) → 64 ≤ m → r m ≡ empty) → edge h ≡ r
unfolding edge
rows_made r h long at out =
    fun_ext
    (λ m. elim (dec_lt m 64) [
      | yes p ↦ at m p
      | no p ↦ edge_out h long m (omega (arith, p)) ∙ sym (out m (omega (arith, p)))
    ])

-- The set whose members are these.
pub set_made : (s : Set) (row : List ℕ) → ((i : ℕ) → i < 64 → bit row i ≡ s i) → ((m : ℕ) → 64 ≤ m → s m ≡ false) → bit row ≡ s
set_made s row at out =
    fun_ext
    (λ m. elim (dec_lt m 64) [
      | yes p ↦ at m p
      | no p ↦ bit_out row m (omega (arith, p)) ∙ sym (out m (omega (arith, p)))
    ])

-- What follows from a fact, as a hypothesis that `search` reads.
pub from_fact : {A B : Type 0} → A → (A → B) → B
from_fact a f = f a

-- Events that pass a test, one at a time: those below i are decided, and none from i on is in r.
module _ (P : ℕ → Bool → Type 0) {i : ℕ} {r : Set} (rest : (j : ℕ) → i ≤ j → r j ≡ false) (done : (j : ℕ) → j < i → P j (r j)) where
  pub passed_with : {u : Set} → u ≡ union r (single i) → P i true → ((j : ℕ) → i + 1 ≤ j → u j ≡ false) × ((j : ℕ) → j < i + 1 → P j (u j))
  unfolding union single
  passed_with {u} e p = (
    λ j h. other j (λ q. omega (arith, q, h)) ∙ rest j (omega arith),
    below_more (λ j. P j (u j)) i (λ j h. subst (P j) (sym (other j (λ q. omega (arith, q, h)))) (done j h))
        (subst (P i) (sym (ap (λ (s : Set). s i) e ∙ ap (λ (b : Bool). r i || b) (eq-eqb i i refl) ∙ or-true (r i))) p),
  )
    where
      other : (j : ℕ) → (i ≡ j → ⊥) → u j ≡ r j
      other j d = ap (λ (s : Set). s j) e ∙ ap (λ (b : Bool). r j || b) (ne_eqb i j d) ∙ or-false (r j)

  pub passed_keep : P i false → ((j : ℕ) → i + 1 ≤ j → r j ≡ false) × ((j : ℕ) → j < i + 1 → P j (r j))
  passed_keep p = (λ j h. rest j (omega arith), below_more (λ j. P j (r j)) i done (subst (P i) (sym (rest i (omega arith))) p))

-- Arrays of eight rows, of each of which something is said by its number: none filled, one changed, all kept.
use mathlib.Core.Path.{◌≡◌, refl, sym, subst, ◌∙◌}
use mathlib.Core.List.{List, []}
use Prim.Native.Nat.{ℕ, zero, suc, ◌<◌}
use native.Mathlib.Omega.{arith}
use native.Mathlib.Decide.{ℕ_discrete}
use lib.ListN.{length, get_or, set, replicate, length-set}
use lib.Seq.{get_or-set_same, get_or-set_other}
use Rattle.relation.specs.Rel.{Set, empty}
use Rattle.relation.specs.Bits.{bit}
use Rattle.relation.proofs.GridLaws.{bit_nil}

-- P holds of the set that each row holds, by the row's number.
pub record Eight (P : ℕ → Set → Type 0) (h : List (List ℕ)) : Type 0 where
  pub long : length h ≡ 8
  pub row : (v : ℕ) → v < 8 → P v (bit (get_or h v []))

filled_row : (n v : ℕ) (r : List ℕ) → bit r ≡ empty → bit (get_or (replicate n r) v []) ≡ empty
filled_row zero v r e = bit_nil
filled_row (suc n) zero r e = e
filled_row (suc n) (suc v) r e = filled_row n v r e

pub eight_none : {P : ℕ → Set → Type 0} (r : List ℕ) → bit r ≡ empty → ((v : ℕ) → P v empty) → Eight P (replicate 8 r)
eight_none {P} r q e = record { long = refl; row = λ v g. subst (P v) (sym (filled_row 8 v r q)) (e v) }

module _ {P Q : ℕ → Set → Type 0} {h : List (List ℕ)} (w : Eight P h) where
  pub eight_keep : ((v : ℕ) → v < 8 → (s : Set) → P v s → Q v s) → Eight Q h
  eight_keep k = record { long = w.long; row = λ v g. k v g _ (w.row v g) }

  pub eight_set : (x : ℕ) (r : List ℕ) → x < 8 → Q x (bit r) → ((v : ℕ) → v < 8 → (x ≡ v → ⊥) → (s : Set) → P v s → Q v s) → Eight Q (set h x r)
  eight_set x r i q k =
      record {
        long = length-set h x r ∙ w.long;
        row = λ v g. elim (ℕ_discrete x v) [
          | yes e ↦ subst (λ (y : ℕ). Q y (bit (get_or (set h x r) y []))) e
              (subst (λ (y : List ℕ). Q x (bit y)) (sym (get_or-set_same h x r [] (omega (arith, w.long)))) q)
          | no d ↦ subst (λ (y : List ℕ). Q v (bit y)) (sym (get_or-set_other h x v r [] (λ e. d (sym e)))) (k v g d _ (w.row v g))
        ];
      }

-- Laws of the names of clauses, by their numbers, and of the line of a step.
use mathlib.Core.Bool.{Bool, true, ◌&&◌}
use mathlib.Core.Path.{◌≡◌, refl, sym, ap, ◌∙◌}
use mathlib.Core.List.{List, [], ◌∷◌, ◌++◌, map, append_assoc, append-nil}
use Prim.Native.Nat.{ℕ, zero, suc, ◌-◌, ◌<◌, ◌≤◌}
use native.Mathlib.Decide.{ℕ_discrete}
use native.Mathlib.Omega.{arith}
use borrow.Author.Tests.{ne_eqb, ltb-true}
use lib.Dec.{ltb}
use lib.ListN.{length, get_or}
use Rattle.std.specs.Borrow.{Bor}
use Rattle.relation.proofs.Truth.{and_left, and_right}
use Rattle.models.specs.Clause.{Clause, name}
use Rattle.models.specs.Why.{Clauses, clauses_of}
use Rattle.decimal.specs.Decimal.{decimal}
use Rattle.lines.specs.declared.Model.{Model}
use Rattle.lines.specs.declared.Model.TheVariants.{Source, Chip, Tso}
use Rattle.verdicts.specs.ByModel.{clauses_for}
use Rattle.explanation.specs.StepLine.{bytes_from, ascii, name_of, step_line, Names}

abbrev names : List Clause → List (List ℕ)
names cs = map (λ c. ascii (name c)) cs

-- The name of a number: none of 0, none behind the last.
pub name_none : (cs : List Clause) → name_of cs 0 ≡ []
unfolding name_of
name_none [] = refl
name_none (c ∷ cs) = refl

name_nth : (cs : List Clause) (n : ℕ) → name_of cs (suc n) ≡ get_or (names cs) n []
unfolding name_of
name_nth [] n = refl
name_nth (c ∷ cs) zero = refl
name_nth (c ∷ cs) (suc n) = name_nth cs n

get_none : (ls : List (List ℕ)) (n : ℕ) → length ls ≤ n → get_or ls n [] ≡ []
get_none [] n h = refl
get_none (l ∷ ls) zero h = absurd (omega arith)
get_none (l ∷ ls) (suc n) h = get_none ls n (omega arith)

map_length : {A B : Type 0} (f : A → B) (l : List A) → length (map f l) ≡ length l
map_length f [] = refl
map_length f (x ∷ l) = ap suc (map_length f l)

get_now : (texts : List (Bor (List ℕ))) (n : ℕ) (other : Bor (List ℕ)) → n < length texts → (get_or texts n other).now ≡ get_or (map (λ s. s.now) texts) n []
get_now [] n other h = absurd (omega arith)
get_now (t ∷ texts) zero other h = refl
get_now (t ∷ texts) (suc n) other h = get_now texts n other (omega arith)

-- The texts are the names of the clauses.
module _ (cs : List Clause) (texts : List (Bor (List ℕ))) (w : Names cs texts) where
  pub named : (n : ℕ) (other : Bor (List ℕ)) → (n ≡ 0 → ⊥) → n ≤ length texts → (get_or texts (n - 1) other).now ≡ name_of cs n
  named zero other d h = absurd (d refl)
  named (suc n) other d h =
      let less : suc n - 1 ≡ n = omega arith in
      ap (λ (k : ℕ). (get_or texts k other).now) less
      ∙ get_now texts n other (omega arith)
      ∙ ap (λ (ls : List (List ℕ)). get_or ls n []) w
      ∙ sym (name_nth cs n)

  pub unnamed : (n : ℕ) → length texts < n → [] ≡ name_of cs n
  unnamed zero h = absurd (omega arith)
  unnamed (suc n) h =
      sym (get_none (names cs) n (omega (arith, sym (ap length w) ∙ map_length (λ (s : Bor (List ℕ)). s.now) texts))) ∙ sym (name_nth cs n)

-- A rule that shows no ring has no clauses.
no_clauses : (C : Clauses) (n : ℕ) → (n ≡ 3 → ⊥) → (n ≡ 5 → ⊥) → clauses_of C n ≡ []
unfolding clauses_of
no_clauses C n d e = rw (ne_eqb n 3 d, ne_eqb n 5 e, clauses_of) refl

pub no_names : (C : Clauses) (n : ℕ) → (n ≡ 3 → ⊥) → (n ≡ 5 → ⊥) → [] ≡ names (clauses_of C n)
no_names C n d e = sym (ap names (no_clauses C n d e))

-- No name is longer than 28 bytes.
abbrev short : List Clause → Bool
short [] = true
short (c ∷ cs) = ltb (length (ascii (name c))) 29 && short cs

short_name : (cs : List Clause) → short cs ≡ true → (n : ℕ) → length (name_of cs n) ≤ 28
unfolding name_of
short_name [] h n = omega arith
short_name (c ∷ cs) h zero = omega arith
short_name (c ∷ cs) h (suc zero) = omega (arith, ltb-true _ 29 (and_left (ltb (length (ascii (name c))) 29) (short cs) h))
short_name (c ∷ cs) h (suc (suc n)) = short_name cs (and_right (ltb (length (ascii (name c))) 29) (short cs) h) (suc n)

short_rule : (C : Clauses) (n : ℕ) → short C.rule3 ≡ true → short C.rule5 ≡ true → Dec (n ≡ 3) → Dec (n ≡ 5) → short (clauses_of C n) ≡ true
unfolding clauses_of
short_rule C n three five (yes q) d = ap (λ (j : ℕ). short (clauses_of C j)) q ∙ three
short_rule C n three five (no q) (yes s) = ap (λ (j : ℕ). short (clauses_of C j)) s ∙ five
short_rule C n three five (no q) (no s) = ap short (no_clauses C n q s)

all_short : (m : Model) (n : ℕ) → short (clauses_of (clauses_for m) n) ≡ true
unfolding bytes_from
all_short Source n = short_rule (clauses_for Source) n refl refl (ℕ_discrete n 3) (ℕ_discrete n 5)
all_short Chip n = short_rule (clauses_for Chip) n refl refl (ℕ_discrete n 3) (ℕ_discrete n 5)
all_short Tso n = short_rule (clauses_for Tso) n refl refl (ℕ_discrete n 3) (ℕ_discrete n 5)

pub name_short : (m : Model) (rule n : ℕ) → length (name_of (clauses_of (clauses_for m) rule) n) ≤ 28
name_short m rule n = short_name _ (all_short m rule) n

-- The parts of the line of a step, put one behind the other.
pub line_put : (word : List ℕ) (cs : List Clause) (step : List ℕ) {w n t₀ t₁ t₂ t₃ t₄ t₅ t₆ : List ℕ} → t₀ ≡ [] → w ≡ word → t₁ ≡ t₀ ++ w
    → t₂ ≡ t₁ ++ (32 ∷ decimal (get_or step 0 0)) → t₃ ≡ t₂ ++ (32 ∷ decimal (get_or step 1 0)) → t₄ ≡ t₃ ++ (32 ∷ [])
    → n ≡ name_of cs (get_or step 2 0) → t₅ ≡ t₄ ++ n → t₆ ≡ t₅ ++ (10 ∷ []) → t₆ ≡ step_line word cs step
unfolding step_line
line_put word cs step e w p₁ p₂ p₃ p₄ m p₅ p₆ =
    let a = 32 ∷ decimal (get_or step 0 0) in
    let b = 32 ∷ decimal (get_or step 1 0) in
    let name = name_of cs (get_or step 2 0) in
    let q₁ = p₁ ∙ (λ i. e i ++ w i) in
    let q₂ = p₂ ∙ ap (λ (l : List ℕ). l ++ a) q₁ in
    let q₃ = p₃ ∙ ap (λ (l : List ℕ). l ++ b) q₂ in
    let q₄ = p₄ ∙ ap (λ (l : List ℕ). l ++ (32 ∷ [])) q₃ in
    let q₅ = p₅ ∙ (λ i. q₄ i ++ m i) in
    p₆
    ∙ ap (λ (l : List ℕ). l ++ (10 ∷ []))
    (q₅
    ∙ append_assoc ((word ++ a) ++ b) (32 ∷ []) name
    ∙ append_assoc (word ++ a) b (32 ∷ name)
    ∙ append_assoc word a (b ++ (32 ∷ name))
    ∙ ap (λ (l : List ℕ). word ++ (a ++ (b ++ l))) (sym (append-nil (32 ∷ name))))

-- Laws of the lines of steps, put one behind the other, and of verdicts with their steps.
use mathlib.Core.Path.{◌≡◌, refl, sym, ap, subst, ◌∙◌}
use mathlib.Core.List.{List, [], ◌∷◌, ◌++◌, map, append_assoc, append-nil}
use Prim.Native.Nat.{ℕ, ◌+◌, ◌<◌}
use native.Mathlib.Numerals.{add-one}
use native.Mathlib.Omega.{arith}
use lib.ListN.{length, get_or, take}
use lib.Seq.{take-suc}
use Rattle.std.specs.Prelude.{Ok, Err}
use Rattle.sequence.specs.Items.{Items}
use Rattle.models.specs.Recording.{Recording}
use Rattle.models.specs.Clause.{Clause}
use Rattle.models.specs.Why.{Clauses, clauses_of, imm_rings, armv8_rings, tso_rings}
use Rattle.layout.specs.Decode.{decode}
use Rattle.verdict.specs.Verdict.{Verdict, number, rule_of}
use Rattle.verdict.specs.declared.Broken.{Broken}
use Rattle.clause.specs.Steps.{joined, ring, steps_to, Explained}
use Rattle.translation.specs.Translation.{translation}
use Rattle.lines.specs.Lines.{source, chip, tso}
use Rattle.judgement.specs.Judgement.{OnSource, OnChip, OnTso, line_for}
use Rattle.judgement.proofs.PrintLaws.{source_lines}
use Rattle.explanation.specs.StepLine.{step_lines}
use Rattle.explanation.specs.Why.{Reasoned, SourceWhy}

joined_last : (f : List ℕ → List ℕ) (ls : List (List ℕ)) (l : List ℕ) → joined (map f (ls ++ (l ∷ []))) ≡ joined (map f ls) ++ f l
joined_last f [] l = append-nil (f l)
joined_last f (k ∷ ls) l = ap (λ (m : List ℕ). f k ++ m) (joined_last f ls l) ∙ sym (append_assoc (f k) (joined (map f ls)) (f l))

pub joined_more : (f : List ℕ → List ℕ) (ls : List (List ℕ)) (k : ℕ) → k < length ls
    → joined (map f (take (k + 1) ls)) ≡ joined (map f (take k ls)) ++ f (get_or ls k [])
joined_more f ls k h =
    ap (λ (n : ℕ). joined (map f (take n ls))) (add-one k)
    ∙ ap (λ (l : List (List ℕ)). joined (map f l)) (take-suc ls k [] h)
    ∙ joined_last f (take k ls) (get_or ls k [])

-- An allowed verdict shows no ring, and needs no step.
pub none_explained : (cs : List Clause) (r : Recording ℕ) (all : Items ℕ) → Explained cs r (ring (Ok all)) []
unfolding ring steps_to
none_explained cs r all = record { number = λ a b. 0; first = λ k h. absurd (omega arith); are = refl }

-- The line of a step more.
pub lines_more : (f : List ℕ → List ℕ) (steps : List (List ℕ)) (k : ℕ) (before : List ℕ) {text line after : List ℕ} → k < length steps
    → text ≡ before ++ joined (map f (take k steps)) → after ≡ text ++ line → line ≡ f (get_or steps k [])
    → after ≡ before ++ joined (map f (take (k + 1) steps))
lines_more f steps k before {line = line} h p q e =
    q
    ∙ ap (λ (l : List ℕ). l ++ line) p
    ∙ append_assoc before (joined (map f (take k steps))) line
    ∙ ap (λ (l : List ℕ). before ++ (joined (map f (take k steps)) ++ l)) e
    ∙ ap (λ (l : List ℕ). before ++ l) (sym (joined_more f steps k h))

-- The line of a verdict, and behind it the lines of the steps.
pub line_and_steps : (C : Clauses) (word before : List ℕ) (v : Verdict) (steps : List (List ℕ)) {first line after : List ℕ} {k : ℕ}
    → first ≡ before ++ line → line ≡ line_for word v → k ≡ rule_of v → after ≡ first ++ step_lines word (clauses_of C k) steps
    → after ≡ before ++ (line_for word v ++ step_lines word (clauses_of C (rule_of v)) steps)
line_and_steps C word before v steps {first} p e n q =
    q
    ∙ ap (λ (j : ℕ). first ++ step_lines word (clauses_of C j) steps) n
    ∙ ap (λ (l : List ℕ). l ++ step_lines word (clauses_of C (rule_of v)) steps) (p ∙ ap (λ (l : List ℕ). before ++ l) e)
    ∙ append_assoc before (line_for word v) (step_lines word (clauses_of C (rule_of v)) steps)

-- The text gains the line of the verdict v on the recording r, and under it the lines of the steps of its ring.
pub record Reasons (C : Clauses) (word : List ℕ) (r : Recording ℕ) (v : Verdict) (before after : List ℕ) : Type 0 where
  pub steps : List (List ℕ)
  pub explained : Explained (clauses_of C (rule_of v)) r (ring v) steps
  pub prints : after ≡ before ++ (line_for word v ++ step_lines word (clauses_of C (rule_of v)) steps)

pub reasons : {C : Clauses} {word : List ℕ} {r : Recording ℕ} {v : Verdict} {before after : List ℕ} {steps shown : List (List ℕ)}
    → Explained (clauses_of C (rule_of v)) r (ring v) steps → shown ≡ steps
    → after ≡ before ++ (line_for word v ++ step_lines word (clauses_of C (rule_of v)) shown) → Reasons C word r v before after
reasons {C} {word} {v = v} {before} {steps = steps} w s p =
    record {
      steps = steps;
      explained = w;
      prints = p ∙ ap (λ (l : List (List ℕ)). before ++ (line_for word v ++ step_lines word (clauses_of C (rule_of v)) l)) s;
    }

module _ {C : Clauses} {word : List ℕ} {r : Recording ℕ} {v : Verdict} {before first line : List ℕ} (p : first ≡ before ++ line) (e : line ≡ line_for word v) where
  -- A verdict that is allowed has its line alone,
  pub none_reasons : {all : Items ℕ} → v ≡ Ok all → Reasons C word r v before first
  none_reasons {all} is =
      reasons (subst (λ (v : Verdict). Explained (clauses_of C (rule_of v)) r (ring v) []) (sym is) (none_explained _ r all)) refl
      (p ∙ ap (λ (l : List ℕ). before ++ l) (e ∙ sym (append-nil (line_for word v))))

  -- and one that is broken the lines of the steps too.
  pub ring_reasons : {broken : Broken} {steps shown : List (List ℕ)} {after : List ℕ} → v ≡ Err broken → Explained (clauses_of C (rule_of v)) r (ring v) steps
      → shown ≡ steps → after ≡ first ++ step_lines word (clauses_of C (number broken.rule)) shown → Reasons C word r v before after
  ring_reasons {shown = shown} is w s q = reasons w s (line_and_steps C word before v shown p e (sym (ap rule_of is)) q)

-- The text alone.
reasoned : {On : List ℕ → Verdict → Type 0} {C : Clauses} {word f text before after : List ℕ} {v : Verdict} → On f v
    → (w : Reasons C word (decode f) v before after) → text ≡ line_for word v ++ step_lines word (clauses_of C (rule_of v)) w.steps → Reasoned On C word f text
reasoned {v = v} on w p = record { verdict = v; judged = on; steps = w.steps; explained = w.explained; prints = p }

pub reasoned_alone : {On : List ℕ → Verdict → Type 0} {C : Clauses} {word f before after : List ℕ} {v : Verdict} → before ≡ [] → On f v
    → Reasons C word (decode f) v before after → Reasoned On C word f after
reasoned_alone {C = C} {word} {v = v} e on w =
    reasoned on w (w.prints ∙ ap (λ (l : List ℕ). l ++ (line_for word v ++ step_lines word (clauses_of C (rule_of v)) w.steps)) e)

-- The three verdicts of a source file, one behind the other.
pub source_why : {f g t₀ t₁ t₂ t₃ : List ℕ} {v w u : Verdict} → t₀ ≡ [] → g ≡ translation f → OnSource f v → OnChip (translation f) w → OnTso f u
    → (rule_of w ≡ 0 → rule_of v ≡ 0) → (rule_of u ≡ 0 → rule_of v ≡ 0)
    → Reasons imm_rings source (decode f) v t₀ t₁ → Reasons armv8_rings chip (decode g) w t₁ t₂ → Reasons tso_rings tso (decode f) u t₂ t₃ → SourceWhy f t₃
unfolding reasoned
source_why {f} {g} {t₀} {t₁} {t₂} {v = v} {w} {u} e is on on_chip on_tso sound also a b c =
    let b = subst (λ (l : List ℕ). Reasons armv8_rings chip (decode l) w t₁ t₂) is b in
    let first = line_for source v ++ step_lines source (clauses_of imm_rings (rule_of v)) a.steps in
    let second = line_for chip w ++ step_lines chip (clauses_of armv8_rings (rule_of w)) b.steps in
    let third = line_for tso u ++ step_lines tso (clauses_of tso_rings (rule_of u)) c.steps in record {
      on_source = first;
      on_chip = second;
      on_tso = third;
      source = reasoned on a refl;
      chip = reasoned on_chip b refl;
      tso = reasoned on_tso c refl;
      prints = c.prints ∙ ap (λ (l : List ℕ). l ++ third) (b.prints ∙ ap (λ (l : List ℕ). l ++ second) (a.prints ∙ ap (λ (l : List ℕ). l ++ first) e));
      judges = source_lines on on_chip on_tso sound also refl;
    }

-- A verdict on the translation is one on its bytes.
pub judged_bytes : (f g : List ℕ) (v : Verdict) → g ≡ translation f → OnChip (translation f) v → OnChip g v
judged_bytes f g v e on = subst (λ (b : List ℕ). OnChip b v) (sym e) on

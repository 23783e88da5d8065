-- The steps of a ring by the tests of clauses are those by the execution graph: each has a clause, and its number is that of the first.
use mathlib.Core.Bool.{true}
use mathlib.Core.Path.{◌≡◌, refl, sym, subst, ◌∙◌}
use mathlib.Core.List.{List, []}
use Prim.Native.Nat.{ℕ, zero, ◌<◌}
use native.Mathlib.Decide.{ℕ_discrete}
use native.Mathlib.Nat.{not-suc-le-zero}
use borrow.Author.Tests.{ne_eqb}
use lib.ListN.{length, get_or}
use Rattle.relation.specs.Rel.{Rel, nodes}
use Rattle.relation.specs.Ring.{after, Ring}
use Rattle.models.specs.Recording.{Recording}
use Rattle.models.specs.Graph.{base, Within}
use Rattle.models.specs.Term.{eval}
use Rattle.models.specs.Rules.{Model}
use Rattle.models.specs.Clause.{Clause, tested, number_from, unions}
use Rattle.models.specs.Why.{Clauses, clauses_of}
use Rattle.models.proofs.ClauseLaws.{first_clause}
use Rattle.verdict.specs.Verdict.{Verdict, rule_of, events}
use Rattle.verdict.specs.Shown.{Shown}
use Rattle.clause.specs.Steps.{ring, steps_of, Explained, StepsBy}

module _ (r : Recording ℕ) (within : Within nodes r) where
  -- Every pair of the relation s is one of a clause.
  abbrev pub Covers : List Clause → Rel → Type 0
  Covers cs s = (a b : ℕ) → s a b ≡ true → unions (tested nodes (base nodes r) cs) a b ≡ true

  abbrev steps : List Clause → List ℕ → List (List ℕ)
  steps cs l = steps_of (number_from 1 (tested nodes (base nodes r) cs)) l

  ring_explained : (cs : List Clause) (s e : Rel) (l : List ℕ) → Covers cs s → Covers cs e → Ring s e l → Explained cs r l (steps cs l)
  ring_explained cs s e l p q w =
      record {
        number = number_from 1 (tested nodes (base nodes r) cs);
        first = λ k h. first_clause nodes r within (get_or l k zero) (after l k) cs (related k h (ℕ_discrete k w.closing));
        are = refl;
      }
    where
      related : (k : ℕ) → k < length l → Dec (k ≡ w.closing) → unions (tested nodes (base nodes r) cs) (get_or l k zero) (after l k) ≡ true
      related k h (yes c) = subst (λ (j : ℕ). unions (tested nodes (base nodes r) cs) (get_or l j zero) (after l j) ≡ true) (sym c) (q _ _ w.closes)
      related k h (no c) = p _ _ (w.steps k h c)

  none_explained : (cs : List Clause) → Explained cs r [] (steps cs [])
  none_explained cs = record { number = number_from 1 (tested nodes (base nodes r) cs); first = λ k h. absurd (not-suc-le-zero h); are = refl }

  -- The ring of a verdict, by the rule that is broken.
  module _ (C : Clauses) (M : Model) (s e : Rel) (covers-3 : Covers C.rule3 s) (closes-3 : Covers C.rule3 e)
      (covers-5 : Covers C.rule5 (eval nodes M.order (base nodes r))) (v : Verdict) (w : Shown s e M (base nodes r) v) where
    abbrev Goal : ℕ → List ℕ → Type 0
    Goal n l = Explained (clauses_of C n) r l (steps (clauses_of C n) l)

    explained : Goal (rule_of v) (ring v)
    unfolding clauses_of ring
    explained =
        elim (ℕ_discrete (rule_of v) 3) [
          | yes p ↦ rw (p, ring) (ring_explained C.rule3 s e (events v) covers-3 closes-3 (w.broken3 (sym w.answer ∙ p)).ring)
          | no p ↦ elim (ℕ_discrete (rule_of v) 5) [
            | yes q ↦ rw (q, ring) (ring_explained C.rule5 _ _ (events v) covers-5 covers-5 (w.broken5 (sym w.answer ∙ q)).ring)
            | no q ↦ rw (ne_eqb _ 3 p, ne_eqb _ 5 q, ring) (none_explained _)
          ]
        ]

    -- The steps that are computed of the verdict.
    pub verdict_explained : (found : List (List ℕ)) → StepsBy (clauses_of C (rule_of v)) (base nodes r) v found
        → Explained (clauses_of C (rule_of v)) r (ring v) found
    verdict_explained found e = subst (Explained (clauses_of C (rule_of v)) r (ring v)) (sym e) explained

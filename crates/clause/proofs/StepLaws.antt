-- Laws of clauses as grids and of the steps of a ring, for the loops over them.
use mathlib.Core.Bool.{true, false, or-false, or_assoc}
use mathlib.Core.Path.{◌≡◌, refl, sym, ap, subst, ◌∙◌, fun_ext}
use mathlib.Core.List.{List, [], ◌∷◌, ◌++◌, map}
use mathlib.Core.Logic.{◌⊎◌, inl, inr}
use Prim.Native.Nat.{ℕ, zero, suc, ◌+◌, ◌<◌, ◌≤◌}
use Prim.Native.String.{String}
use native.Mathlib.Numerals.{add-one}
use native.Mathlib.Omega.{arith}
use borrow.Author.Tests.{ne_eqb}
use lib.ListN.{length, get_or, drop, get_or-eq_default, get_or-map, drop_of_length-le}
use lib.Seq.{drop-cons}
use Rattle.relation.specs.Rel.{Rel, none, empty, union, either, nodes}
use Rattle.relation.specs.Bits.{edge}
use Rattle.relation.specs.Ring.{after}
use Rattle.relation.proofs.RingWalks.{get_d_any}
use Rattle.models.specs.Graph.{Base}
use Rattle.models.specs.Term.{Term, eval}
use Rattle.models.specs.Clause.{Clause, ◌≔◌, tested, number_from, unions}
use Rattle.models.specs.Why.{Clauses, clauses_of}
use Rattle.models.proofs.ClauseLaws.{number_here, number_later}
use Rattle.std.specs.Prelude.{Err}
use Rattle.verdict.specs.declared.Broken.{Broken}
use Rattle.verdict.specs.declared.Rule.TheVariants.{Reads, Writes, Coherence, Atomicity, Acyclicity}
use Rattle.verdict.proofs.TermLaws.{Is}
use Rattle.clause.specs.Steps.{ring, steps_to, Held}

-- The first k of the grids are passed, as none of them has the pair (a, b).
module _ (grids : List (List (List ℕ))) (a b : ℕ) where
  abbrev number : ℕ
  number = number_from 1 (map edge grids) a b

  abbrev pub Passed : ℕ → Type 0
  Passed k = number ≡ number_from (suc k) (map edge (drop k grids)) a b

  module _ (k : ℕ) (h : k < length grids) (p : Passed k) where
    at_next : number ≡ number_from (suc k) (edge (get_or grids k []) ∷ map edge (drop (suc k) grids)) a b
    at_next = p ∙ ap (λ (l : List (List (List ℕ))). number_from (suc k) (map edge l) a b) (drop-cons grids k [] h)

    pub passed_more : edge (get_or grids k []) a b ≡ false → Passed (k + 1)
    passed_more e = at_next ∙ number_later (suc k) _ _ a b e ∙ ap (λ (n : ℕ). number_from (suc n) (map edge (drop n grids)) a b) (sym (add-one k))

    pub passed_here : edge (get_or grids k []) a b ≡ true → k + 1 ≡ number
    passed_here e = add-one k ∙ sym (at_next ∙ number_here (suc k) _ _ a b e)

  pub passed_all : (k : ℕ) → length grids ≤ k → Passed k → 0 ≡ number
  unfolding number_from
  passed_all k h p = sym (p ∙ ap (λ (l : List (List (List ℕ))). number_from (suc k) (map edge l) a b) (drop_of_length-le grids h))

-- r is the union of the first k of the grids.
module _ (grids : List (List (List ℕ))) where
  pub record Joined (k : ℕ) (r : Rel) : Type 0 where
    pub join : either r (unions (map edge (drop k grids))) ≡ unions (map edge grids)

  pub joined_none : (r : Rel) → r ≡ none → Joined 0 r
  unfolding either union none empty
  joined_none r e = record { join = ap (λ (s : Rel). either s (unions (map edge grids))) e }

  pub joined_more : (k : ℕ) (r z : Rel) → k < length grids → Joined k r → z ≡ either r (edge (get_or grids k [])) → Joined (k + 1) z
  unfolding unions either union
  joined_more k r z h p e = record { join = joined }
    where
      joined : either z (unions (map edge (drop (k + 1) grids))) ≡ unions (map edge grids)
      joined =
          ap (λ (n : ℕ). either z (unions (map edge (drop n grids)))) (add-one k)
          ∙ ap (λ (s : Rel). either s (unions (map edge (drop (suc k) grids)))) e
          ∙ fun_ext (λ i. fun_ext (λ j. or_assoc (r i j) (edge (get_or grids k []) i j) (unions (map edge (drop (suc k) grids)) i j)))
          ∙ ap (λ (l : List (List (List ℕ))). either r (unions (map edge l))) (sym (drop-cons grids k [] h))
          ∙ p.join

  pub joined_all : (k : ℕ) (r : Rel) → length grids ≤ k → Joined k r → r ≡ unions (map edge grids)
  unfolding unions either union none empty
  joined_all k r h p =
      fun_ext (λ i. fun_ext (λ j. sym (or-false (r i j))))
      ∙ ap (λ (l : List (List (List ℕ))). either r (unions (map edge l))) (sym (drop_of_length-le grids h))
      ∙ p.join

-- The event after place k, where another follows and where the ring closes.
module _ (l : List ℕ) (k : ℕ) where
  pub after_next : k + 1 < length l → get_or l (k + 1) zero ≡ after l k
  unfolding after
  after_next h = ap (λ (j : ℕ). get_or l j zero) (add-one k) ∙ get_d_any l (suc k) _ _ (omega arith)

  pub after_last : length l ≤ k + 1 → get_or l zero zero ≡ after l k
  unfolding after
  after_last h = sym (get_or-eq_default l _ (omega arith))

-- One step more is made.
pub made_more : (number : ℕ → ℕ → ℕ) (l : List ℕ) (k : ℕ) {made out : List (List ℕ)} {b m : ℕ} → made ≡ steps_to number l k → b ≡ after l k
    → m ≡ number (get_or l k zero) b → out ≡ made ++ (get_or l k zero ∷ b ∷ m ∷ []) ∷ [] → out ≡ steps_to number l (k + 1)
unfolding steps_to
made_more number l k w e f p =
    p ∙ (λ i. w i ++ ((get_or l k zero ∷ e i ∷ (f ∙ (λ j. number (get_or l k zero) (e j))) i ∷ []) ∷ [])) ∙ ap (steps_to number l) (sym (add-one k))

-- The grids are the clauses of the base B, one by one.
pub data Each (B : Base) : List Clause → List (List (List ℕ)) → Type 0 where
  each_none : Each B [] []
  each_more : {s : String} {t : Term} {cs : List Clause} {g : List (List ℕ)} {gs : List (List (List ℕ))} → Is B t (edge g) → Each B cs gs
      → Each B ((s ≔ t) ∷ cs) (g ∷ gs)

each_tested : {B : Base} {cs : List Clause} {gs : List (List (List ℕ))} → Each B cs gs → map edge gs ≡ tested nodes B cs
each_tested each_none = refl
each_tested (each_more p w) = λ i. p.is i ∷ each_tested w i

pub held_each : {B : Base} {cs : List Clause} {gs : List (List (List ℕ))} → Each B cs gs → Held cs B gs
held_each w = record { clauses = each_tested w }

-- By these and `terms` `search` finds that a function's calls compute the clauses.
pub ruleset arrays = (each_none, each_more)

module _ (cs : List Clause) (B : Base) (grids : List (List (List ℕ))) (w : Held cs B grids) where
  -- The grid at a place.
  pub held_at : (k : ℕ) → edge (get_or grids k []) ≡ get_or (tested nodes B cs) k (edge [])
  held_at k = sym (get_or-map edge grids k []) ∙ ap (λ (l : List Rel). get_or l k (edge [])) w.clauses

  pub held_union : (t : Term) → eval nodes t B ≡ unions (tested nodes B cs) → (r : Rel) → r ≡ unions (map edge grids) → r ≡ eval nodes t B
  held_union t opened r e = e ∙ ap unions w.clauses ∙ sym opened

-- The ring of a broken verdict, by its rule.
pub ring_shown : (b : Broken) → (b.rule ≡ Coherence) ⊎ (b.rule ≡ Acyclicity) → ring (Err b) ≡ b.events.items
unfolding ring
ring_shown b (inl e) = rw (e, ring) refl
ring_shown b (inr e) = rw (e, ring) refl

pub no_ring_shown : (b : Broken) → (b.rule ≡ Reads) ⊎ ((b.rule ≡ Writes) ⊎ (b.rule ≡ Atomicity)) → ring (Err b) ≡ []
unfolding ring
no_ring_shown b (inl e) = rw (e, ring) refl
no_ring_shown b (inr (inl e)) = rw (e, ring) refl
no_ring_shown b (inr (inr e)) = rw (e, ring) refl

-- The clauses of a model by the number of the rule.
module _ (C : Clauses) (B : Base) (grids : List (List (List ℕ))) (n : ℕ) where
  pub held_rule : (m : ℕ) → m ≡ n → Held (clauses_of C m) B grids → Held (clauses_of C n) B grids
  held_rule m e w = subst (λ (k : ℕ). Held (clauses_of C k) B grids) e w

  pub held_none : (n ≡ 3 → ⊥) → (n ≡ 5 → ⊥) → Held [] B grids → Held (clauses_of C n) B grids
  unfolding clauses_of
  held_none d e w = rw (ne_eqb n 3 d, ne_eqb n 5 e, clauses_of) w

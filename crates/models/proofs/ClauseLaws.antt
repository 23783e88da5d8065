-- Each relation of which rings are shown is the union of its clauses, and the first clause by the tests is the first in the graph.
use mathlib.Core.Bool.{Bool, true, false, ◌||◌, false≢true, or-false, or_assoc}
use mathlib.Core.List.{List, [], ◌∷◌, ◌++◌, map, map-append}
use mathlib.Core.Path.{◌≡◌, refl, sym, ap, ap₂, subst, ◌∙◌, fun_ext}
use Prim.Native.Nat.{ℕ, suc, ◌+◌}
use native.Mathlib.Omega.{arith}
use lib.Dec.{T}
use Rattle.relation.specs.Rel.{Rel, none, empty, union, either}
use Rattle.relation.proofs.Truth.{holds}
use Rattle.models.specs.Recording.{Recording}
use Rattle.models.specs.Graph.{Base, graph, base, Within}
use Rattle.models.specs.Term.{Term, po, rf, co, ◌∪◌, ◌⨾◌, fr, eval}
use Rattle.models.specs.Clause.{Clause, term, First, here, later, tested, number_from, unions}
use Rattle.models.specs.Imm.{sw, eco, ar, step_clauses, eco_clauses, ar_clauses}
use Rattle.models.specs.Armv8.{ob, sc_per_loc, ob_clauses, sc_per_loc_clauses}
use Rattle.models.specs.Tso.{tso, tso_clauses}
use Rattle.models.proofs.Agree.{tests, optional_last, agrees}

-- Unions of relations.
unions_one : (r : Rel) → unions (r ∷ []) ≡ r
unfolding unions either union none empty
unions_one r = fun_ext (λ i. fun_ext (λ j. or-false (r i j)))

pub unions_both : (rs ss : List Rel) → unions (rs ++ ss) ≡ either (unions rs) (unions ss)
unfolding unions either union none empty
unions_both [] ss = refl
unions_both (r ∷ rs) ss = ap (either r) (unions_both rs ss) ∙ fun_ext (λ i. fun_ext (λ j. sym (or_assoc (r i j) (unions rs i j) (unions ss i j))))

-- The term t is the union of the terms ts.
record Opened (t : Term) (ts : List Term) : Type 0 where
  is : (es : List ℕ) (B : Base) → eval es t B ≡ unions (map (λ u. eval es u B) ts)

part : {t : Term} → Opened t (t ∷ [])
part {t} = record { is = λ es B. sym (unions_one (eval es t B)) }

infixl 60 ◌then◌
◌then◌ : {t u : Term} {ts us : List Term} → Opened t ts → Opened u us → Opened (t ∪ u) (ts ++ us)
unfolding eval
◌then◌ {t} {u} {ts} {us} p q =
    record { is = λ es B. ap₂ either (p.is es B) (q.is es B) ∙ sym (unions_both (map (λ u. eval es u B) ts) (map (λ u. eval es u B) us)) ∙ ap unions (sym (map-append (λ u. eval es u B) ts us)) }

module _ (es : List ℕ) (B : Base) where
  pub ar_opened : eval es ar B ≡ unions (tested es B ar_clauses)
  ar_opened = (part then (part then part then part then part then part) then part then part then part then part).is es B

  pub step_opened : eval es (po ∪ sw) B ≡ unions (tested es B step_clauses)
  step_opened = (part then part).is es B

  pub ob_opened : eval es ob B ≡ unions (tested es B ob_clauses)
  ob_opened = ((part then part then part) then (part then part then part then part) then (part then part) then (part then part then part then part then part)).is es B

  pub sc_per_loc_opened : eval es sc_per_loc B ≡ unions (tested es B sc_per_loc_clauses)
  sc_per_loc_opened = (part then part then part then part).is es B

  pub tso_opened : eval es tso B ≡ unions (tested es B tso_clauses)
  tso_opened = ((part then part) then (part then part) then part then part then part).is es B

-- co ; rf? is co or co ; rf, and fr ; rf? is fr or fr ; rf, as co ends in an event.
pub eco_opened : (es : List ℕ) (r : Recording ℕ) → Within es r → eval es eco (base es r) ≡ unions (tested es (base es r) eco_clauses)
unfolding eval
eco_opened es r within =
    let B = base es r in
    let last = optional_last es B (graph r) (agrees es r within) in
    ap₂ either (ap (either B.rf) (last co rf)) (last fr rf) ∙ parts.is es B
  where
    parts : Opened (rf ∪ (co ∪ co ⨾ rf) ∪ (fr ∪ fr ⨾ rf)) (rf ∷ co ∷ (co ⨾ rf) ∷ fr ∷ (fr ⨾ rf) ∷ [])
    parts = part then (part then part) then (part then part)

-- The number of the first that has the pair.
module _ (n : ℕ) (r : Rel) (rs : List Rel) (a b : ℕ) where
  pub number_here : r a b ≡ true → number_from n (r ∷ rs) a b ≡ n
  unfolding number_from
  number_here e = rw (e, number_from) refl

  pub number_later : r a b ≡ false → number_from n (r ∷ rs) a b ≡ number_from (suc n) rs a b
  unfolding number_from
  number_later e = rw (e, number_from) refl

-- The first clause by the tests is the first in the graph, where any relates the two events.
module _ (es : List ℕ) (r : Recording ℕ) (within : Within es r) (a b : ℕ) where
  abbrev Found : List Clause → ℕ → Type 0
  Found cs n = (m : ℕ) × First (graph r) a b cs (suc m) × (number_from n (tested es (base es r) cs) a b ≡ n + m)

  found : (cs : List Clause) (n : ℕ) → unions (tested es (base es r) cs) a b ≡ true → Found cs n
  unfolding unions none empty either union
  found [] n h = absurd (false≢true h)
  found (c ∷ cs) n h = by (found cs (suc n)) (eval es (term c) (base es r) a b) refl h
    where
      by : (unions (tested es (base es r) cs) a b ≡ true → Found cs (suc n)) → (t : Bool) → eval es (term c) (base es r) a b ≡ t
          → (t || unions (tested es (base es r) cs) a b) ≡ true → Found (c ∷ cs) n
      by rest true e k = (0, here ((tests es _ _ (agrees es r within) (term c)).to a b (holds _ e)), number_here n _ _ a b e ∙ omega arith)
      by rest false e k =
          let (m, first, number) = rest k in
          (suc m, later (λ h. elim (subst T e ((tests es _ _ (agrees es r within) (term c)).from a b h)) [ ]) first, number_later n _ _ a b e ∙ number ∙ omega arith)

  pub first_clause : (cs : List Clause) → unions (tested es (base es r) cs) a b ≡ true → First (graph r) a b cs (number_from 1 (tested es (base es r) cs) a b)
  first_clause cs h = (let (m, first, number) = found cs 1 h in subst (First (graph r) a b cs) (omega (arith, number)) first)

-- Chaining new numbers in: after each number of a set one new number of its own. Where nothing was met twice or never,
-- nothing is afterwards.
use mathlib.Core.Path.{◌≡◌, refl, sym, ap, subst, ◌∙◌}
use mathlib.Core.Bool.{true, false, not, ◌&&◌, false≢true}
use mathlib.Core.List.{List, [], ◌∷◌, ◌++◌}
use mathlib.Core.Logic.{inl, inr}
use Prim.Native.Nat.{ℕ, zero, suc, ◌+◌, ◌<◌, ◌≤◌}
use native.Mathlib.Omega.{arith}
use native.Mathlib.Decide.{dec_le}
use borrow.Author.Tests.{le-leb}
use lib.ListN.{length}
use Rattle.relation.specs.Rel.{Set}
use Rattle.layout.specs.Chains.{among, chain, met, fresh, all_met, once_each}
use Rattle.layout.proofs.ChainLaws.{each_at}
use Rattle.relation.proofs.Truth.{is_false, by_test, and_left, and_right, and_both}
use Rattle.translation.specs.Threads.{count_of}
use Rattle.recording.proofs.Accepted.{each_all}
use Rattle.layout.proofs.ChainFacts.{Ended, end, step, among_here, among_there, among_cases, Fresh, fresh_cons, fresh_length, chain_ended, chain_fresh, ended_walk, ended_positive}

-- After each number of the set s, all at most n, comes a new one, `new`: these are the numbers from n + 1 to m, each once.
pub record Weaves (n m : ℕ) (next after : ℕ → ℕ) (s : Set) (new : ℕ → ℕ) : Type 0 where
  pub wider : n ≤ m
  pub plain : (x : ℕ) → 1 ≤ x → x ≤ n → s x ≡ false → after x ≡ next x
  pub into : (x : ℕ) → s x ≡ true → after x ≡ new x
  pub out : (x : ℕ) → s x ≡ true → after (new x) ≡ next x
  pub old : (x : ℕ) → s x ≡ true → (1 ≤ x) × (x ≤ n)
  pub above : (x : ℕ) → s x ≡ true → (n < new x) × (new x ≤ m)
  pub apart : (x y : ℕ) → s x ≡ true → s y ≡ true → new x ≡ new y → x ≡ y
  pub every : (y : ℕ) → n < y → y ≤ m → (x : ℕ) × (s x ≡ true) × (new x ≡ y)

-- A list with the new numbers put in.
unfoldable pub woven : Set → (ℕ → ℕ) → List ℕ → List ℕ
woven s new [] = []
woven s new (x ∷ l) = elim (s x) [ true ↦ x ∷ new x ∷ woven s new l | false ↦ x ∷ woven s new l ]

-- Members of s, counted.
module _ (s : Set) where
  pub count_yes : (x : ℕ) (l : List ℕ) → s x ≡ true → count_of (x ∷ l) s ≡ suc (count_of l s)
  unfolding count_of
  count_yes x l e = rw (e, count_of)

  pub count_no : (x : ℕ) (l : List ℕ) → s x ≡ false → count_of (x ∷ l) s ≡ count_of l s
  unfolding count_of
  count_no x l e = rw (e, count_of)

module _ (s : Set) (new : ℕ → ℕ) where
  pub woven_yes : (x : ℕ) (l : List ℕ) → s x ≡ true → woven s new (x ∷ l) ≡ x ∷ new x ∷ woven s new l
  unfolding woven
  woven_yes x l e = rw (e, woven)

  pub woven_no : (x : ℕ) (l : List ℕ) → s x ≡ false → woven s new (x ∷ l) ≡ x ∷ woven s new l
  unfolding woven
  woven_no x l e = rw (e, woven)

  woven_append : (k l : List ℕ) → woven s new (k ++ l) ≡ woven s new k ++ woven s new l
  unfolding woven
  woven_append [] l = refl
  woven_append (x ∷ k) l =
      elim (by_test (s x)) [
        | inl e ↦ woven_yes x (k ++ l) e ∙ ap (λ (z : List ℕ). x ∷ new x ∷ z) (woven_append k l) ∙ sym (ap (λ (z : List ℕ). z ++ woven s new l) (woven_yes x k e))
        | inr e ↦ woven_no x (k ++ l) e ∙ ap (◌∷◌ x) (woven_append k l) ∙ sym (ap (λ (z : List ℕ). z ++ woven s new l) (woven_no x k e))
      ]

  -- One number more for each of s.
  pub woven_length : (l : List ℕ) → length (woven s new l) ≡ length l + count_of l s
  unfolding woven count_of
  woven_length [] = refl
  woven_length (x ∷ l) =
      elim (by_test (s x)) [
        | inl e ↦ omega (arith, ap length (woven_yes x l e), count_yes s x l e, woven_length l)
        | inr e ↦ omega (arith, ap length (woven_no x l e), count_no s x l e, woven_length l)
      ]

  -- Members stay, and those of s bring theirs.
  woven_among : (y : ℕ) (l : List ℕ) → among y l ≡ true → among y (woven s new l) ≡ true
  unfolding among
  woven_among y [] m = absurd (false≢true m)
  woven_among y (x ∷ l) m =
      let k = woven s new l in
      elim (by_test (s x)) [
        | inl e ↦ ap (among y) (woven_yes x l e)
            ∙ elim (among_cases y x l m) [
              | inl p ↦ among_here y x (new x ∷ k) p
              | inr p ↦ among_there y x (new x ∷ k) (among_there y (new x) k (woven_among y l p))
            ]
        | inr e ↦ ap (among y) (woven_no x l e)
            ∙ elim (among_cases y x l m) [ inl p ↦ among_here y x k p | inr p ↦ among_there y x k (woven_among y l p) ]
      ]

  woven_new : (y : ℕ) (l : List ℕ) → s y ≡ true → among y l ≡ true → among (new y) (woven s new l) ≡ true
  unfolding among
  woven_new y [] h m = absurd (false≢true m)
  woven_new y (x ∷ l) h m =
      let k = woven s new l in
      elim (by_test (s x)) [
        | inl e ↦ ap (among (new y)) (woven_yes x l e)
            ∙ among_there (new y) x (new x ∷ k)
            (elim (among_cases y x l m) [
              | inl p ↦ among_here (new y) (new x) k (ap new p)
              | inr p ↦ among_there (new y) (new x) k (woven_new y l h p)
            ])
        | inr e ↦ ap (among (new y)) (woven_no x l e)
            ∙ elim (among_cases y x l m) [
              | inl p ↦ absurd (false≢true (sym e ∙ ap s (sym p) ∙ h))
              | inr p ↦ among_there (new y) x k (woven_new y l h p)
            ]
      ]

module _ (n m : ℕ) (next after : ℕ → ℕ) (s : Set) (new : ℕ → ℕ) (w : Weaves n m next after s new) where
  -- A chain that ends, ends.
  woven_ended : {x : ℕ} {l : List ℕ} → Ended n next x l → Ended m after x (woven s new l)
  unfolding woven
  woven_ended end = end
  woven_ended (step {x = x} {l = l} p q v) =
      let a = w.above x in
      elim (by_test (s x)) [
        | inl e ↦ subst (Ended m after x) (sym (woven_yes s new x l e))
            (step p (omega (arith, w.wider))
            (subst (λ (z : ℕ). Ended m after z (new x ∷ woven s new l)) (sym (w.into x e))
            (step (omega (arith, a e)) (omega (arith, a e)) (subst (λ (z : ℕ). Ended m after z (woven s new l)) (sym (w.out x e)) (woven_ended v)))))
        | inr e ↦ subst (Ended m after x) (sym (woven_no s new x l e))
            (step p (omega (arith, w.wider)) (subst (λ (z : ℕ). Ended m after z (woven s new l)) (sym (w.plain x p q e)) (woven_ended v)))
      ]

  -- What was met before, there and here.
  record Seen (seen seen' : List ℕ) : Type 0 where
    low : (y : ℕ) → y ≤ n → among y seen' ≡ true → among y seen ≡ true
    high : (y : ℕ) → s y ≡ true → among (new y) seen' ≡ true → among y seen ≡ true

  seen_old : (x : ℕ) (seen seen' : List ℕ) → x ≤ n → Seen seen seen' → Seen (x ∷ seen) (x ∷ seen')
  seen_old x seen seen' h v =
      record {
        low = λ y g k. elim (among_cases y x seen' k) [ inl p ↦ among_here y x seen p | inr p ↦ among_there y x seen (v.low y g p) ];
        high = λ y e k. elim (among_cases (new y) x seen' k) [
          | inl p ↦ absurd (omega (arith, w.above y e, p))
          | inr p ↦ among_there y x seen (v.high y e p)
        ];
      }

  seen_new : (x : ℕ) (seen seen' : List ℕ) → s x ≡ true → among x seen ≡ true → Seen seen seen' → Seen seen (new x ∷ seen')
  seen_new x seen seen' h g v =
      record {
        low = λ y k q. elim (among_cases y (new x) seen' q) [ inl p ↦ absurd (omega (arith, w.above x h, p)) | inr p ↦ v.low y k p ];
        high = λ y e k. elim (among_cases (new y) (new x) seen' k) [
          | inl p ↦ ap (λ (z : ℕ). among z seen) (w.apart y x e h p) ∙ g
          | inr p ↦ v.high y e p
        ];
      }

  made_fresh : (limit : ℕ) (seen : List ℕ) (x : ℕ) (l : List ℕ) → Fresh limit seen x l → fresh limit seen (x ∷ l) ≡ true
  unfolding fresh
  made_fresh limit seen x l v = (let new = ap not v.new in search (and_both, le-leb))

  woven_fresh : (seen seen' l : List ℕ) → Seen seen seen' → fresh n seen l ≡ true → fresh m seen' (woven s new l) ≡ true
  unfolding woven fresh
  woven_fresh seen seen' [] v f = refl
  woven_fresh seen seen' (x ∷ l) v f =
      let k = fresh_cons n seen x l f in
      let here : among x seen' ≡ false = is_false (among x seen') (λ p. false≢true (sym k.new ∙ v.low x k.within p)) in
      let old = seen_old x seen seen' k.within v in
      elim (by_test (s x)) [
        | inl e ↦ (let a = w.above x e in
            let more = seen_new x (x ∷ seen) (x ∷ seen') e (among_here x x seen refl) old in
            let there : among (new x) (x ∷ seen') ≡ false = is_false (among (new x) (x ∷ seen')) (λ p. elim (among_cases (new x) x seen' p) [
              | inl q ↦ omega (arith, a, q, k.within)
              | inr q ↦ false≢true (sym k.new ∙ v.high x e q)
            ]) in
            ap (fresh m seen') (woven_yes s new x l e)
            ∙ made_fresh m seen' x (new x ∷ woven s new l) (record {
              within = omega (arith, w.wider, k.within);
              new = here;
              rest = made_fresh m (x ∷ seen') (new x) (woven s new l) (record {
                within = a.1;
                new = there;
                rest = woven_fresh (x ∷ seen) (new x ∷ x ∷ seen') l more k.rest;
              });
            }))
        | inr e ↦ ap (fresh m seen') (woven_no s new x l e)
            ∙ made_fresh m seen' x (woven s new l) (record { within = omega (arith, w.wider, k.within); new = here; rest = woven_fresh (x ∷ seen) (x ∷ seen') l old k.rest })
      ]

  -- All are met.
  woven_met : (l : List ℕ) → all_met n l ≡ true → all_met m (woven s new l) ≡ true
  woven_met l f =
      each_all m (λ x. among x (woven s new l)) (λ y h g. elim (dec_le y n) [
        | yes p ↦ woven_among s new y l (each_at n (λ x. among x l) f y h p)
        | no p ↦ (let v = w.every y (omega (arith, p)) g in
            let o = w.old v.0 v.1 in
            subst (λ (z : ℕ). among z (woven s new l) ≡ true) v.2 (woven_new s new v.0 l v.1 (each_at n (λ x. among x l) f v.0 o.0 o.1)))
      ])

  nothing_seen : (seen : List ℕ) → Seen seen []
  unfolding among
  nothing_seen seen = record { low = λ y h p. absurd (false≢true p); high = λ y h p. absurd (false≢true p) }

  -- The chains from several starts.
  module _ (start : ℕ → ℕ) (k : ℕ) (f : fresh n [] (met n next start k) ≡ true) where
    pub woven_chain : (j : ℕ) → j < k → chain m after (start j) ≡ woven s new (chain n next (start j))
    woven_chain j h =
        let v = chain_fresh n next start k j h f in
        let l = chain n next (start j) in
        let e = woven_ended (chain_ended n next start k j h f) in
        let short = fresh_length m [] (woven s new l) (woven_fresh v.0 [] l (nothing_seen v.0) v.1) (λ x p. ended_positive m after x e p) in
        ended_walk m after (suc m) e (omega arith)

    woven_chains : (i : ℕ) → i ≤ k → met m after start i ≡ woven s new (met n next start i)
    unfolding met woven
    woven_chains zero h = refl
    woven_chains (suc i) h =
        ap (λ (l : List ℕ). l ++ chain m after (start i)) (woven_chains i (omega arith))
        ∙ ap (◌++◌ (woven s new (met n next start i))) (woven_chain i (omega arith))
        ∙ sym (woven_append s new (met n next start i) (chain n next (start i)))

  pub woven_once : (start : ℕ → ℕ) (k : ℕ) → once_each n (met n next start k) ≡ true → once_each m (met m after start k) ≡ true
  unfolding once_each
  woven_once start k e =
      let l = met n next start k in
      let f : fresh n [] l ≡ true = search and_left in
      ap (λ (z : List ℕ). fresh m [] z && all_met m z) (woven_chains start k f k (omega arith))
      ∙ and_both (fresh m [] (woven s new l)) (all_met m (woven s new l)) (woven_fresh [] [] l (nothing_seen []) f) (woven_met l (search and_right))

-- Every closed walk holds a ring: a closed walk of the fewest steps meets no event twice, and comes round to a smallest.
-- So a shortest ring has no more events than any closed walk has steps, its closing step counted.
use mathlib.Core.Path.{◌≡◌, refl, sym, subst, ◌∙◌}
use mathlib.Core.List.{List, [], ◌∷◌, ◌++◌}
use mathlib.Core.Bool.{true, false, false≢true}
use mathlib.Core.Logic.{◌⊎◌, inl, inr}
use Prim.Native.Nat.{ℕ, zero, suc, ◌+◌, ◌-◌, ◌<◌, ◌≤◌}
use native.Mathlib.Omega.{arith}
use native.Mathlib.Decide.{dec_lt}
use borrow.Author.Count.{below_none}
use lib.ListN.{length, get_or, take, drop}
use Rattle.std.specs.Prelude.{Option, Some, None}
use Rattle.relation.specs.Rel.{Set, Rel, compose, diagonal, inverse, smallest, nodes}
use Rattle.relation.specs.Ring.{power, Ring, ShortestRing, Shortest, NoneBelow, Way, SmallestAt, Turned}
use Rattle.relation.proofs.Truth.{is_false}
use Rattle.relation.proofs.Meaning.{compose_sound}
use Rattle.relation.proofs.Walks.{Inside, Walk, counted, node, node_last, node_step, upto_node, power_sound, power_complete}
use Rattle.relation.proofs.RingWalks.{ClosedWalk}
use Rattle.relation.proofs.RingLaws.{no_shorter, none_back, ring_of_way, turned_long, round_found, round_none, smallest_one, smallest_new, smallest_old, smallest_done}
use Rattle.relation.proofs.RingMeaning.{closed_of_walk}

-- f at 0, 1, .. up to n numbers.
tabulate : (ℕ → ℕ) → ℕ → List ℕ
tabulate f zero = []
tabulate f (suc n) = f zero ∷ tabulate (λ k. f (suc k)) n

length_tabulate : (f : ℕ → ℕ) (n : ℕ) → length (tabulate f n) ≡ n
unfolding tabulate
length_tabulate f zero = refl
length_tabulate f (suc n) = let e = length_tabulate (λ k. f (suc k)) n in omega arith

get_d_tabulate : (f : ℕ → ℕ) (n k : ℕ) → k < n → get_or (tabulate f n) k zero ≡ f k
unfolding tabulate
get_d_tabulate f zero k h = absurd (omega arith)
get_d_tabulate f (suc n) zero h = refl
get_d_tabulate f (suc n) (suc k) h = get_d_tabulate (λ k. f (suc k)) n k (omega arith)

-- The fewest steps after which e closes a walk, looked for up to n; or none so far.
abbrev Found : Rel → Rel → Type 0
Found r e = (n s : ℕ) × Shortest r e n s

module _ (r e : Rel) (ie : Inside e) where
  closed_by : (n : ℕ) → n < 64 → NoneBelow n r e → Found r e ⊎ NoneBelow (n + 1) r e
  unfolding inverse diagonal
  closed_by n h fewer = go (smallest returning) refl
    where
      returning : Set
      returning = diagonal (compose nodes (power n r) (inverse (inverse e)))

      out : (t : ℕ) → 64 ≤ t → returning t ≡ false
      out t far = is_false (returning t) (λ c. let (x, m, a, b) = compose_sound nodes (power n r) e t t c in let near = ie.target x t b in omega arith)

      go : (o : Option ℕ) → smallest returning ≡ o → Found r e ⊎ NoneBelow (n + 1) r e
      go (Some s) p = inl (n, s, round_found r (inverse e) e (power n r) returning n refl refl refl p h fewer)
      go None p = inr (round_none r (inverse e) e (power n r) returning n refl refl refl out p fewer)

  fewest_steps : (n : ℕ) → n ≤ 64 → Found r e ⊎ NoneBelow n r e
  fewest_steps zero h = inr (below_none _)
  fewest_steps (suc n) h =
      elim (fewest_steps n (omega arith)) [
        | inl found ↦ inl found
        | inr fewer ↦ elim (closed_by n (omega arith) fewer) [ inl found ↦ inl found | inr none ↦ inr (λ m q. none m (omega arith)) ]
      ]

-- The events of a walk, in order, are a way.
module _ (r e : Rel) (ir : Inside r) (s n x : ℕ) (hs : s < 64) (w : Walk r s n x) where
  passed : ℕ → ℕ
  passed k = node w (n - k)

  way_of_walk : e x s ≡ true → Way r e s n (tabulate passed (suc n))
  unfolding passed
  way_of_walk c =
      record {
        long = length_tabulate passed (suc n);
        level = λ k h. rw (at k (omega arith)) (power_complete r ir k s (passed k) hs (counted (omega arith) (upto_node w (n - k) (omega arith))));
        step = λ k h.
            let next : suc (n - suc k) ≡ n - k = omega arith in
            rw (at k (omega arith), at (suc k) (omega arith))
            (subst (λ (j : ℕ). r (node w j) (passed (suc k)) ≡ true) next (node_step w (n - suc k) (omega arith)));
        close = let last : zero ≡ n - n = omega arith in rw (at n (omega arith)) (subst (λ (j : ℕ). e (node w j) s ≡ true) last (rw (node_last w) c));
      }
    where
      at : (k : ℕ) → k < suc n → get_or (tabulate passed (suc n)) k zero ≡ passed k
      at k h = get_d_tabulate passed (suc n) k h

-- Some place has a smallest number, and the numbers can be rotated to it.
smallest_there : (at : List ℕ) (n : ℕ) → (m : ℕ) × SmallestAt at (n + 1) m
smallest_there at zero = (zero, smallest_one at)
smallest_there at (suc n) =
    let (m, w) = smallest_there at n in
    elim (dec_lt (get_or at (n + 1) zero) (get_or at m zero)) [
      | yes h ↦ (n + 1, smallest_done at _ _ _ (omega arith) (smallest_new at m (n + 1) w h))
      | no h ↦ (m, smallest_done at _ _ _ (omega arith) (smallest_old at m (n + 1) w (omega (arith, h))))
    ]

turned_there : (at : List ℕ) (n : ℕ) → length at ≡ suc n → (out : List ℕ) × Turned at out
turned_there at n long =
    let (m, w) = smallest_there at n in
    (drop m at ++ take m at, record { shift = m; front = smallest_done at _ _ _ (omega (arith, long)) w; turned = refl })

-- A ring with no more events than a closed walk has steps.
module _ (r e : Rel) (ir : Inside r) (ie : Inside e) where
  pub ring_within : (n : ℕ) → ClosedWalk r e n → (l : List ℕ) × Ring r e l × (length l ≤ suc n)
  ring_within n c = elim (fewest_steps r e ie 64 (omega arith)) [ inl found ↦ ring_of found | inr none ↦ absurd (nowhere none) ]
    where
      ring_of : Found r e → (l : List ℕ) × Ring r e l × (length l ≤ suc n)
      ring_of (m, s, w) =
          let (x, x-in, a, b) = compose_sound nodes (power m r) e s s w.closes in
          let way = way_of_walk r e ir s m x w.inside (power_sound r m s x a) b in
          let (out, t) = turned_there _ m way.long in (
            out,
            ring_of_way r e ir ie s m _ w.fewest way out t,
            omega (arith, turned_long r e ir ie s m _ w.fewest way out t, no_shorter r e ir ie m n w.fewest c),
          )

      nowhere : NoneBelow 64 r e → ⊥
      nowhere none = false≢true (sym (none_back r e ir ie none c.start) ∙ closed_of_walk r e ir ie n c.start c.end c.walk c.close)

  -- A shortest ring has at most as many events as any closed walk has steps.
  pub at_most_steps : (l : List ℕ) → ShortestRing r e l → (n : ℕ) → ClosedWalk r e n → length l ≤ suc n
  at_most_steps l w n c =
      let (k, ring, h) = ring_within n c in
      omega (arith, w.fewest k ring)

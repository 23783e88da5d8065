-- Bool-valued relations as tests of Type-valued ones: what each operator of the relation layer means.
use mathlib.Core.Bool.{Bool, not, ◌&&◌, ◌||◌}
use mathlib.Core.List.{List, Memᴰ}
use mathlib.Core.Logic.{◌⊎◌, inl, inr}
use mathlib.Core.Path.{subst}
use Prim.Native.Nat.{ℕ}
use lib.Dec.{T, eqb, eqb→eq, eqb_refl, T_not, not_T}
use Rattle.relation.specs.Rel.{Set, Rel, union, intersection, difference, either, both, minus, inverse, identity, some, image, compose, plus, optional}
use Rattle.relation.proofs.Truth.{is_true, holds, T_and, T_and_left, T_and_right, T_or, T_or_left, T_or_right}
use Rattle.relation.proofs.Meaning.{Steps, one as only, more, some_sound, some_complete, plus_sound, plus_holds, plus_passes}
use Rattle.models.specs.Steps.{Plus, one, cons, On, on, Opt, stay, step}
use Rattle.models.proofs.Closure.{snoc, path_source, path_target, mapped}

-- `some` is: there is one.
pub some_intro : (es : List ℕ) (s : Set) {e : ℕ} → Memᴰ e es → T (s e) → T (some es s)
some_intro es s {e} m h = holds (some es s) (some_complete es s e m (is_true (s e) h))

pub some_witness : (es : List ℕ) (s : Set) → T (some es s) → (e : ℕ) × T (s e)
some_witness es s h = let (e, m, p) = some_sound es s (is_true (some es s) h) in (e, holds (s e) p)

-- `plus`, Warshall's rounds: it holds r; at the listed events it is closed under joining; it holds nothing but steps of r.
pub plus_one : (ks : List ℕ) (r : Rel) (i j : ℕ) → T (r i j) → T (plus ks r i j)
plus_one ks r i j h = holds (plus ks r i j) (plus_holds ks r i j (is_true (r i j) h))

pub plus_join : (ks : List ℕ) (r : Rel) (i j : ℕ) {m : ℕ} → Memᴰ m ks → T (plus ks r i m) → T (plus ks r m j) → T (plus ks r i j)
plus_join ks r i j {m} l p q =
    holds (plus ks r i j) (plus_passes ks r m l i j (is_true (plus ks r i m) p) (is_true (plus ks r m j) q))

pub steps_plus : {r : Rel} {i j : ℕ} → Steps r i j → Plus (λ a b. T (r a b)) i j
steps_plus (only h) = one (holds _ h)
steps_plus (more p h) = snoc (steps_plus p) (holds _ h)

pub plus_steps : (ks : List ℕ) (r : Rel) (i j : ℕ) → T (plus ks r i j) → Plus (λ a b. T (r a b)) i j
plus_steps ks r i j h = steps_plus (plus_sound ks r i j (is_true (plus ks r i j) h))

-- r tests P, and P relates only events of s.
pub record Tests (s : ℕ → Bool) (r : Rel) (P : ℕ → ℕ → Type 0) : Type 0 where
  pub to : (i j : ℕ) → T (r i j) → P i j
  pub from : (i j : ℕ) → P i j → T (r i j)
  pub source : (i j : ℕ) → P i j → T (s i)
  pub target : (i j : ℕ) → P i j → T (s j)

-- The operators, on tests of relations between events of s.
module _ {s : Set} where
  pub either_tests : {r t : Rel} {P Q : ℕ → ℕ → Type 0} → Tests s r P → Tests s t Q → Tests s (either r t) (λ a b. P a b ⊎ Q a b)
  unfolding either union
  either_tests {r} {t} f g = record {
    to = λ i j h. elim (T_or (r i j) (t i j) h) [ inl k ↦ inl (f.to i j k) | inr k ↦ inr (g.to i j k) ];
    from = λ i j. elim [ inl k ↦ T_or_left (r i j) (t i j) (f.from i j k) | inr k ↦ T_or_right (r i j) (t i j) (g.from i j k) ];
    source = λ i j. elim [ inl k ↦ f.source i j k | inr k ↦ g.source i j k ];
    target = λ i j. elim [ inl k ↦ f.target i j k | inr k ↦ g.target i j k ];
  }

  pub both_tests : {r t : Rel} {P Q : ℕ → ℕ → Type 0} → Tests s r P → Tests s t Q → Tests s (both r t) (λ a b. P a b × Q a b)
  unfolding both intersection
  both_tests {r} {t} f g = record {
    to = λ i j h. (f.to i j (T_and_left (r i j) (t i j) h), g.to i j (T_and_right (r i j) (t i j) h));
    from = λ i j h. T_and (r i j) (t i j) (f.from i j h.0) (g.from i j h.1);
    source = λ i j h. f.source i j h.0;
    target = λ i j h. f.target i j h.0;
  }

  pub minus_tests : {r t : Rel} {P Q : ℕ → ℕ → Type 0} → Tests s r P → Tests s t Q → Tests s (minus r t) (λ a b. P a b × ¬ Q a b)
  unfolding minus difference
  minus_tests {r} {t} f g = record {
    to = λ i j h. (f.to i j (T_and_left (r i j) (not (t i j)) h), λ k. T_not (t i j) (T_and_right (r i j) (not (t i j)) h) (g.from i j k));
    from = λ i j h. T_and (r i j) (not (t i j)) (f.from i j h.0) (not_T (t i j) (λ k. h.1 (g.to i j k)));
    source = λ i j h. f.source i j h.0;
    target = λ i j h. f.target i j h.0;
  }

  pub inverse_tests : {r : Rel} {P : ℕ → ℕ → Type 0} → Tests s r P → Tests s (inverse r) (λ a b. P b a)
  unfolding inverse
  inverse_tests f = record {
    to = λ i j. f.to j i;
    from = λ i j. f.from j i;
    source = λ i j. f.target j i;
    target = λ i j. f.source j i;
  }

  -- [t]: t and S agree on elements, and elements are events.
  pub identity_tests : (t : Set) (S : ℕ → Type 0) → ((e : ℕ) → T (t e) → S e) → ((e : ℕ) → S e → T (t e)) → ((e : ℕ) → S e → T (s e)) → Tests s (identity t) (On S)
  unfolding identity
  identity_tests t S f g h = record {
    to = λ i j k. subst (On S i) (eqb→eq i j (T_and_right (t i) (eqb i j) k)) (on (f i (T_and_left (t i) (eqb i j) k)));
    from = from;
    source = source;
    target = target;
  }
    where
      from : (i j : ℕ) → On S i j → T (t i && eqb i j)
      from i j (on k) = T_and (t i) (eqb i i) (g i k) (eqb_refl i)

      source : (i j : ℕ) → On S i j → T (s i)
      source i j (on k) = h i k

      target : (i j : ℕ) → On S i j → T (s j)
      target i j (on k) = h i k

  pub optional_tests : {r : Rel} {P : ℕ → ℕ → Type 0} (S : ℕ → Type 0) → ((e : ℕ) → T (s e) → S e) → ((e : ℕ) → S e → T (s e)) → Tests s r P → Tests s (optional s r) (Opt S P)
  unfolding optional either union identity
  optional_tests {r} {P} S f g h = record {
    to = λ i j k. elim (T_or (r i j) (s i && eqb i j) k) [
      | inl l ↦ step (h.to i j l)
      | inr l ↦ subst (Opt S P i) (eqb→eq i j (T_and_right (s i) (eqb i j) l)) (stay (f i (T_and_left (s i) (eqb i j) l)))
    ];
    from = from;
    source = source;
    target = target;
  }
    where
      from : (i j : ℕ) → Opt S P i j → T (r i j || (s i && eqb i j))
      from i j (stay k) = T_or_right (r i i) (s i && eqb i i) (T_and (s i) (eqb i i) (g i k) (eqb_refl i))
      from i j (step k) = T_or_left (r i j) (s i && eqb i j) (h.from i j k)

      source : (i j : ℕ) → Opt S P i j → T (s i)
      source i j (stay k) = g i k
      source i j (step k) = h.source i j k

      target : (i j : ℕ) → Opt S P i j → T (s j)
      target i j (stay k) = g i k
      target i j (step k) = h.target i j k

-- Those that are computed over a list, which is to hold the events.
module _ (es : List ℕ) (s : Set) (listed : (e : ℕ) → T (s e) → Memᴰ e es) where
  -- [codom(r)]
  pub codomain_tests : {r : Rel} {P : ℕ → ℕ → Type 0} → Tests s r P → Tests s (identity (image es s r)) (On (λ b. (a : ℕ) × P a b))
  unfolding image
  codomain_tests {r} f = identity_tests (image es s r) _
      (λ e h. (let w = some_witness es (λ i. s i && r i e) h in (w.0, f.to w.0 e (T_and_right (s w.0) (r w.0 e) w.1))))
      (λ e h. (let p = f.source h.0 e h.1 in some_intro es (λ i. s i && r i e) (listed h.0 p) (T_and (s h.0) (r h.0 e) p (f.from h.0 e h.1))))
      (λ e h. f.target h.0 e h.1)

  pub compose_tests : {r t : Rel} {P Q : ℕ → ℕ → Type 0} → Tests s r P → Tests s t Q → Tests s (compose es r t) (λ a c. (b : ℕ) × P a b × Q b c)
  unfolding compose image
  compose_tests {r} {t} f g = record {
    to = λ i j h. (let w = some_witness es (λ k. r i k && t k j) h in (w.0, f.to i w.0 (T_and_left (r i w.0) (t w.0 j) w.1), g.to w.0 j (T_and_right (r i w.0) (t w.0 j) w.1)));
    from = λ i j h. some_intro es (λ k. r i k && t k j) (listed h.0 (f.target i h.0 h.1)) (T_and (r i h.0) (t h.0 j) (f.from i h.0 h.1) (g.from h.0 j h.2));
    source = λ i j h. f.source i h.0 h.1;
    target = λ i j h. g.target h.0 j h.2;
  }

  pub plus_tests : {r : Rel} {P : ℕ → ℕ → Type 0} → Tests s r P → Tests s (plus es r) (Plus P)
  plus_tests {r} {P} h = record {
    to = λ i j k. mapped h.to (plus_steps es r i j k);
    from = from;
    source = λ i j. path_source h.source;
    target = λ i j. path_target h.target;
  }
    where
      from : (i j : ℕ) → Plus P i j → T (plus es r i j)
      from i j (one k) = plus_one es r i j (h.from i j k)
      from i j (cons {b = m} k p) = plus_join es r i j (listed m (h.target i m k)) (plus_one es r i m (h.from i m k)) (from m j p)

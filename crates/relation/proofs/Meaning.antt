-- What the computed operators mean: `some` is "there is an event", `compose` is "there is an event between",
-- `plus` is one or more steps.
use mathlib.Core.Path.{◌≡◌, refl, sym, ap, subst, ◌∙◌}
use mathlib.Core.List.{List, [], ◌∷◌, Memᴰ}
use mathlib.Core.Bool.{Bool, true, false, ◌&&◌, ◌||◌, false≢true}
use mathlib.Core.Logic.{inl, inr}
use Prim.Native.Nat.{ℕ, zero, suc, ◌<◌}
use native.Mathlib.Omega.{arith}
use native.Mathlib.Decide.{ℕ_discrete, dec_lt}
use borrow.Author.Tests.{lt-ltb, le-ltb}
use lib.Dec.{ltb}
use Rattle.relation.specs.Rel.{Set, Rel, some, image, compose, through, plus, least, below, nodes}
use Rattle.relation.proofs.Truth.{and_left, and_right, and_both, or_either, or_left, or_right}
use Rattle.relation.proofs.SetLaws.{least_is, least_lt}

-- One or more steps of r.
pub data Steps (r : Rel) (x : ℕ) : ℕ → Type 0 where
  one : {y : ℕ} → r x y ≡ true → Steps r x y
  more : {y z : ℕ} → Steps r x y → r y z ≡ true → Steps r x z

-- `some`: there is an event of the list in the set.
pub some_sound : (es : List ℕ) (s : Set) → some es s ≡ true → (x : ℕ) × Memᴰ x es × (s x ≡ true)
unfolding some
some_sound [] s p = absurd (false≢true p)
some_sound (e ∷ es) s p =
    elim (or_either (s e) (some es s) p) [
      | inl q ↦ (e, Memᴰ.head refl, q)
      | inr q ↦ let (x, m, h) = some_sound es s q in (x, Memᴰ.tail m, h)
    ]

pub some_complete : (es : List ℕ) (s : Set) (x : ℕ) → Memᴰ x es → s x ≡ true → some es s ≡ true
unfolding some
some_complete [] s x x4 p = elim x4 [ ]
some_complete (e ∷ es) s x (Memᴰ.head q) p = or_left (s e) (some es s) (ap s (sym q) ∙ p)
some_complete (e ∷ es) s x (Memᴰ.tail m) p = or_right (s e) (some es s) (some_complete es s x m p)

pub mem_below : (n x : ℕ) → x < n → Memᴰ x (below n)
unfolding below
mem_below zero x h = absurd (omega arith)
mem_below (suc n) x h =
    elim (ℕ_discrete x n) [
      | yes e ↦ Memᴰ.head e
      | no d ↦ Memᴰ.tail (mem_below n x (omega (arith, d)))
    ]

pub below_mem : (n x : ℕ) → Memᴰ x (below n) → x < n
unfolding below
below_mem zero x x3 = elim x3 [ ]
below_mem (suc n) x (Memᴰ.head e) = omega (arith, e)
below_mem (suc n) x (Memᴰ.tail m) = let h = below_mem n x m in omega arith

-- A number below 64 is in the set exactly when the least member is below 64.
pub some_least : (s : Set) → ltb (least 64 s) 64 ≡ some nodes s
some_least s = go (some nodes s) refl
  where
    go : (b : Bool) → some nodes s ≡ b → ltb (least 64 s) 64 ≡ some nodes s
    go true p =
        let (x, m, h) = some_sound nodes s p in
        lt-ltb (least 64 s) 64 (omega (arith, least_lt 64 s x (below_mem 64 x m) h, below_mem 64 x m)) ∙ sym p
    go false p =
        elim (dec_lt (least 64 s) 64) [
          | yes h ↦ absurd (false≢true (sym p ∙ some_complete nodes s (least 64 s) (mem_below 64 (least 64 s) h) ((least_is 64 s).member h)))
          | no h ↦ le-ltb (least 64 s) 64 (omega (arith, h)) ∙ sym p
        ]

-- `image` and `compose`: there is an event between.
pub image_sound : (es : List ℕ) (s : Set) (r : Rel) (y : ℕ) → image es s r y ≡ true → (x : ℕ) × Memᴰ x es × (s x ≡ true) × (r x y ≡ true)
unfolding image
image_sound es s r y p =
    let (x, m, q) = some_sound es (λ i. s i && r i y) p in
    (x, m, and_left (s x) (r x y) q, and_right (s x) (r x y) q)

pub image_complete : (es : List ℕ) (s : Set) (r : Rel) (x y : ℕ) → Memᴰ x es → s x ≡ true → r x y ≡ true → image es s r y ≡ true
unfolding image
image_complete es s r x y m p q = some_complete es (λ i. s i && r i y) x m (and_both (s x) (r x y) p q)

pub compose_sound : (es : List ℕ) (r s : Rel) (x z : ℕ) → compose es r s x z ≡ true
    → (y : ℕ) × Memᴰ y es × (r x y ≡ true) × (s y z ≡ true)
unfolding compose
compose_sound es r s x z p = image_sound es (r x) s z p

pub compose_complete : (es : List ℕ) (r s : Rel) (x y z : ℕ) → Memᴰ y es → r x y ≡ true → s y z ≡ true → compose es r s x z ≡ true
unfolding compose
compose_complete es r s x y z m p q = image_complete es (r x) s y z m p q

-- Steps follow on steps.
pub steps_join : {r : Rel} {x y z : ℕ} → Steps r x y → Steps r y z → Steps r x z
steps_join a (one h) = more a h
steps_join a (more b h) = more (steps_join a b) h

-- `plus`: one or more steps.
pub plus_sound : (es : List ℕ) (r : Rel) (x y : ℕ) → plus es r x y ≡ true → Steps r x y
unfolding plus through
plus_sound [] r x y p = one p
plus_sound (k ∷ ks) r x y p =
    elim (or_either (plus ks r x y) _ p) [
      | inl q ↦ plus_sound ks r x y q
      | inr q ↦ steps_join (plus_sound ks r x k (and_left _ _ q)) (plus_sound ks r k y (and_right (plus ks r x k) _ q))
    ]

pub plus_holds : (es : List ℕ) (r : Rel) (x y : ℕ) → r x y ≡ true → plus es r x y ≡ true
unfolding plus through
plus_holds [] r x y p = p
plus_holds (k ∷ ks) r x y p = or_left (plus ks r x y) _ (plus_holds ks r x y p)

passes_on : (s : Rel) (k m : ℕ) → ((x y : ℕ) → s x m ≡ true → s m y ≡ true → s x y ≡ true) → (x y : ℕ)
    → through k s x m ≡ true → through k s m y ≡ true → through k s x y ≡ true
unfolding through
passes_on s k m by-m x y p q =
    elim (or_either (s x m) _ p) [
      | inl a ↦ elim (or_either (s m y) _ q) [
        | inl b ↦ or_left (s x y) _ (by-m x y a b)
        | inr b ↦ by_k (by-m x k a (and_left (s m k) _ b)) (and_right (s m k) _ b)
      ]
      | inr a ↦ elim (or_either (s m y) _ q) [
        | inl b ↦ by_k (and_left (s x k) _ a) (by-m k y (and_right (s x k) _ a) b)
        | inr b ↦ by_k (and_left (s x k) _ a) (and_right (s m k) _ b)
      ]
    ]
  where
    by_k : s x k ≡ true → s k y ≡ true → s x y || (s x k && s k y) ≡ true
    by_k a b = or_right (s x y) _ (and_both (s x k) (s k y) a b)

-- After its round a path may pass an event.
pub plus_passes : (es : List ℕ) (r : Rel) (m : ℕ) → Memᴰ m es → (x y : ℕ) → plus es r x m ≡ true → plus es r m y ≡ true
    → plus es r x y ≡ true
unfolding plus through
plus_passes [] r m x5 x y p q = elim x5 [ ]
plus_passes (k ∷ ks) r m (Memᴰ.head e) x y p q =
    or_right (plus ks r x y) _ (and_both (plus ks r x k) (plus ks r k y)
    (elim (or_either (plus ks r x k) _ (subst (λ i. through k (plus ks r) x i ≡ true) e p)) [ inl h ↦ h | inr h ↦ and_left (plus ks r x k) _ h ])
    (elim (or_either (plus ks r k y) _ (subst (λ i. through k (plus ks r) i y ≡ true) e q)) [ inl h ↦ h | inr h ↦ and_right (plus ks r k k) _ h ]))
plus_passes (k ∷ ks) r m (Memᴰ.tail i) x y p q = passes_on (plus ks r) k m (plus_passes ks r m i) x y p q

pub plus_complete : (es : List ℕ) (r : Rel) → ((x y : ℕ) → r x y ≡ true → Memᴰ x es) → (x y : ℕ) → Steps r x y
    → plus es r x y ≡ true
plus_complete es r inside x y (one h) = plus_holds es r x y h
plus_complete es r inside x z (more {y = y} a h) =
    plus_passes es r y (inside y z h) x z (plus_complete es r inside x y a) (plus_holds es r y z h)

-- Laws of sets of events: given by a test, the least member, and sets collected number by number.
use mathlib.Core.Path.{◌≡◌, refl, sym, ap, ap₂, subst, ◌∙◌, fun_ext}
use mathlib.Core.Bool.{Bool, true, false, ◌&&◌, ◌||◌, false≢true, or-false, and-false, and-true}
use Prim.Native.Nat.{ℕ, zero, suc, ◌+◌, ◌-◌, ◌<◌, ◌≤◌}
use native.Mathlib.Omega.{arith}
use native.Mathlib.Decide.{ℕ_discrete, dec_lt}
use borrow.Author.Tests.{eq-eqb, ne_eqb, lt-ltb, le-ltb}
use lib.Dec.{eqb, ltb}
use Rattle.relation.specs.Rel.{Set, Next, empty, single, given, union, least}

-- A set where a test holds.
pub given_yes : (b : Bool) (s : Set) → b ≡ true → s ≡ given b s
unfolding given
given_yes b s e = fun_ext (λ j. ap (λ (x : Bool). x && s j) (sym e))

pub given_no : (b : Bool) (s : Set) → b ≡ false → empty ≡ given b s
unfolding given empty
given_no b s e = fun_ext (λ j. ap (λ (x : Bool). x && s j) (sym e))

-- No event, then one.
pub single_only : {t u : Set} (k : ℕ) → t ≡ empty → u ≡ union t (single k) → u ≡ single k
unfolding union empty
single_only k p e = e ∙ ap (λ (s : Set). union s (single k)) p

-- The least member.
pub least_at : (n : ℕ) (s : Set) (k : ℕ) → k < n → s k ≡ true → ((m : ℕ) → m < k → s m ≡ false) → least n s ≡ k
unfolding least
least_at zero s k h t f = absurd (omega arith)
least_at (suc n) s zero h t f = rw (t, least)
least_at (suc n) s (suc k) h t f =
    rw (f zero (omega arith), least) (ap suc (least_at n (λ j. s (suc j)) k (omega arith) t (λ m g. f (suc m) (omega arith))))

pub least_none : (n : ℕ) (s : Set) → ((m : ℕ) → m < n → s m ≡ false) → least n s ≡ n
unfolding least
least_none zero s f = refl
least_none (suc n) s f =
    rw (f zero (omega arith), least) (ap suc (least_none n (λ j. s (suc j)) (λ m g. f (suc m) (omega arith))))

-- What a least member is: a member that no smaller number is, or n with no member below n.
pub record Least (n : ℕ) (s : Set) (k : ℕ) : Type 0 where
  pub bound : k ≤ n
  pub member : k < n → s k ≡ true
  pub smaller : (m : ℕ) → m < k → s m ≡ false

least_step : (n : ℕ) (s : Set) (b : Bool) → s zero ≡ b → (k : ℕ) → Least n (λ j. s (suc j)) k
    → Least (suc n) s (elim b [ true ↦ zero | false ↦ suc k ])
least_step n s true e k w = record { bound = omega arith; member = λ h. e; smaller = λ m h. absurd (omega arith) }
least_step n s false e k w =
    record { bound = omega (arith, w.bound); member = λ h. w.member (omega arith); smaller = earlier }
  where
    earlier : (m : ℕ) → m < suc k → s m ≡ false
    earlier zero h = e
    earlier (suc m) h = w.smaller m (omega arith)

pub least_is : (n : ℕ) (s : Set) → Least n s (least n s)
unfolding least
least_is zero s = record { bound = omega arith; member = λ h. absurd (omega arith); smaller = λ m h. absurd (omega arith) }
least_is (suc n) s = least_step n s (s zero) refl (least n (λ j. s (suc j))) (least_is n (λ j. s (suc j)))

-- A set has its least member below n where it has any.
pub least_lt : (n : ℕ) (s : Set) (k : ℕ) → k < n → s k ≡ true → least n s ≤ k
least_lt n s k h t =
    elim (dec_lt k (least n s)) [
      | yes g ↦ absurd (false≢true (sym ((least_is n s).smaller k g) ∙ t))
      | no g ↦ omega (arith, g)
    ]

-- The search for the least member of p, a part of s, from member to member of s: k is in s or is 64, and no number below k is in p.
pub record Seeking (s p : Set) (k : ℕ) : Type 0 where
  pub high : k ≤ 64
  pub member : k < 64 → s k ≡ true
  pub passed : (m : ℕ) → m < k → p m ≡ false

-- Start, one member more, and the two ends.
module _ (s p : Set) (part : (m : ℕ) → s m ≡ false → p m ≡ false) where
  pub seeking_first : (k : ℕ) → k ≡ least 64 s → Seeking s p k
  seeking_first k e =
      let l : Least 64 s k = subst (Least 64 s) (sym e) (least_is 64 s) in
      record { high = l.bound; member = l.member; passed = λ m h. part m (l.smaller m h) }

  pub seeking_next : (k : ℕ) → Seeking s p k → p k ≡ false → (n : ℕ) → Next s (k + 1) n → Seeking s p n
  seeking_next k w e n next = record { high = next.high; member = next.member; passed = passed }
    where
      passed : (m : ℕ) → m < n → p m ≡ false
      passed m h =
          elim (dec_lt m k) [
            | yes g ↦ w.passed m g
            | no g ↦ elim (ℕ_discrete m k) [
              | yes q ↦ ap p q ∙ e
              | no d ↦ part m (next.before m (omega (arith, g, d)) h)
            ]
          ]

pub seeking_none : (s p : Set) (k : ℕ) → Seeking s p k → 64 ≤ k → k ≡ least 64 p
seeking_none s p k w h =
    let e : k ≡ 64 = omega (arith, w.high) in
    e ∙ sym (least_none 64 p (λ m g. w.passed m (omega arith)))

pub seeking_found : (s p : Set) (k : ℕ) → Seeking s p k → k < 64 → p k ≡ true → k ≡ least 64 p
seeking_found s p k w h e = sym (least_at 64 p k h e w.passed)

-- Sets filled number by number: the numbers of s below k.
unfoldable pub upto : ℕ → Set → Set
upto k s j = ltb j k && s j

pub upto_none : (s : Set) → empty ≡ upto 0 s
unfolding upto empty
upto_none s = fun_ext (λ j. sym (ap (λ (b : Bool). b && s j) (le-ltb j 0 (omega arith))))

upto_split : (k : ℕ) (s : Set) (j : ℕ) → upto (k + 1) s j ≡ upto k s j || (eqb k j && s j)
unfolding upto
upto_split k s j =
    elim (ℕ_discrete k j) [
      | yes e ↦ rw (lt-ltb j (k + 1) (omega arith), le-ltb j k (omega arith), eq-eqb k j e)
      | no d ↦ rw (ne_eqb k j d, or-false) (ap (λ (b : Bool). b && s j) (same_test d))
    ]
  where
    same_test : (k ≡ j → ⊥) → ltb j (k + 1) ≡ ltb j k
    same_test d =
        elim (dec_lt j k) [
          | yes h ↦ lt-ltb j (k + 1) (omega arith) ∙ sym (lt-ltb j k h)
          | no h ↦ le-ltb j (k + 1) (omega (arith, h, d)) ∙ sym (le-ltb j k (omega (arith, h)))
        ]

only : (s : Set) (k j : ℕ) (b : Bool) → s k ≡ b → eqb k j && s j ≡ eqb k j && b
only s k j b e =
    elim (ℕ_discrete k j) [
      | yes p ↦ ap (λ (x : Bool). eqb k j && x) (ap s (sym p) ∙ e)
      | no d ↦ rw (ne_eqb k j d)
    ]

pub upto_with : (k : ℕ) (s t : Set) → t ≡ upto k s → s k ≡ true → union t (single k) ≡ upto (k + 1) s
unfolding union single
upto_with k s t p e =
    fun_ext
    (λ j. ap₂ ◌||◌ (ap (λ (f : Set). f j) p) (sym (only s k j true e ∙ and-true (eqb k j))) ∙ sym (upto_split k s j))

pub upto_keep : (k : ℕ) (s t : Set) → t ≡ upto k s → s k ≡ false → t ≡ upto (k + 1) s
upto_keep k s t p e =
    fun_ext
    (λ j. ap (λ (f : Set). f j) p ∙ sym (or-false (upto k s j))
    ∙ ap (λ (b : Bool). upto k s j || b) (sym (only s k j false e ∙ and-false (eqb k j))) ∙ sym (upto_split k s j))

-- What goes from k to k + 1 where k is not in s goes on to the next number that may be.
pub skip_to : (s : Set) (P : ℕ → Type 0) → ((k : ℕ) → s k ≡ false → P k → P (k + 1)) → (i k : ℕ) → i ≤ k → ((m : ℕ) → i ≤ m → m < k → s m ≡ false)
    → P i → P k
skip_to s P step i k h f p = subst P {x = i + (k - i)} {y = k} (omega arith) (go (k - i) (λ m a b. f m a (omega arith)))
  where
    go : (d : ℕ) → ((m : ℕ) → i ≤ m → m < i + d → s m ≡ false) → P (i + d)
    go zero g = subst P {x = i} {y = i + 0} (omega arith) p
    go (suc d) g =
        subst P {x = i + d + 1} {y = i + suc d} (omega arith)
        (step (i + d) (g (i + d) (omega arith) (omega arith)) (go d (λ m a b. g m a (omega arith))))

pub upto_skip : (k n : ℕ) (s t : Set) → k ≤ n → t ≡ upto k s → ((j : ℕ) → k ≤ j → j < n → s j ≡ false) → t ≡ upto n s
upto_skip k n s t h p out = skip_to s (λ i. t ≡ upto i s) (λ i e q. upto_keep i s t q e) k n h out p

pub upto_done : (k n : ℕ) (s t : Set) → n ≤ k → t ≡ upto k s → ((j : ℕ) → n ≤ j → s j ≡ false) → t ≡ s
unfolding upto
upto_done k n s t h p out =
    p
    ∙ fun_ext
    (λ j. elim (dec_lt j n) [
      | yes g ↦ ap (λ (b : Bool). b && s j) (lt-ltb j k (omega arith))
      | no g ↦ ap (λ (b : Bool). ltb j k && b) (out j (omega (arith, g))) ∙ and-false (ltb j k) ∙ sym (out j (omega (arith, g)))
    ])

-- t is collected so, up to k; s holds no number from 64 on.
pub record Collected (s t : Set) (k : ℕ) : Type 0 where
  pub high : k ≤ 64
  pub holds : t ≡ upto k s
  pub out : (m : ℕ) → 64 ≤ m → s m ≡ false

pub collected_start : {s t : Set} → t ≡ empty → ((m : ℕ) → 64 ≤ m → s m ≡ false) → Collected s t 0
collected_start p out = record { high = omega arith; holds = p ∙ upto_none _; out = out }

module _ {s t : Set} {k : ℕ} (w : Collected s t k) where
  pub collected_with : {u : Set} → k < 64 → s k ≡ true → u ≡ union t (single k) → Collected s u (k + 1)
  collected_with h e p = record { high = omega arith; holds = p ∙ upto_with k s t w.holds e; out = w.out }

  pub collected_keep : k < 64 → s k ≡ false → Collected s t (k + 1)
  collected_keep h e = record { high = omega arith; holds = upto_keep k s t w.holds e; out = w.out }

  pub collected_all : 64 ≤ k → t ≡ s
  collected_all h = upto_done k 64 s t h w.holds w.out

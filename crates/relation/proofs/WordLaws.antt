-- Laws of a row as one number: its bits are the row's, and its lowest set bit is the smallest member.
use mathlib.Core.Path.{◌≡◌, refl, sym, ap, ap₂, subst, ◌∙◌, fun_ext}
use mathlib.Core.List.{List, [], ◌∷◌}
use mathlib.Core.Bool.{Bool, true, false, not, ◌&&◌, ◌||◌, or-false}
use Prim.Native.Nat.{ℕ, zero, suc, ◌+◌, ◌-◌, ◌*◌, ◌/◌, ◌%◌, ◌^◌, ◌<◌, ◌≤◌}
use native.Mathlib.Nat.{zero-div, mul_assoc, div-one}
use native.Mathlib.Omega.{arith}
use native.Mathlib.Decide.{ℕ_discrete, dec_lt}
use borrow.Author.Tests.{eq-eqb, ne_eqb, lt-ltb, le-ltb}
use lib.Dec.{eqb, ltb}
use lib.Arith.{lt-one}
use lib.Pow.{pow-add, shr_lt, shl-shr, shr-shr, shl_exact, high, ones_lt, ones_split}
use lib.Bits.{bit_and, bit_or, and_mask, or_shifted, shifted_even}
use lib.Count.{ones, ones_step, ones-le, count_trailing_zeros, under, trailing_le}
use lib.ListN.{length, get_or, replicate, get_or-replicate, get_or-eq_default}
use mir.Syntax.{w64}
use Rattle.std.specs.Prelude.{Some, None}
use Rattle.std.proofs.lemmas.Nat.Bits.{bit_at-trailing_zeros}
use Rattle.relation.specs.Rel.{Set, single, union, intersection, difference, least, smallest, some, nodes, members, count}
use Rattle.relation.specs.Bits.{on, bit}
use Rattle.relation.specs.Ring as ring
use Rattle.relation.proofs.ByteLaws.{digits, Bitwise, on_or, on_and, on_but, bit_but, but, on_zero, bit_in, bit_out}
use Rattle.relation.proofs.SmallestLaws.{smallest_below, smallest_none, smallest_not, empty_by_least, filled_by_least}
use Rattle.relation.proofs.MemberLaws.{members_first, members_none}
use Rattle.relation.proofs.Counting.{count_add}

-- Below k, w times 2 ^ k has no bit; from k on it has those of w.
on_below : (w k j : ℕ) → j < k → on (w * 2 ^ k) j ≡ false
unfolding on
on_below w k j h =
    let d = k - suc j in
    let e : k ≡ suc d + j = omega arith in
    let split : w * 2 ^ k ≡ (w * 2 ^ suc d) * 2 ^ j = ap (λ (n : ℕ). w * 2 ^ n) e ∙ ap (λ (n : ℕ). w * n) (pow-add 2 (suc d) j) ∙ sym (mul_assoc w (2 ^ suc d) (2 ^ j)) in
    ap (λ (n : ℕ). eqb (n / 2 ^ j % 2) 1) split ∙ ap (λ (n : ℕ). eqb (n % 2) 1) (shl-shr (w * 2 ^ suc d) j) ∙ ap (λ (n : ℕ). eqb n 1) (shifted_even w d)

on_above : (w k i : ℕ) → on (w * 2 ^ k) (k + i) ≡ on w i
unfolding on
on_above w k i = ap (λ (n : ℕ). eqb (n % 2) 1) (sym (shr-shr (w * 2 ^ k) k i) ∙ ap (λ (n : ℕ). n / 2 ^ i) (shl-shr w k))

-- A number below 2 ^ k has no bit from k on.
on_over : (b k i : ℕ) → b < 2 ^ k → on b (k + i) ≡ false
unfolding on
on_over b k i h =
    ap (λ (n : ℕ). eqb (n % 2) 1)
    (sym (shr-shr b k i) ∙ ap (λ (n : ℕ). n / 2 ^ i) (lt-one (shr_lt 0 k (subst (λ (n : ℕ). b < 2 ^ n) (omega arith) h))) ∙ zero-div (2 ^ i))

-- The bits of a byte and of what stands above it.
on_joined : (b w j : ℕ) → b < 256 → on (b + 256 * w) j ≡ on (w * 2 ^ 8) j || on b j
on_joined b w j h =
    let e : b + 256 * w ≡ bit_or (w * 2 ^ 8) b = omega arith ∙ sym (or_shifted w 8 b h) in
    ap (λ (n : ℕ). on n j) e ∙ on_or (w * 2 ^ 8) b j

-- The bytes of a row as one number, the lowest first.
word : List ℕ → ℕ
word [] = 0
word (b ∷ row) = b + 256 * word row

on_word : (row : List ℕ) → ((k : ℕ) → get_or row k 0 < 256) → (j : ℕ) → on (word row) j ≡ on (get_or row (j / 8) 0) (j % 8)
unfolding word
on_word [] h j = on_zero j ∙ sym (on_zero (j % 8))
on_word (b ∷ row) h j =
    elim (dec_lt j 8) [
      | yes p ↦ on_joined b (word row) j (h 0) ∙ ap (λ (x : Bool). x || on b j) (on_below (word row) 8 j p) ∙ sym (ap₂ (λ (m n : ℕ). on (get_or (b ∷ row) m 0) n) (low p) (rest p))
      | no p ↦ high (j - 8) (omega (arith, p)) (on_word row (λ k. h (suc k)) (j - 8))
    ]
  where
    low : j < 8 → j / 8 ≡ 0
    low p = omega arith

    rest : j < 8 → j % 8 ≡ j
    rest p = omega arith

    high : (i : ℕ) → j ≡ 8 + i → on (word row) i ≡ on (get_or row (i / 8) 0) (i % 8)
        → on (b + 256 * word row) j ≡ on (get_or (b ∷ row) (j / 8) 0) (j % 8)
    high i e above =
        ap (on (b + 256 * word row)) e ∙ on_joined b (word row) (8 + i) (h 0) ∙ ap₂ ◌||◌ (on_above (word row) 8 i) (on_over b 8 i (h 0)) ∙ or-false (on (word row) i)
        ∙ above
        ∙ sym (ap₂ (λ (m n : ℕ). on (get_or (b ∷ row) m 0) n) {x = j / 8} {y = suc (i / 8)} (omega arith) (omega arith))

-- The eight bytes of a row, as the code adds them up.
summed : (row : List ℕ) → length row ≡ 8
    → get_or row 0 0 + 256 * get_or row 1 0 + 65536 * get_or row 2 0 + 16777216 * get_or row 3 0 + 4294967296 * get_or row 4 0
    + 1099511627776 * get_or row 5 0 + 281474976710656 * get_or row 6 0 + 72057594037927936 * get_or row 7 0 ≡ word row
unfolding word
summed (a ∷ b ∷ c ∷ d ∷ e ∷ f ∷ g ∷ h ∷ []) l = omega arith
summed [] l = absurd (omega (arith, l))
summed (a ∷ []) l = absurd (omega (arith, l))
summed (a ∷ b ∷ []) l = absurd (omega (arith, l))
summed (a ∷ b ∷ c ∷ []) l = absurd (omega (arith, l))
summed (a ∷ b ∷ c ∷ d ∷ []) l = absurd (omega (arith, l))
summed (a ∷ b ∷ c ∷ d ∷ e ∷ []) l = absurd (omega (arith, l))
summed (a ∷ b ∷ c ∷ d ∷ e ∷ f ∷ []) l = absurd (omega (arith, l))
summed (a ∷ b ∷ c ∷ d ∷ e ∷ f ∷ g ∷ []) l = absurd (omega (arith, l))
summed (a ∷ b ∷ c ∷ d ∷ e ∷ f ∷ g ∷ h ∷ i ∷ row) l = absurd (omega (arith, l))

bit_of_word : (row : List ℕ) → length row ≡ 8 → ((k : ℕ) → get_or row k 0 < 256) → bit row ≡ on (word row)
bit_of_word row l h =
    fun_ext
    (λ j. elim (dec_lt j 64) [
      | yes p ↦ bit_in row j p ∙ sym (on_word row h j)
      | no p ↦ bit_out row j (omega (arith, p)) ∙ sym (on_zero (j % 8))
          ∙ ap (λ (n : ℕ). on n (j % 8)) (sym (get_or-eq_default row 0 (omega (arith, l, p)))) ∙ sym (on_word row h j)
    ])

pub bit_word : (row : List ℕ) → length row ≡ 8 → ((k : ℕ) → get_or row k 0 < 256)
    → bit row ≡ on (get_or row 0 0 + 256 * get_or row 1 0 + 65536 * get_or row 2 0 + 16777216 * get_or row 3 0 + 4294967296 * get_or row 4 0
    + 1099511627776 * get_or row 5 0 + 281474976710656 * get_or row 6 0 + 72057594037927936 * get_or row 7 0)
bit_word row l h = bit_of_word row l h ∙ ap on (sym (summed row l))

-- The lowest n bytes of a number, the lowest first.
bytes_of : ℕ → ℕ → List ℕ
bytes_of zero w = []
bytes_of (suc n) w = w % 256 ∷ bytes_of n (w / 256)

bytes_of_small : (n w k : ℕ) → get_or (bytes_of n w) k 0 < 256
unfolding bytes_of
bytes_of_small zero w k = omega arith
bytes_of_small (suc n) w zero = omega arith
bytes_of_small (suc n) w (suc k) = bytes_of_small n (w / 256) k

word_bytes_of : (n w : ℕ) → w < 2 ^ (8 * n) → word (bytes_of n w) ≡ w
unfolding word bytes_of
word_bytes_of zero w h = sym (lt-one h)
word_bytes_of (suc n) w h =
    let rest = word_bytes_of n (w / 256) (shr_lt (8 * n) 8 (subst (λ (m : ℕ). w < 2 ^ m) {x = 8 * suc n} {y = 8 * n + 8} (omega arith) h)) in
    omega (arith, rest)

-- The bytes of a number, as the code takes them apart.
pub bytes_bit : (w : ℕ) → w < 18446744073709551616
    → bit (w % 256 ∷ w / 256 % 256 ∷ w / 65536 % 256 ∷ w / 16777216 % 256 ∷ w / 4294967296 % 256 ∷ w / 1099511627776 % 256
    ∷ w / 281474976710656 % 256 ∷ w / 72057594037927936 % 256 ∷ []) ≡ on w
unfolding bytes_of
bytes_bit w h =
    let second : w / 256 / 256 ≡ w / 65536 = omega arith in
    let third : w / 65536 / 256 ≡ w / 16777216 = omega arith in
    let fourth : w / 16777216 / 256 ≡ w / 4294967296 = omega arith in
    let fifth : w / 4294967296 / 256 ≡ w / 1099511627776 = omega arith in
    let sixth : w / 1099511627776 / 256 ≡ w / 281474976710656 = omega arith in
    let seventh : w / 281474976710656 / 256 ≡ w / 72057594037927936 = omega arith in
    rw (← seventh, ← sixth, ← fifth, ← fourth, ← third, ← second) (bit_of_word (bytes_of 8 w) refl (bytes_of_small 8 w) ∙ ap on (word_bytes_of 8 w h))

-- 1u64 << k
abbrev pub flag : ℕ → ℕ
flag k = (1 * 2 ^ k) % 18446744073709551616

flag_exact : (k : ℕ) → k < 64 → flag k ≡ 1 * 2 ^ k
flag_exact k h = shl_exact {a = 1} 1 k 64 (omega arith) (omega arith)

-- It has bit k alone.
on_one : (i : ℕ) → on 1 i ≡ eqb 0 i
unfolding on
on_one zero = refl
on_one (suc i) = ap (on 1) {x = suc i} {y = 1 + i} (omega arith) ∙ on_over 1 1 i (omega arith) ∙ sym (ne_eqb 0 (suc i) (λ e. omega (arith, e)))

on_flag : (k j : ℕ) → k < 64 → on (flag k) j ≡ eqb k j
on_flag k j h =
    ap (λ (n : ℕ). on n j) (flag_exact k h)
    ∙ elim (dec_lt j k) [
      | yes p ↦ on_below 1 k j p ∙ sym (ne_eqb k j (λ e. omega (arith, e, p)))
      | no p ↦ ap (on (1 * 2 ^ k)) {x = j} {y = k + (j - k)} (omega (arith, p)) ∙ on_above 1 k (j - k) ∙ on_one (j - k) ∙ from_zero k j (omega (arith, p))
    ]
  where
    from_zero : (k j : ℕ) → k ≤ j → eqb 0 (j - k) ≡ eqb k j
    from_zero k j l =
        elim (ℕ_discrete k j) [
          | yes e ↦ eq-eqb 0 (j - k) (omega (arith, e)) ∙ sym (eq-eqb k j e)
          | no d ↦ ne_eqb 0 (j - k) (λ e. d (omega (arith, e, l))) ∙ sym (ne_eqb k j d)
        ]

-- Of two numbers with the bits of s and of t, f makes one with those of op s t.
abbrev OnBoth : (ℕ → ℕ → ℕ) → (Set → Set → Set) → Type 0
OnBoth f op = (s t : Set) (v w : ℕ) → s ≡ on v → t ≡ on w → on (f v w) ≡ op s t

on_both : (f : ℕ → ℕ → ℕ) (b : Bool → Bool → Bool) → Bitwise f b → OnBoth f (λ s t j. b (s j) (t j))
on_both f b each s t v w p q = fun_ext (λ j. each v w j ∙ sym (ap₂ (λ (g h : Set). b (g j) (h j)) p q))

pub on_union : OnBoth bit_or union
unfolding union
on_union = on_both bit_or ◌||◌ on_or

pub on_intersection : OnBoth bit_and intersection
unfolding intersection
on_intersection = on_both bit_and ◌&&◌ on_and

pub on_difference : OnBoth bit_but difference
unfolding difference
on_difference = on_both bit_but but on_but

-- 1u64 << j has the bit of j alone.
pub on_single : (j : ℕ) → j < 64 → single j ≡ on (flag j)
unfolding single
on_single j h = fun_ext (λ i. sym (on_flag j i h))

-- (1u64 << n) - 1 has the bits below n.
on_ones : (n j : ℕ) → on (2 ^ n - 1) j ≡ ltb j n
unfolding on
on_ones n j =
    elim (dec_lt j n) [
      | yes p ↦ ap (λ (x : ℕ). on x j) (ap (λ (m : ℕ). 2 ^ m - 1) {x = n} {y = suc (n - suc j) + j} (omega (arith, p)) ∙ ones_split (suc (n - suc j)) j)
          ∙ ap (λ (x : ℕ). eqb (x % 2) 1) (high (2 ^ suc (n - suc j) - 1) j (ones_lt j)) ∙ odd (n - suc j) ∙ sym (lt-ltb j n p)
      | no p ↦ ap (on (2 ^ n - 1)) {x = j} {y = n + (j - n)} (omega (arith, p)) ∙ on_over (2 ^ n - 1) n (j - n) (ones_lt n)
          ∙ sym (le-ltb j n (omega (arith, p)))
    ]
  where
    odd : (d : ℕ) → eqb ((2 ^ suc d - 1) % 2) 1 ≡ true
    odd d =
        let e : 2 ^ suc d - 1 ≡ (2 ^ d - 1) * 2 ^ 1 + (2 ^ 1 - 1) = ap (λ (m : ℕ). 2 ^ m - 1) {x = suc d} {y = d + 1} (omega arith) ∙ ones_split d 1 in
        eq-eqb ((2 ^ suc d - 1) % 2) 1 (omega (arith, e))

-- Eight bytes of 255 have every bit.
pub bit_all : bit (replicate 8 255) ≡ ring.under 64
unfolding ring.under
bit_all =
    fun_ext
    (λ j. elim (dec_lt j 64) [
      | yes h ↦ bit_in (replicate 8 255) j h ∙ ap (λ (x : ℕ). on x (j % 8)) (get_or-replicate 8 (j / 8) 255 0 (omega arith)) ∙ on_ones 8 (j % 8)
          ∙ lt-ltb (j % 8) 8 (omega arith) ∙ sym (lt-ltb j 64 h)
      | no h ↦ bit_out (replicate 8 255) j (omega (arith, h)) ∙ sym (le-ltb j 64 (omega (arith, h)))
    ])

pub flag_some : (n : ℕ) → n < 64 → 1 ≤ flag n
flag_some n h = let e : flag n ≡ 1 * 2 ^ n = flag_exact n h in omega (arith, e, ones_lt n)

pub on_under : (n : ℕ) → n < 64 → on (flag n - 1) ≡ ring.under n
unfolding ring.under
on_under n h = fun_ext (λ j. ap (λ (x : ℕ). on (x - 1) j) (flag_exact n h ∙ omega arith) ∙ on_ones n j)

-- From bit 1 on a number has the bits of its half; bit 0 says whether it is odd.
pub on_half : (w : ℕ) → (λ (j : ℕ). on w (suc j)) ≡ on (w / 2)
unfolding on
on_half w = fun_ext (λ j. ap (λ (n : ℕ). eqb (n % 2) 1) (ap (λ (n : ℕ). w / 2 ^ n) {x = suc j} {y = 1 + j} (omega arith) ∙ sym (shr-shr w 1 j)))

pub on_lowest : (w : ℕ) → on w 0 ≡ eqb (w % 2) 1
unfolding on
on_lowest w = ap (λ (n : ℕ). eqb (n % 2) 1) (div-one w)

-- The zeros below the lowest set bit of a number count up to the smallest number in the set of its bits.
pub trailing_least : (k w : ℕ) → count_trailing_zeros k w ≡ least k (on w)
unfolding count_trailing_zeros least
trailing_least zero w = refl
trailing_least (suc k) w = go (w % 2) (omega arith) (on_lowest w) (trailing_least k (w / 2) ∙ ap (least k) (sym (on_half w)))
  where
    go : (d : ℕ) → d < 2 → on w 0 ≡ eqb d 1 → count_trailing_zeros k (w / 2) ≡ least k (λ j. on w (suc j))
        → under d (count_trailing_zeros k (w / 2)) ≡ elim (on w zero) [ true ↦ zero | false ↦ suc (least k (λ j. on w (suc j))) ]
    go zero h e rest = rw e (ap suc rest)
    go (suc zero) h e rest = rw e refl
    go (suc (suc d)) h e rest = absurd (omega arith)

pub trailing_fits : (w : ℕ) → count_trailing_zeros 64 w ≤ 64
trailing_fits w = trailing_le 64 w

-- The smallest member of the set of a number's bits.
least_on : (w : ℕ) → (w ≡ 0 → ⊥) → w < 2 ^ 64 → least 64 (on w) < 64
least_on w d h =
    let (p, q, r) = bit_at-trailing_zeros w64 w (omega (arith, d)) h in
    let e : count_trailing_zeros 64 w ≡ least 64 (on w) = trailing_least 64 w in omega (arith, e, p)

pub lowest_inside : (w : ℕ) → (w ≡ 0 → ⊥) → w < 2 ^ 64 → count_trailing_zeros 64 w < 64
lowest_inside w d h = let e : count_trailing_zeros 64 w ≡ least 64 (on w) = trailing_least 64 w in omega (arith, e, least_on w d h)

pub smallest_on : (w : ℕ) → (w ≡ 0 → ⊥) → w < 2 ^ 64 → Some (count_trailing_zeros 64 w) ≡ smallest (on w)
smallest_on w d h = ap Some (trailing_least 64 w) ∙ sym (smallest_below (on w) (least_on w d h))

pub none_on : (w : ℕ) → w ≡ 0 → smallest (on w) ≡ None
none_on w e = ap (λ (n : ℕ). smallest (on n)) e ∙ smallest_not (on 0) (λ m h. on_zero m)

pub empty_on : (w : ℕ) → w < 2 ^ 64 → eqb w 0 ≡ not (some nodes (on w))
empty_on w h =
    elim (ℕ_discrete w 0) [
      | yes e ↦ eq-eqb w 0 e ∙ sym (empty_by_least (on w) (smallest_none (on w) (none_on w e)))
      | no d ↦ ne_eqb w 0 d ∙ sym (filled_by_least (on w) (least_on w d h))
    ]

-- Its members: the lowest bit, and those of the number without that bit.
pub members_on : (w : ℕ) → (w ≡ 0 → ⊥) → w < 2 ^ 64
    → members (on w) ≡ count_trailing_zeros 64 w ∷ members (on (bit_but w (flag (count_trailing_zeros 64 w))))
members_on w d h =
    let k = count_trailing_zeros 64 w in
    let e : k ≡ least 64 (on w) = trailing_least 64 w in
    let below : k < 64 = omega (arith, e, least_on w d h) in
    members_first (on w) k (sym (smallest_on w d h))
    ∙ ap (λ (s : Set). k ∷ members s) (sym (on_difference (on w) (single k) w (flag k) refl (on_single k below)))

pub members_on_none : (w : ℕ) → w ≡ 0 → members (on w) ≡ []
members_on_none w e = members_none (on w) (none_on w e)

-- Whether a bit is on, as the code tests it.
pub on_has : (w j : ℕ) → eqb (bit_and (w / 2 ^ j) 1) 1 ≡ on w j
unfolding on
on_has w j = ap (λ (n : ℕ). eqb n 1) (and_mask (w / 2 ^ j) 1)

-- The set bits of a number are as many as the members of the set of its bits.
ones_none : ones 0 ≡ 0
unfolding ones
ones_none = refl

pub ones_few : (w : ℕ) → w < 2 ^ 64 → ones w ≤ 64
ones_few w h = ones-le 64 w h

pub ones_count : (k w : ℕ) → w < 2 ^ k → ones w ≡ count k (on w)
unfolding count
ones_count zero w h = ap ones (lt-one h) ∙ ones_none
ones_count (suc k) w h =
    ones_step w
    ∙ ap₂ ◌+◌ (low (w % 2) (omega arith) (on w 0) (on_lowest w)) (ones_count k (w / 2) (shr_lt k 1 (subst (λ (n : ℕ). w < 2 ^ n) (omega arith) h)) ∙ ap (count k) (sym half))
    ∙ sym (ap (λ (n : ℕ). count n (on w)) {x = suc k} {y = 1 + k} (omega arith) ∙ count_add 1 k (on w))
  where
    half : (λ (j : ℕ). on w (1 + j)) ≡ on (w / 2)
    half = fun_ext (λ j. ap (on w) {x = 1 + j} {y = suc j} (omega arith)) ∙ on_half w

    low : (d : ℕ) → d < 2 → (b : Bool) → b ≡ eqb d 1 → d ≡ elim b [ true ↦ suc zero | false ↦ zero ]
    low = digits (λ d. (b : Bool) → b ≡ eqb d 1 → d ≡ elim b [ true ↦ suc zero | false ↦ zero ]) (λ b e. rw e) (λ b e. rw e)

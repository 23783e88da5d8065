-- Laws of rows or-ed byte by byte: the set that such a row holds, and that a row of eight bytes is fixed by its set.
use mathlib.Core.Path.{◌≡◌, refl, sym, ap, ap₂, subst, ◌∙◌, fun_ext}
use mathlib.Core.List.{List, [], ◌∷◌, zip_with}
use mathlib.Core.Bool.{◌||◌}
use Prim.Native.Nat.{ℕ, zero, suc, ◌+◌, ◌*◌, ◌/◌, ◌%◌, ◌^◌, ◌<◌}
use native.Mathlib.Omega.{arith}
use native.Mathlib.Decide.{dec_lt}
use lib.Dec.{T, eqb}
use lib.Arith.{lt-one}
use lib.Pow.{shr_lt}
use lib.Bits.{bit_or, or_lt}
use lib.ListN.{length, get_or}
use lib.Seq.{ext_get_or}
use mir.Syntax.{w8}
use mir.Val.{Fits}
use Rattle.relation.specs.Rel.{Set, union}
use Rattle.relation.specs.Bits.{on, bit, byte_or}
use Rattle.relation.proofs.ByteLaws.{digit_pairs, bit_in, bit_out, on_or}
use Rattle.relation.proofs.WordLaws.{on_union, on_half, on_lowest}

-- A row of eight bytes.
pub record Row (row : List ℕ) : Type 0 where
  pub long : length row ≡ 8
  pub small : (k : ℕ) → Fits w8 (get_or row k 0)

-- Two lists of one length, put together number by number.
zipped_long : (f : ℕ → ℕ → ℕ) (a b : List ℕ) → length a ≡ length b → length (zip_with f a b) ≡ length a
unfolding zip_with
zipped_long f [] b e = refl
zipped_long f (x ∷ a) [] e = absurd (omega (arith, e))
zipped_long f (x ∷ a) (y ∷ b) e = ap suc (zipped_long f a b (omega (arith, e)))

zipped_at : (f : ℕ → ℕ → ℕ) → f 0 0 ≡ 0 → (a b : List ℕ) → length a ≡ length b → (k : ℕ)
    → get_or (zip_with f a b) k 0 ≡ f (get_or a k 0) (get_or b k 0)
unfolding zip_with
zipped_at f z [] [] e k = sym z
zipped_at f z [] (y ∷ b) e k = absurd (omega (arith, e))
zipped_at f z (x ∷ a) [] e k = absurd (omega (arith, e))
zipped_at f z (x ∷ a) (y ∷ b) e zero = refl
zipped_at f z (x ∷ a) (y ∷ b) e (suc k) = zipped_at f z a b (omega (arith, e)) k

-- Numbers below 2 ^ k with the same bits below k are the same.
on_equal : (k x y : ℕ) → x < 2 ^ k → y < 2 ^ k → ((j : ℕ) → j < k → on x j ≡ on y j) → x ≡ y
on_equal zero x y p q same = lt-one p ∙ sym (lt-one q)
on_equal (suc k) x y p q same =
    let halves = on_equal k (x / 2) (y / 2) (halved x p) (halved y q) (λ j h. sym (half x j) ∙ same (suc j) (omega arith) ∙ half y j) in
    let lowest = digit_equal (x % 2) (y % 2) (omega arith) (omega arith) (sym (on_lowest x) ∙ same 0 (omega arith) ∙ on_lowest y) in
    omega (arith, halves, lowest)
  where
    halved : (w : ℕ) → w < 2 ^ suc k → w / 2 < 2 ^ k
    halved w h = shr_lt k 1 (subst (λ (n : ℕ). w < 2 ^ n) (omega arith) h)

    half : (w j : ℕ) → on w (suc j) ≡ on (w / 2) j
    half w j = ap (λ (s : Set). s j) (on_half w)

    digit_equal : (u v : ℕ) → u < 2 → v < 2 → eqb u 1 ≡ eqb v 1 → u ≡ v
    digit_equal u v = digit_pairs (λ u v. eqb u 1 ≡ eqb v 1 → u ≡ v) (λ e. refl) (λ e. absurd (subst T (sym e) tt)) (λ e. absurd (subst T e tt)) (λ e. refl) u v

-- Rows that hold the same set are the same bytes.
bit_equal : (a b : List ℕ) → Row a → Row b → bit a ≡ bit b → a ≡ b
bit_equal a b ra rb same = ext_get_or 0 a b (ra.long ∙ sym rb.long) (λ i h. byte i (omega (arith, ra.long, h)))
  where
    bit_of : (row : List ℕ) (i j : ℕ) → i < 8 → j < 8 → on (get_or row i 0) j ≡ bit row (8 * i + j)
    bit_of row i j h g =
        sym (bit_in row (8 * i + j) (omega arith) ∙ ap₂ (λ (m n : ℕ). on (get_or row m 0) n) {x = (8 * i + j) / 8} {y = i} (omega arith) (omega arith))

    byte : (i : ℕ) → i < 8 → get_or a i 0 ≡ get_or b i 0
    byte i h =
        on_equal 8 (get_or a i 0) (get_or b i 0) (ra.small i).fits (rb.small i).fits
        (λ j g. bit_of a i j h g ∙ ap (λ (s : Set). s (8 * i + j)) same ∙ sym (bit_of b i j h g))

-- A row whose bytes are those of two rows or-ed holds what either holds.
pub bytes_union : (a b r : List ℕ) → ((k : ℕ) → k < 8 → get_or r k 0 ≡ bit_or (get_or a k 0) (get_or b k 0)) → bit r ≡ union (bit a) (bit b)
unfolding union
bytes_union a b r each =
    fun_ext
    (λ j. elim (dec_lt j 64) [
      | yes h ↦ bit_in r j h ∙ ap (λ (x : ℕ). on x (j % 8)) (each (j / 8) (omega arith)) ∙ on_or _ _ (j % 8) ∙ sym (ap₂ ◌||◌ (bit_in a j h) (bit_in b j h))
      | no h ↦ bit_out r j (omega (arith, h)) ∙ sym (ap₂ ◌||◌ (bit_out a j (omega (arith, h))) (bit_out b j (omega (arith, h))))
    ])

-- The byte by byte or of two rows is a row, and holds what either holds.
module _ (a b : List ℕ) (ra : Row a) (rb : Row b) where
  byte_or_at : (k : ℕ) → get_or (byte_or a b) k 0 ≡ bit_or (get_or a k 0) (get_or b k 0)
  unfolding byte_or
  byte_or_at = zipped_at bit_or refl a b (ra.long ∙ sym rb.long)

  byte_or_long : length (byte_or a b) ≡ 8
  unfolding byte_or
  byte_or_long = zipped_long bit_or a b (ra.long ∙ sym rb.long) ∙ ra.long

  byte_or_row : Row (byte_or a b)
  byte_or_row =
      record {
        long = byte_or_long;
        small = λ k. subst (Fits w8) (sym (byte_or_at k)) (record { fits = or_lt 8 _ _ (ra.small k).fits (rb.small k).fits });
      }

  pub bit_byte_or : bit (byte_or a b) ≡ union (bit a) (bit b)
  bit_byte_or = bytes_union a b (byte_or a b) (λ k h. byte_or_at k)

  -- A row with the bits of both rows' words or-ed is the byte by byte or.
  pub joined_bytes : (r : List ℕ) (v w : ℕ) → Row r → bit a ≡ on v → bit b ≡ on w → bit r ≡ on (bit_or v w) → r ≡ byte_or a b
  joined_bytes r v w rr first second both =
      bit_equal r (byte_or a b) rr byte_or_row (both ∙ on_union (bit a) (bit b) v w first second ∙ sym bit_byte_or)

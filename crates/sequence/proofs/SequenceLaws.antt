-- Laws of sequences: the cells are the items and those behind them, and what is put there.
use mathlib.Core.Path.{◌≡◌, sym, ap, ◌∙◌}
use mathlib.Core.List.{List, [], ◌∷◌, ◌++◌, append_assoc, reverse}
use Prim.Native.Nat.{ℕ, ◌+◌, ◌-◌, ◌<◌, ◌≤◌}
use native.Mathlib.Omega.{arith}
use borrow.Rule.Slice.PartMut.{put_mid, Post-is}
use lib.ListN.{length, set, take, drop, length-append, take-append-drop}
use lib.Seq.{length-take-le, take_at}
use Rattle.std.proofs.lemmas.List.{take_more_set, length-reverse}
use Rattle.sequence.specs.Items.{Items, written}

module _ {T : Type 0} where
  -- The items and the cells behind them, of the first n cells.
  module _ {n : ℕ} (cells : List T) {s : Items T} (is : record { items = take n cells; spare = drop n cells } ≡ s) (fits : n ≤ length cells) where
    cells_are : cells ≡ s.items ++ s.spare
    cells_are = sym (take-append-drop n cells) ∙ (λ i. (is i).items ++ (is i).spare)

    pub count_is : n ≡ length s.items
    count_is = sym (length-take-le n cells fits) ∙ (λ i. length (is i).items)

    -- An item more.
    pub pushed : (item : T) → n < length cells → take (n + 1) (set cells n item) ≡ s.items ++ (item ∷ [])
    pushed item h = take_more_set cells n item h ∙ (λ i. (is i).items ++ (item ∷ []))

    -- Items copied over the cells from a place on.
    pub copied : (at count : ℕ) (more part : List T) → part ≡ more
        → take count (put_mid at (at + length more - at) cells part) ≡ take count (written s at more)
    copied at count more part e =
        (λ i. take count (take at cells ++ (e i ++ Post-is at (at + length more) cells (omega arith) i)))
        ∙ ap (λ (l : List T). take count (take at l ++ (more ++ drop (at + length more) l))) cells_are

    -- The items turned.
    pub turned : (back : List T) → back ≡ reverse (take n cells) → take n (back ++ drop n cells) ≡ reverse s.items
    turned back e =
        take_at back (drop n cells) n (ap length e ∙ length-reverse (take n cells) ∙ length-take-le n cells fits)
        ∙ e ∙ (λ i. reverse (is i).items)

  -- Items put behind those that are there.
  pub written_behind : (s : Items T) (n : ℕ) (more : List T) (count : ℕ) → n ≡ length s.items → count ≡ n + length more
      → take count (written s n more) ≡ s.items ++ more
  written_behind s n more count e k =
      let rest = drop (n + length more) (s.items ++ s.spare) in
      ap (λ (l : List T). take count (l ++ (more ++ rest))) (take_at s.items s.spare n (sym e))
      ∙ ap (take count) (sym (append_assoc s.items more rest))
      ∙ take_at (s.items ++ more) rest count (length-append s.items more ∙ omega (arith, e, k))

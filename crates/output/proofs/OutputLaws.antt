-- Laws of writing into an output: byte by byte, and one piece after the other; and of the first bytes of an array.
use mathlib.Core.Path.{◌≡◌, refl, sym, ap, ap₂, ◌∙◌}
use mathlib.Core.List.{List, [], ◌++◌, append-nil, append_assoc}
use Prim.Native.Nat.{ℕ, ◌+◌, ◌-◌, ◌≤◌}
use native.Mathlib.Nat.{zero-add, add-zero}
use native.Mathlib.Omega.{arith}
use borrow.Rule.Slice.PartMut.{put_mid, Post-is}
use lib.ListN.{length, take, drop, length-append, length-drop, take-append-drop, drop_of_length-le}
use lib.Seq.{take_all, length-take-le, take_at, drop-append-add, drop-drop}
use Rattle.output.specs.Output.{placed}

-- Copied over the bytes from a place on.
pub copied_placed : (out : List ℕ) (at : ℕ) (part bytes : List ℕ) → part ≡ bytes → put_mid at (at + length bytes - at) out part ≡ placed out at bytes
unfolding placed
copied_placed out at part bytes e =
    ap₂ (λ (p q : List ℕ). take at out ++ (p ++ q)) e (Post-is at (at + length bytes) out (omega arith))

-- Pieces placed one after the other.
pub placed_nil : (d : List ℕ) (at : ℕ) → d ≡ placed d at []
unfolding placed
placed_nil d at = sym (ap (λ (k : ℕ). take at d ++ drop k d) (add-zero at) ∙ take-append-drop at d)

pub length_placed : (d : List ℕ) (at : ℕ) (x : List ℕ) → at + length x ≤ length d → length (placed d at x) ≡ length d
unfolding placed
length_placed d at x h =
    length-append (take at d) (x ++ drop (at + length x) d)
    ∙ omega (arith, length-take-le at d (omega arith), length-append x (drop (at + length x) d), length-drop (at + length x) d)

pub placed_placed : (d : List ℕ) (at : ℕ) (x y : List ℕ) (place : ℕ) → at + length x ≤ length d → at + length x ≡ place
    → placed (placed d at x) place y ≡ placed d at (x ++ y)
unfolding placed
placed_placed d at x y place h e =
    let front = take at d ++ x in
    let rest = drop (at + length x) d in
    let long : length front ≡ place = length-append (take at d) x ∙ omega (arith, length-take-le at d (omega arith)) in
    let whole : placed d at x ≡ front ++ rest = sym (append_assoc (take at d) x rest) in
    let size : (at + length x) + length y ≡ at + length (x ++ y) = omega (arith, length-append x y) in
    ap (λ (l : List ℕ). take place l ++ (y ++ drop (place + length y) l)) whole
    ∙ ap (λ (l : List ℕ). l ++ (y ++ drop (place + length y) (front ++ rest))) (take_at front rest place long)
    ∙ ap (λ (k : ℕ). front ++ (y ++ drop (k + length y) (front ++ rest))) (sym long)
    ∙ ap (λ (l : List ℕ). front ++ (y ++ l)) (drop-append-add front rest (length y) ∙ drop-drop (length y) (at + length x) d ∙ ap (λ (k : ℕ). drop k d) size)
    ∙ append_assoc (take at d) x (y ++ drop (at + length (x ++ y)) d)
    ∙ ap (◌++◌ (take at d)) (sym (append_assoc x y (drop (at + length (x ++ y)) d)))

-- The bytes stand in the output from a place on, and all else stands as before.
pub record Placing (out₀ : List ℕ) (at : ℕ) (bytes out : List ℕ) : Type 0 where
  pub room : at + length bytes ≤ length out₀
  pub done : out ≡ placed out₀ at bytes
  pub long : length out ≡ length out₀

pub placing_none : (out : List ℕ) (at : ℕ) (bytes : List ℕ) → bytes ≡ [] → at ≤ length out → Placing out at bytes out
placing_none out at bytes e h =
    record { room = omega (arith, ap length e); done = placed_nil out at ∙ ap (placed out at) (sym e); long = refl }

-- Bytes put behind them.
pub placing_more : {out₀ x out z more : List ℕ} {at place : ℕ} (y : List ℕ) → Placing out₀ at x out → at + length x ≡ place → more ≡ placed out place y
    → x ++ y ≡ z → at + length z ≤ length out₀ → Placing out₀ at z more
placing_more {out₀} {x} {z = z} {at = at} {place = place} y w h p q room =
    let done = p ∙ ap (λ (l : List ℕ). placed l place y) w.done ∙ placed_placed out₀ at x y place w.room h ∙ ap (placed out₀ at) q in
    record { room = room; done = done; long = ap length done ∙ length_placed out₀ at z room }

-- What is placed stands behind what stood before it, and at the start where nothing did.
pub placed_extends : (d : List ℕ) (at : ℕ) (x : List ℕ) (n : ℕ) → at ≤ length d → at + length x ≡ n → take n (placed d at x) ≡ take at d ++ x
unfolding placed
placed_extends d at x n h e =
    let rest = drop (at + length x) d in
    let long : length (take at d ++ x) ≡ n = length-append (take at d) x ∙ omega (arith, e, length-take-le at d h) in
    ap (take n) (sym (append_assoc (take at d) x rest)) ∙ take_at (take at d ++ x) rest n long

pub placed_begins : (d x : List ℕ) (n : ℕ) → length x ≡ n → take n (placed d 0 x) ≡ x
placed_begins d x n e = placed_extends d 0 x n (omega arith) (omega (arith, e))

-- What is placed in a part that reaches to the end is placed in the whole.
pub part_placed : (d : List ℕ) (start : ℕ) (x part : List ℕ) → start ≤ length d → part ≡ placed (take (length d - start) (drop start d)) 0 x
    → take start d ++ (part ++ drop (length d - start) (drop start d)) ≡ placed d start x
unfolding placed
part_placed d start x part h e =
    let rest = drop start d in
    let size = length-drop start d in
    let whole : take (length d - start) rest ≡ rest = take_all (length d - start) rest (omega arith) in
    let none : drop (length d - start) rest ≡ [] = drop_of_length-le rest {i = length d - start} (omega arith) in
    ap₂ (λ (p q : List ℕ). take start d ++ (p ++ q)) (e ∙ ap (λ (l : List ℕ). placed l 0 x) whole) none
    ∙ ap (◌++◌ (take start d)) (append-nil (x ++ drop (0 + length x) rest)
    ∙ ap (◌++◌ x) (ap (λ (k : ℕ). drop k rest) (zero-add (length x)) ∙ drop-drop (length x) start d))

-- The first n of an array of m bytes.
module _ (l : List ℕ) {n m : ℕ} (h : n ≤ m) (long : length l ≡ m) where
  pub within : n ≤ length l
  within = omega arith

  pub first_size : n ≡ length (take n l)
  first_size = sym (length-take-le n l within)

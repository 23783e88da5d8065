-- A file longer than the longest that loads gets what its first bytes fix, so a reader of a stream may stop early.
use mathlib.Core.Path.{◌≡◌, refl, sym, ap, ◌∙◌}
use mathlib.Core.Bool.{Bool, true, false, not}
use mathlib.Core.List.{List, [], ◌∷◌, ◌++◌}
use mathlib.Core.Logic.{◌⊎◌, inl, inr}
use Prim.Native.Nat.{ℕ, suc, ◌+◌, ◌<◌}
use native.Mathlib.Omega.{arith}
use native.Mathlib.Decide.{dec_lt}
use native.Mathlib.Nat.{min-le_right}
use borrow.Author.Tests.{le-ltb, ne_eqb}
use lib.ListN.{length, take, length-take}
use lib.Seq.{get_or-take, length-take-le, take_all}
use Rattle.models.specs.Rules.{first}
use Rattle.layout.specs.Layout.{kind, side_of, side, events, locations, links, kind_known, full_length}
use Rattle.recording.specs.Causes.{header_over, too_short, kind_unknown, over_limit, wrong_length, header_causes, record_causes, link_causes, causes, refusal}
use Rattle.layout.proofs.FieldLaws.{most_events_48, most_links_255}
use Rattle.recording.specs.Input.{longest, ReadOf}
use Rattle.recording.proofs.CauseLaws.{limits}

-- The number that a file longer than that gets: it passes cause 1 and is stopped by 2, 3 or 4.
unfoldable pub overlong : ℕ → ℕ → ℕ → ℕ → ℕ
overlong k n l m = first ((2, not (kind_known k)) ∷ (3, header_over (side_of k) n l m) ∷ (4, true) ∷ [])

-- Within the limits no length over the longest is right.
too_long_lem : (f : List ℕ) → longest < length f → over_limit f ≡ false → wrong_length f ≡ true
unfolding wrong_length
too_long_lem f h p =
    let w = limits f p in
    ap not
    (ne_eqb (length f) (full_length f) (λ e. omega (arith, w.0, w.2, most_events_48 (side f), most_links_255 (side f))))

-- What such a file gets depends on its first four bytes alone.
pub refusal_overlong : (f : List ℕ) → longest < length f → refusal f ≡ overlong (kind f) (events f) (locations f) (links f)
unfolding refusal causes header_causes too_short kind_unknown over_limit overlong first
refusal_overlong f h = rw (le-ltb (length f) 8 (omega arith), refusal) (stopped (not (kind_known (kind f))) (over_limit f) refl)
  where
    stopped : (u v : Bool) → over_limit f ≡ v
        → first ((2, u) ∷ (3, v) ∷ (4, wrong_length f) ∷ (record_causes f ++ link_causes f)) ≡ first ((2, u) ∷ (3, v) ∷ (4, true) ∷ [])
    stopped true v e = refl
    stopped false true e = refl
    stopped false false e = ap (λ (b : Bool). first ((4, b) ∷ (record_causes f ++ link_causes f))) (too_long_lem f h e)

pub stream : (f : List ℕ) → longest < length f → refusal f ≡ refusal (take (longest + 1) f)
stream f h =
    let g : List ℕ = take (longest + 1) f in
    let long : length g ≡ longest + 1 = length-take-le (longest + 1) f (omega arith) in
    refusal_overlong f h ∙ same ∙ sym (refusal_overlong g (omega arith))
  where
    same : overlong (kind f) (events f) (locations f) (links f)
        ≡ overlong (kind (take (longest + 1) f)) (events (take (longest + 1) f)) (locations (take (longest + 1) f)) (links (take (longest + 1) f))
    same = rw (get_or-take (longest + 1) f 0 0 (omega arith), get_or-take (longest + 1) f 1 0 (omega arith), get_or-take (longest + 1) f 2 0 (omega arith), get_or-take (longest + 1) f 3 0 (omega arith))

-- So what is read of an input is the whole of it, or is refused as the whole is.
pub read_of : (f : List ℕ) → (take (longest + 1) f ≡ f) ⊎ ((n : ℕ) × (refusal f ≡ suc n) × (refusal (take (longest + 1) f) ≡ suc n))
unfolding overlong over_limit first
read_of f =
    elim (dec_lt longest (length f)) [
      | yes h ↦ let (n, e) = refused (not (kind_known (kind f))) (over_limit f) in
          let all : refusal f ≡ suc n = refusal_overlong f h ∙ e in
          inr (n, all, sym (stream f h) ∙ all)
      | no h ↦ inl (take_all (longest + 1) f (omega (arith, h)))
    ]
  where
    refused : (u v : Bool) → (n : ℕ) × (first ((2, u) ∷ (3, v) ∷ (4, true) ∷ []) ≡ suc n)
    refused true v = (1, refl)
    refused false true = (2, refl)
    refused false false = (3, refl)

-- What was read into an array of one byte more than the longest file.
pub read_longest : (input start : List ℕ) (n : ℕ) → length start ≡ longest + 1 → ReadOf input start n → take n start ≡ take (longest + 1) input
read_longest input start n long read = read ∙ ap (λ (k : ℕ). take k input) long

-- What was read is itself an input that would be read so.
pub read_itself : (start : List ℕ) (n : ℕ) → ReadOf (take n start) start n
read_itself start n = sym (take_all (length start) (take n start) (omega (arith, length-take n start, min-le_right n (length start))))

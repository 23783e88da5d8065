-- The order in which events are shown: always next the smallest whose predecessors are out (01, "What is shown").
use Rattle.std.specs.Prelude.{List, [], ◌∷◌, true, false, ◌≡◌, ℕ, zero, suc, eqb, ltb}
use Rattle.relation.specs.Rel.{Set, Rel, single, difference, image, least, nodes}

-- The events of s that no event of s precedes by r.
unfoldable pub ready : Rel → Set → Set
ready r s = difference s (image nodes s r)

-- At most n events of s: the smallest ready one, then the rest without it.
unfoldable pub order : ℕ → Rel → Set → List ℕ
order zero r s = []
order (suc n) r s =
    let k : ℕ = least 64 (ready r s) in
    elim (ltb k 64) [ true ↦ k ∷ order n r (difference s (single k)) | false ↦ [] ]

-- How often e stands in the list.
unfoldable pub occurrences : ℕ → List ℕ → ℕ
occurrences e [] = zero
occurrences e (x ∷ l) = elim (eqb e x) [ true ↦ suc (occurrences e l) | false ↦ occurrences e l ]

-- The list holds every event of s exactly once, and nothing else.
abbrev pub EachOnce : Set → List ℕ → Type 0
EachOnce s l = (e : ℕ) → occurrences e l ≡ elim (s e) [ true ↦ 1 | false ↦ 0 ]

-- The table of classes, modes and flags: what a legal event of a source recording says, and that its translation is legal in a chip
-- recording.
use mathlib.Core.Path.{◌≡◌, refl, sym, ap, ◌∙◌}
use mathlib.Core.Bool.{Bool, true, ◌&&◌, ◌||◌, false≢true}
use mathlib.Core.List.{List}
use mathlib.Core.Logic.{◌⊎◌, inl, inr}
use Prim.Native.Nat.{ℕ, zero, suc, ◌+◌, ◌*◌, ◌<◌, ◌≤◌}
use native.Mathlib.Omega.{arith}
use native.Mathlib.Decide.{ℕ_discrete, dec_le}
use borrow.Author.Tests.{leb-true, eqb-true}
use lib.Dec.{eqb, ltb}
use Rattle.layout.specs.Layout.{Side, source, chip, side, locations}
use Rattle.layout.specs.Decode.{decode}
use Rattle.recording.specs.Causes.{write_legal, fence_mode, fence_legal, legal, event_legal}
use Rattle.translation.specs.Contents.{Contents}
use Rattle.translation.specs.Translate.{strong, new_mode, new_flag, translated}
use Rattle.relation.proofs.Truth.{is_false, and_left, and_right, and_both, or_either}
use Rattle.translation.proofs.TranslateLaws as law
use Rattle.translation.proofs.TranslateLaws.{flagged_is}
use Rattle.translation.proofs.Says.{Says}

-- What the table asks of event e, said of contents.
unfoldable pub legal_at : Side → ℕ → Contents → ℕ → Bool
legal_at r L c e = legal r L (c.class e) (c.mode e) (c.flag e) (c.location e) (c.low e + 256 * c.high e)

pub legal_says : (f : List ℕ) (c : Contents) → Says (decode f) c → (e : ℕ) → 1 ≤ e → e ≤ c.events → event_legal f e ≡ legal_at (side f) (locations f) c e
unfolding event_legal legal_at
legal_says f c q e h g = rw (q.class e h g, q.mode e h g, q.flag e h g, q.location e h g, q.value e h g)

module _ (L class mode flag location value : ℕ) where
  legal_write : legal source L 2 mode flag location value ≡ true → ((eqb mode 0 || eqb mode 2) && ltb location L ≡ true) × ((flag ≡ 0) ⊎ (flag ≡ 1))
  unfolding legal write_legal
  legal_write p = (
    search (and_both, and_left, and_right),
    elim (or_either (eqb flag 0) (eqb flag 1 && true) (search (and_left, and_right))) [
      | inl x ↦ inl (eqb-true flag 0 x)
      | inr x ↦ inr (search (and_left, eqb-true))
    ],
  )

  legal_fence : legal source L 3 mode flag location value ≡ true → (1 ≤ mode) × (mode ≤ 4) × (flag ≡ 0) × (eqb location 0 && eqb value 0 ≡ true)
  unfolding legal fence_legal fence_mode
  legal_fence p = search (and_left, and_right, leb-true, eqb-true)

  -- In a chip recording.
  chip_write : (eqb mode 0 || eqb mode 2) && ltb location L ≡ true → legal chip L 2 mode 0 location value ≡ true
  unfolding legal write_legal
  chip_write p = search (and_both, and_left, and_right)

  chip_fence : (mode ≡ 5) ⊎ (mode ≡ 6) → flag ≡ 0 → eqb location 0 && eqb value 0 ≡ true → legal chip L 3 mode flag location value ≡ true
  unfolding legal fence_legal fence_mode
  chip_fence (inl m) e z = rw (m, e) z
  chip_fence (inr m) e z = rw (m, e) z

  -- An event of the source: its class is 1, 2 or 3.
  class_legal : legal source L class mode flag location value ≡ true → (class ≡ 1) ⊎ ((class ≡ 2) ⊎ (class ≡ 3))
  unfolding legal
  class_legal = go class
    where
      go : (n : ℕ) → legal source L n mode flag location value ≡ true → (n ≡ 1) ⊎ ((n ≡ 2) ⊎ (n ≡ 3))
      go zero p = absurd (false≢true p)
      go (suc zero) p = inl refl
      go (suc (suc zero)) p = inr (inl refl)
      go (suc (suc (suc zero))) p = inr (inr refl)
      go (suc (suc (suc (suc n)))) p = absurd (false≢true p)

  read_any : (r : Side) → legal source L 1 mode flag location value ≡ true → legal r L 1 mode flag location value ≡ true
  unfolding legal
  read_any r p = p

-- A fence becomes a dmb ld or a dmb sy, and an inserted one is a dmb ld.
new_fence : (s : Contents) (e : ℕ) → s.class e ≡ 3 → (new_mode s e ≡ 5) ⊎ (new_mode s e ≡ 6)
new_fence s e c = elim (ℕ_discrete (s.mode e) 1) [ yes x ↦ inl (law.mode_acquire s e c x) | no x ↦ inr (law.mode_other s e c x) ]

pub translated_fence : (s : Contents) (e : ℕ) → (translated s).class e ≡ 3 → ((translated s).mode e ≡ 5) ⊎ ((translated s).mode e ≡ 6)
unfolding translated
translated_fence s e c =
    elim (dec_le e s.events) [
      | yes g ↦ rw (law.kept s (new_mode s) 5 e g) (new_fence s e (sym (law.kept s s.class 3 e g) ∙ c))
      | no n ↦ inl (law.made s (new_mode s) 5 e (omega (arith, n)))
    ]

-- An event of the source, and its translation.
module _ (L : ℕ) (s : Contents) (e : ℕ) (ok : legal_at source L s e ≡ true) where
  abbrev value : ℕ
  value = s.low e + 256 * s.high e

  of_class_lem : (k : ℕ) → s.class e ≡ k → legal source L k (s.mode e) (s.flag e) (s.location e) value ≡ true
  unfolding legal_at
  of_class_lem k c = ap (λ (x : ℕ). legal source L x (s.mode e) (s.flag e) (s.location e) value) (sym c) ∙ ok

  pub fence_modes : s.class e ≡ 3 → (1 ≤ s.mode e) × (s.mode e ≤ 4)
  fence_modes c = (let w = legal_fence L 3 (s.mode e) (s.flag e) (s.location e) value (of_class_lem 3 c) in (w.0, w.1))

  pub write_flags : s.class e ≡ 2 → (s.flag e ≡ 0) ⊎ (s.flag e ≡ 1)
  write_flags c = (legal_write L 2 (s.mode e) (s.flag e) (s.location e) value (of_class_lem 2 c)).1

  not_strong : (k : ℕ) → s.class e ≡ k → (k ≡ 2 → ⊥) → new_flag s e ≡ s.flag e
  not_strong k c d = law.flag_kept s e (is_false (strong s e) (λ w. d (sym c ∙ (flagged_is s 2 e w).class)))

  new_flag_zero : s.class e ≡ 2 → 1 ≤ e → e ≤ s.events → new_flag s e ≡ 0
  new_flag_zero c h g =
      elim (write_flags c) [
        | inr x ↦ law.flag_strong s e (law.flagged_intro s 2 e (record { low = h; high = g; class = c; flag = x }))
        | inl x ↦ law.flag_kept s e (is_false (strong s e) (λ w. omega (arith, (flagged_is s 2 e w).flag))) ∙ x
      ]

  translated_legal : 1 ≤ e → e ≤ s.events → legal chip L (s.class e) (new_mode s e) (new_flag s e) (s.location e) value ≡ true
  unfolding legal_at
  translated_legal h g =
      elim (class_legal L (s.class e) (s.mode e) (s.flag e) (s.location e) value ok) [
        | inl c ↦ rw (c, law.mode_access s e (λ d. omega (arith, c)), not_strong 1 c (λ d. omega arith)) (read_any L 1 (s.mode e) (s.flag e) (s.location e) value chip (of_class_lem 1 c))
        | inr w ↦ elim w [
          | inl c ↦ rw (c, law.mode_access s e (λ d. omega (arith, c)), new_flag_zero c h g)
              (chip_write L 2 (s.mode e) 0 (s.location e) value (legal_write L 2 (s.mode e) (s.flag e) (s.location e) value (of_class_lem 2 c)).0)
          | inr c ↦ (let w = legal_fence L 3 (s.mode e) (s.flag e) (s.location e) value (of_class_lem 3 c) in
              rw c (chip_fence L 3 (new_mode s e) (new_flag s e) (s.location e) value (new_fence s e c) (not_strong 3 c (λ d. omega arith) ∙ w.2) w.3))
        ]
      ]

-- Every event of the translation is legal.
pub legal_new : (L : ℕ) (s : Contents) → ((e : ℕ) → 1 ≤ e → e ≤ s.events → legal_at source L s e ≡ true) → (e : ℕ) → 1 ≤ e → legal_at chip L (translated s) e ≡ true
unfolding legal_at translated legal fence_legal fence_mode
legal_new L s ok e h =
    elim (dec_le e s.events) [
      | yes g ↦ rw (law.kept s s.class 3 e g, law.kept s (new_mode s) 5 e g, law.kept s (new_flag s) 0 e g, law.kept s s.location 0 e g, law.kept s s.low 0 e g, law.kept s s.high 0 e g)
          (translated_legal L s e (ok e h g) h g)
      | no n ↦ (let g : s.events < e = omega (arith, n) in
          rw (law.made s s.class 3 e g, law.made s (new_mode s) 5 e g, law.made s (new_flag s) 0 e g, law.made s s.location 0 e g, law.made s s.low 0 e g, law.made s s.high 0 e g) refl)
    ]

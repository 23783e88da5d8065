-- Files that differ in their numbering hold recordings that differ in the names of events, and so have one verdict.
use std.Equiv.{◌≃◌, iso_to_equiv}
use mathlib.Core.Path.{◌≡◌, sym, ap, ap₂, fun_ext, ◌∙◌}
use mathlib.Core.Bool.{Bool, true, false, ◌&&◌}
use mathlib.Core.List.{List}
use mathlib.Core.Logic.{inl, inr}
use Prim.Native.Nat.{ℕ, ◌+◌, ◌-◌, ◌*◌, ◌<◌, ◌≤◌}
use native.Mathlib.Omega.{arith}
use native.Mathlib.Decide.{dec_le}
use borrow.Author.Tests.{lt-leb}
use lib.Dec.{eqb, leb, ltb}
use Rattle.relation.specs.Rel.{nodes}
use Rattle.relation.proofs.Truth.{by_test}
use Rattle.models.specs.Graph.{base}
use Rattle.models.specs.Rules.{Model, verdict}
use Rattle.layout.specs.Layout.{events, event_byte}
use Rattle.layout.specs.Chains.{next_event}
use Rattle.layout.specs.Decode.{is_recorded, is_initial, record_or, field_or, decode}
use Rattle.layout.proofs.FieldLaws.{recorded_bounds, initial_no, record_initial, record_recorded, record_none}
use Rattle.recording.proofs.Accepted.{sized}
use Rattle.recording.proofs.Loaded.{loaded_within}
use Rattle.translation.specs.Contents.{contents}
use Rattle.numbering.specs.Numbering.{Renumbering, numbers_to, Renumbered}
use Rattle.numbering.proofs.Renumberings.{same_number, recorded_moved}
use Rattle.numbering.proofs.Recordings.{renamed, verdict_renamed}

module _ (f g : List ℕ) (w : Renumbered f g) where
  abbrev n : Renumbering (numbers_to (contents f).events)
  n = w.renumbers.event

  abbrev to : ℕ → ℕ
  to = n.to

  few : events f < 56
  few = omega (arith, (sized f w.loads).most_events)

  same_events : events g ≡ events f
  unfolding contents
  same_events = w.renumbers.events

  recorded_along : (e : ℕ) → is_recorded f e ≡ is_recorded g (to e)
  unfolding contents
  recorded_along e = sym (recorded_moved f g n same_events e)

  -- An event keeps its number, or has a record before and after.
  data Moved (e : ℕ) : Type 0 where
    stays : to e ≡ e → is_recorded f e ≡ false → Moved e
    moves : is_recorded f e ≡ true → is_recorded g (to e) ≡ true → 1 ≤ e → e ≤ events f → e < 56 → to e < 56 → Moved e

  moved : (e : ℕ) → Moved e
  unfolding is_recorded contents numbers_to
  moved e = elim (by_test (is_recorded f e)) [
    | inl p ↦ (let q = sym (recorded_along e) ∙ p in let b = recorded_bounds f e p in let c = recorded_bounds g (to e) q in
        moves p q b.0 b.1 (omega (arith, few, b.1)) (omega (arith, few, c.1, same_events)))
    | inr p ↦ stays (n.others e p) p
  ]

  -- What a record says, or an initial write has.
  record_along : (given p q : ℕ → ℕ) → ((e : ℕ) → 1 ≤ e → e ≤ events f → q (to e) ≡ p e) → (e : ℕ) → record_or f given p e ≡ record_or g given q (to e)
  record_along given p q same e = go (moved e)
    where
      go : Moved e → record_or f given p e ≡ record_or g given q (to e)
      go (moves h k low high small smaller) =
          sym (record_recorded f given p e small h) ∙ sym (same e low high) ∙ record_recorded g given q (to e) smaller k
      go (stays k h) = elim (dec_le 56 e) [
        | yes i ↦ sym (record_initial f given p e i) ∙ record_initial g given q e i ∙ ap (record_or g given q) (sym k)
        | no i ↦ sym (record_none f given p e (omega (arith, i)) h) ∙ record_none g given q e (omega (arith, i)) (ap (is_recorded g) (sym k) ∙ sym (recorded_along e) ∙ h) ∙ ap (record_or g given q) (sym k)
      ]

  field_along : (k given : ℕ) → ((e : ℕ) → 1 ≤ e → e ≤ events f → event_byte g (to e) k ≡ event_byte f e k) → (e : ℕ) → field_or f k given e ≡ field_or g k given (to e)
  unfolding field_or
  field_along k given = record_along (λ e. given) (λ e. event_byte f e k) (λ e. event_byte g e k)

  initial_along : (e : ℕ) → is_initial f e ≡ is_initial g (to e)
  unfolding is_initial contents
  initial_along e = go (moved e)
    where
      go : Moved e → is_initial f e ≡ is_initial g (to e)
      go (moves h k low high small smaller) = sym (initial_no f e small) ∙ lt-leb 56 e small ∙ sym (lt-leb 56 (to e) smaller) ∙ initial_no g (to e) smaller
      go (stays k h) = ap₂ (λ (x m : ℕ). leb 56 x && ltb x (56 + m)) (sym k) (sym w.renumbers.locations)

  next_along : (a b : ℕ) → (decode f).next a b ≡ (decode g).next (to a) (to b)
  unfolding decode contents
  next_along a b = go (moved a)
    where
      go : Moved a → is_recorded f a && is_recorded f b && eqb (next_event f a) b ≡ is_recorded g (to a) && is_recorded g (to b) && eqb (next_event g (to a)) (to b)
      go (moves h k low high small smaller) =
          let p = sym (same_number n (next_event f a) b) ∙ ap (λ (x : ℕ). eqb x (to b)) (sym (w.renumbers.next a low high)) in
          λ i. recorded_along a i && recorded_along b i && p i
      go (stays k h) =
          let p : is_recorded g (to a) ≡ false = sym (recorded_along a) ∙ h in
          ap (λ (x : Bool). x && is_recorded f b && eqb (next_event f a) b) h ∙ sym (ap (λ (x : Bool). x && is_recorded g (to b) && eqb (next_event g (to a)) (to b)) p)

  decoded_along : decode f ≡ renamed to (decode g)
  unfolding decode renamed contents
  decoded_along =
      let R = w.renumbers in
      let low = field_along 5 0 R.low in
      let high = field_along 6 0 R.high in
      λ i. record {
        class = fun_ext (field_along 1 2 R.class) i;
        mode = fun_ext (field_along 2 0 R.mode) i;
        flag = fun_ext (field_along 3 0 R.flag) i;
        location = fun_ext (record_along (λ e. e - 56) (λ e. event_byte f e 4) (λ e. event_byte g e 4) R.location) i;
        value = λ e. low e i + 256 * high e i;
        initial = fun_ext initial_along i;
        recorded = fun_ext recorded_along i;
        next = λ a b. next_along a b i;
        link = λ t a b. sym (R.link t a b) i;
      }

  equivalence : ℕ ≃ ℕ
  equivalence = iso_to_equiv (record { fun = to; inv = n.back; rinv = n.to_back; linv = n.back_to })

  pub verdicts_same : (M : Model) → verdict nodes (base nodes (decode f)) M ≡ verdict nodes (base nodes (decode g)) M
  unfolding equivalence
  verdicts_same = verdict_renamed nodes (decode f) (decode g) equivalence decoded_along (loaded_within f w.loads) (loaded_within g w.loads_too)

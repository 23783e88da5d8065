-- Laws of the functions over events: each answers what its definition says.
use mathlib.Core.Path.{◌≡◌, refl, sym, ap, ap₂, ◌∙◌}
use mathlib.Core.Bool.{Bool, true, false, ◌&&◌}
use mathlib.Core.List.{List, [], ◌∷◌}
use Prim.Native.Nat.{ℕ, suc, ◌+◌, ◌*◌, ◌<◌, ◌≤◌}
use native.Mathlib.Numerals.{add-one}
use native.Mathlib.Omega.{arith}
use lib.Dec.{eqb}
use Rattle.relation.specs.Rel.{count}
use Rattle.relation.proofs.Counting.{count_next_yes, count_next_no}
use Rattle.models.specs.Recording as recording
use Rattle.layout.specs.Layout.{events, event_byte}
use Rattle.layout.specs.Decode.{decode}
use Rattle.layout.proofs.FieldLaws.{and_yes, and_no}
use Rattle.layout.proofs.FieldLaws.{next_first}
use Rattle.translation.specs.Contents.{contents}
use Rattle.std.specs.Prelude.{Option, Some, None, unwrap_or, IsSome}
use Rattle.translation.specs.Translate.{strong, inserted, new_events, fenced, after, kept_or, new_mode, new_flag, translated}
use Rattle.translation.specs.Encode.{chained, links_before, links_up_to, event_record}
use Rattle.translation.specs.Translation.{chip}
use Rattle.translation.specs.Parts.{Source, NewEvent}
use Rattle.translation.proofs.TranslateLaws as law
use Rattle.translation.proofs.TranslateLaws.{flagged_is}
use Rattle.translation.proofs.SourceFacts.{limits, few_events, next_within, flagged_decoded}
use Rattle.translation.proofs.Bounds.{most_events_lem}

-- A number that is searched for below n, where the search answers with an option.
pub some_below : {n w : ℕ} (o : Option ℕ) → unwrap_or o n ≡ w → w < n → IsSome o
some_below (Some x) p h = refl
some_below None p h = absurd (omega arith)

pub some_is : (n : ℕ) {w x : ℕ} {o : Option ℕ} → o ≡ Some x → unwrap_or o n ≡ w → x ≡ w
some_is n e p = sym (ap (λ (o : Option ℕ). unwrap_or o n) e) ∙ p

-- The strong writes below w are counted.
pub record Counted (f : List ℕ) (w n : ℕ) : Type 0 where
  pub same : n ≡ count w (strong (contents f))
  pub most : n ≤ w

module _ (f : List ℕ) where
  pub counted_none : Counted f 0 0
  unfolding count
  counted_none = record { same = refl; most = omega arith }

  pub counted_yes : Source f → (w n : ℕ) (b : Bool) → b ≡ recording.flagged (decode f) 2 w → b ≡ true → Counted f w n → Counted f (w + 1) (n + 1)
  counted_yes s w n b e p c =
      let is = sym (flagged_decoded f s 2 w) ∙ sym e ∙ p in
      record { same = ap (λ (x : ℕ). x + 1) c.same ∙ sym (count_next_yes w (strong (contents f)) is); most = omega (arith, c.most) }

  pub counted_no : Source f → (w n : ℕ) (b : Bool) → b ≡ recording.flagged (decode f) 2 w → b ≡ false → Counted f w n → Counted f (w + 1) n
  counted_no s w n b e p c =
      let is = sym (flagged_decoded f s 2 w) ∙ sym e ∙ p in
      record { same = c.same ∙ sym (count_next_no w (strong (contents f)) is); most = omega (arith, c.most) }

  pub counted_all : (w e n : ℕ) → w ≡ e → Counted f w n → (n ≡ count e (strong (contents f))) × (n ≤ e)
  counted_all w e n p c = (c.same ∙ ap (λ (x : ℕ). count x (strong (contents f))) p, omega (arith, c.most))

  pub inserted_is : (n m w : ℕ) → n ≡ events f → m ≡ count w (strong (contents f)) → n + 1 + m ≡ inserted (contents f) w
  unfolding inserted contents
  inserted_is n m w p q = ap₂ (λ (x y : ℕ). x + y) (add-one n ∙ ap suc p) q

  pub new_events_are : Source f → (n m : ℕ) → n ≡ events f → m ≡ count (n + 1) (strong (contents f)) → (n + m ≡ new_events (contents f)) × (n + m ≤ 48)
  unfolding new_events contents
  new_events_are s n m p q =
      let e : n + m ≡ new_events (contents f) = ap₂ (λ (x y : ℕ). x + y) p (q ∙ ap (λ (x : ℕ). count x (strong (contents f))) (add-one n ∙ ap suc p)) in
      (e, omega (arith, most_events_lem f s))

  -- After an inserted fence comes what followed its write.
  pub fenced_event : Source f → (e : ℕ) → NewEvent (contents f) e → events f < e → (1 ≤ fenced (contents f) e) × (fenced (contents f) e ≤ events f)
  unfolding contents
  fenced_event s e n h =
      let v = law.inserted_every (contents f) e h n.high in
      let w = flagged_is (contents f) 2 v.0 v.1 in
      let same = sym (ap (fenced (contents f)) v.2) ∙ law.fenced_inserted (contents f) (few_events f s) v.0 v.1 in
      (omega (arith, same, w.low), omega (arith, same, w.high))

  next_small : Source f → (e : ℕ) → 1 ≤ e → e ≤ events f → event_byte f e 0 ≤ 48
  next_small s e h g = omega (arith, next_first f e, next_within f s e h g, (limits f s).0)

  pub after_fence : Source f → (e w x : ℕ) → NewEvent (contents f) e → events f < e → w ≡ fenced (contents f) e → x ≡ event_byte f w 0
      → (x ≡ after (contents f) e) × (x ≤ 48)
  unfolding contents
  after_fence s e w x n h p q =
      let b = fenced_event s e n h in
      (q ∙ next_first f w ∙ ap (contents f).next p ∙ sym (law.after_new (contents f) e h), omega (arith, q, next_small s w (omega (arith, b)) (omega (arith, b))))

  pub after_write : Source f → (e x : ℕ) (b : Bool) → b ≡ recording.flagged (decode f) 2 e → b ≡ true → x ≡ inserted (contents f) e
      → (x ≡ after (contents f) e) × (x ≤ 48)
  after_write s e x b p q r =
      let is = sym (flagged_decoded f s 2 e) ∙ sym p ∙ q in
      (r ∙ sym (law.after_strong (contents f) e is), omega (arith, r, law.inserted_above (contents f) e is, most_events_lem f s))

  pub after_other : Source f → (e x : ℕ) (b : Bool) → 1 ≤ e → e ≤ events f → b ≡ recording.flagged (decode f) 2 e → b ≡ false → x ≡ event_byte f e 0
      → (x ≡ after (contents f) e) × (x ≤ 48)
  unfolding contents
  after_other s e x b h g p q r =
      (r ∙ next_first f e ∙ sym (law.after_plain (contents f) e g (sym (flagged_decoded f s 2 e) ∙ sym p ∙ q)), omega (arith, r, next_small s e h g))

  -- Whether w is the write of the fence e.
  pub fence_yes : Source f → (e w x : ℕ) (b : Bool) → b ≡ recording.flagged (decode f) 2 w → b ≡ true → x ≡ inserted (contents f) w
      → eqb x e ≡ strong (contents f) w && eqb (inserted (contents f) w) e
  fence_yes s e w x b p q r = and_yes b (eqb x e) (strong (contents f) w) (eqb (inserted (contents f) w) e) (p ∙ flagged_decoded f s 2 w) q (ap (λ (y : ℕ). eqb y e) r)

  pub fence_no : Source f → (e w : ℕ) (b : Bool) → b ≡ recording.flagged (decode f) 2 w → b ≡ false
      → b ≡ strong (contents f) w && eqb (inserted (contents f) w) e
  fence_no s e w b p q = and_no b (strong (contents f) w) (eqb (inserted (contents f) w) e) (p ∙ flagged_decoded f s 2 w) q

  -- The record of an event, byte by byte.
  pub record_is : (e : ℕ) {next class mode flag location low high first : ℕ} → let c = contents f in
      let byte : ℕ → ℕ → ℕ = λ k x. event_byte f x k in
      next ≡ after c e → class ≡ kept_or c (byte 1) 3 e → mode ≡ kept_or c (new_mode c) 5 e → flag ≡ kept_or c (new_flag c) 0 e
      → location ≡ kept_or c (byte 4) 0 e → low ≡ kept_or c (byte 5) 0 e → high ≡ kept_or c (byte 6) 0 e
      → first ≡ chained (links_up_to (chip f) e) (links_before (chip f) (512 * e))
      → next ∷ class ∷ mode ∷ flag ∷ location ∷ low ∷ high ∷ first ∷ [] ≡ event_record (chip f) e
  unfolding event_record translated contents
  record_is e a b d g h i j k = cc

  -- What the records say, by cases.
  pub fence_has : (v : ℕ → ℕ) (new e n : ℕ) → n ≡ events f → n < e → new ≡ kept_or (contents f) v new e
  unfolding contents
  fence_has v new e n p h = sym (law.made (contents f) v new e (omega arith))

  pub event_keeps : (v : ℕ → ℕ) (new e n x : ℕ) → n ≡ events f → e ≤ n → x ≡ v e → x ≡ kept_or (contents f) v new e
  unfolding contents
  event_keeps v new e n x p h q = q ∙ sym (law.kept (contents f) v new e (omega arith))

  pub mode_stays : (e m k : ℕ) → m ≡ event_byte f e 2 → k ≡ event_byte f e 1 → (k ≡ 3 → ⊥) → m ≡ new_mode (contents f) e
  unfolding contents
  mode_stays e m k p q d = p ∙ sym (law.mode_access (contents f) e (λ r. d (q ∙ r)))

  pub mode_five : (e m k : ℕ) → m ≡ event_byte f e 2 → k ≡ event_byte f e 1 → k ≡ 3 → m ≡ 1 → 5 ≡ new_mode (contents f) e
  unfolding contents
  mode_five e m k p q c r = sym (law.mode_acquire (contents f) e (sym q ∙ c) (sym p ∙ r))

  pub mode_six : (e m k : ℕ) → m ≡ event_byte f e 2 → k ≡ event_byte f e 1 → k ≡ 3 → (m ≡ 1 → ⊥) → 6 ≡ new_mode (contents f) e
  unfolding contents
  mode_six e m k p q c d = sym (law.mode_other (contents f) e (sym q ∙ c) (λ r. d (p ∙ r)))

  pub flag_falls : Source f → (e : ℕ) (b : Bool) → b ≡ recording.flagged (decode f) 2 e → b ≡ true → 0 ≡ new_flag (contents f) e
  flag_falls s e b p q = sym (law.flag_strong (contents f) e (sym (flagged_decoded f s 2 e) ∙ sym p ∙ q))

  pub flag_stays : Source f → (e x : ℕ) (b : Bool) → b ≡ recording.flagged (decode f) 2 e → b ≡ false → x ≡ event_byte f e 3 → x ≡ new_flag (contents f) e
  unfolding contents
  flag_stays s e x b p q r = r ∙ sym (law.flag_kept (contents f) e (sym (flagged_decoded f s 2 e) ∙ sym p ∙ q))

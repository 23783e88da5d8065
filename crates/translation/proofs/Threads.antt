-- The threads of a translation: each is the source's with a fence after every strong write. Nothing is met twice or never (cause 6), and none is
-- too long (cause 13), since a source thread has at most six strong writes.
use mathlib.Core.Path.{◌≡◌, refl, sym, ap, ◌∙◌}
use mathlib.Core.Bool.{true, false, not, false≢true}
use mathlib.Core.List.{List, ◌∷◌, ◌++◌}
use mathlib.Core.Logic.{inl, inr}
use Prim.Native.Nat.{ℕ, zero, suc, ◌+◌, ◌*◌, ◌<◌, ◌≤◌}
use native.Mathlib.Omega.{arith}
use native.Mathlib.Decide.{ℕ_discrete, dec_le}
use lib.ListN.{length}
use Rattle.relation.specs.Rel.{Set}
use Rattle.relation.proofs.Truth.{is_true, holds, is_false, by_test}
use Rattle.models.specs.Recording.{flagged}
use Rattle.layout.specs.Layout.{by_side, events, threads}
use Rattle.layout.specs.Chains.{next_event, head, follow, chain, met, once_each, thread}
use Rattle.layout.specs.Decode.{decode}
use Rattle.layout.proofs.ChainLaws.{follow_in, follow_over}
use Rattle.layout.proofs.ChainFacts.{Ended, end, step, chain_ended}
use Rattle.recording.specs.Causes.{bad_threads}
use Rattle.recording.proofs.Accepted.{threads_sound_lem, source_thread}
use Rattle.translation.specs.Contents.{Contents, contents}
use Rattle.translation.specs.Translate.{strong, inserted, new_events, after, translated}
use Rattle.translation.specs.Encode.{encode}
use Rattle.translation.specs.Translation.{chip, translation}
use Rattle.translation.specs.Parts.{Source}
use Rattle.translation.specs.Threads.{count_of, strong_in, ThreadTranslated}
use Rattle.translation.proofs.EncodeLaws.{encode_events, encode_head}
use Rattle.translation.proofs.Says.{encode_next}
use Rattle.translation.proofs.Woven.{Weaves, woven, woven_once, woven_chain, woven_length, count_yes, count_no}
use Rattle.translation.proofs.TranslateLaws as law
use Rattle.translation.proofs.SourceFacts as source
use Rattle.translation.proofs.Bounds.{not_both}

-- Chains that agree within the limit meet the same.
module _ (limit : ℕ) (next next' : ℕ → ℕ) (same : (x : ℕ) → 1 ≤ x → x ≤ limit → next x ≡ next' x) where
  follow_same : (n x : ℕ) → follow limit next n x ≡ follow limit next' n x
  unfolding follow
  follow_same zero x = refl
  follow_same (suc n) x =
      elim (ℕ_discrete x 0) [
        | yes e ↦ ap (follow limit next (suc n)) e ∙ ap (follow limit next' (suc n)) (sym e)
        | no d ↦ elim (dec_le x limit) [
          | yes h ↦ follow_in limit next n x d h
              ∙ ap (◌∷◌ x) (follow_same n (next x) ∙ ap (follow limit next' n) (same x (omega (arith, d)) h)) ∙ sym (follow_in limit next' n x d h)
          | no h ↦ follow_over limit next n x d (omega (arith, h)) ∙ sym (follow_over limit next' n x d (omega (arith, h)))
        ]
      ]

  met_same : (start start' : ℕ → ℕ) (n : ℕ) → ((j : ℕ) → j < n → start j ≡ start' j) → met limit next start n ≡ met limit next' start' n
  unfolding met
  met_same start start' zero e = refl
  met_same start start' (suc n) e =
      ap (λ (l : List ℕ). l ++ chain limit next (start n)) (met_same start start' n (λ j h. e j (omega arith)))
      ∙ ap (◌++◌ (met limit next' start' n)) (follow_same (suc limit) (start n) ∙ ap (chain limit next') (e n (omega arith)))

-- A chain on which no member of s directly follows another: at most every second number is one.
module _ (limit : ℕ) (next : ℕ → ℕ) (s : Set) (apart : (x : ℕ) → s x ≡ true → s (next x) ≡ false) where
  half : {x : ℕ} {l : List ℕ} → Ended limit next x l → (2 * count_of l s ≤ length l + 1) × (s x ≡ false → 2 * count_of l s ≤ length l)
  unfolding count_of
  half end = (omega arith, λ p. omega arith)
  half (step {x = x} {l = l} p q w) =
      let rest = half w in
      elim (by_test (s x)) [
        | inl e ↦ (omega (arith, count_yes s x l e, rest.1 (apart x e)), λ d. absurd (false≢true (sym d ∙ e)))
        | inr e ↦ (let few : 2 * count_of (x ∷ l) s ≤ length {A = ℕ} (x ∷ l) = omega (arith, count_no s x l e, rest.0) in (omega (arith, few), λ d. few))
      ]

module _ (f : List ℕ) (s : Source f) where
  abbrev old : Contents
  old = contents f

  abbrev new : List ℕ
  new = encode (chip f)

  -- A strong write directly follows its exclusive read, so no strong write.
  strong_apart : (w : ℕ) → strong old w ≡ true → strong old (next_event f w) ≡ false
  unfolding contents
  strong_apart w h = is_false (strong old v) (λ g.
      let l = source.loads f s in
      let says = source.says f s in
      let here = law.flagged_is old 2 w h in
      let there = law.flagged_is old 2 v g in
      let pair = l.strong v (holds (flagged (decode f) 2 v) (source.flagged_decoded f s 2 v ∙ g)) in
      let a = pair.0 in
      let rmw = l.rmw a v pair.1 in
      let same = l.next_injective w a v (says.is_next w v here.low here.high there.low there.high refl) rmw.2 in
      not_both f s w a same h (sym (source.flagged_decoded f s 1 a) ∙ is_true (flagged (decode f) 1 a) rmw.0))
    where
      v : ℕ
      v = next_event f w

  strong_half : (t : ℕ) → t < threads → 2 * strong_in f t ≤ length (thread f t) + 1
  strong_half t h =
      (half (events f) (next_event f) (strong old) strong_apart (chain_ended (events f) (next_event f) (head f) threads t h (source.threads_fresh f s))).0

  weaves : Weaves old.events (new_events old) old.next (after old) (strong old) (inserted old)
  weaves = law.weaves old (source.few_events f s)

  -- Cause 6.
  pub threads_fine : bad_threads new ≡ false
  unfolding bad_threads translated contents
  threads_fine =
      ap (λ (n : ℕ). not (once_each n (met n (next_event new) (head new) threads))) (encode_events (chip f))
      ∙ ap (λ (m : List ℕ). not (once_each (new_events old) m)) (met_same (new_events old) (next_event new) (after old) (encode_next (chip f)) (head new) (head f) threads (encode_head (chip f)))
      ∙ ap not (woven_once old.events (new_events old) old.next (after old) (strong old) (inserted old) weaves (head f) threads (threads_sound_lem f s.loads))

  -- One thread.
  thread_woven : (t : ℕ) → t < threads → thread new t ≡ woven (strong old) (inserted old) (thread f t)
  unfolding translated contents
  thread_woven t h =
      ap (λ (n : ℕ). chain n (next_event new) (head new t)) (encode_events (chip f))
      ∙ follow_same (new_events old) (next_event new) (after old) (encode_next (chip f)) (suc (new_events old)) (head new t)
      ∙ ap (chain (new_events old) (after old)) (encode_head (chip f) t h)
      ∙ woven_chain old.events (new_events old) old.next (after old) (strong old) (inserted old) weaves (head f) threads (source.threads_fresh f s) t h

  pub thread_translated : (t : ℕ) → t < threads → ThreadTranslated f t
  unfolding translation by_side
  thread_translated t h =
      let longer = ap length (thread_woven t h) ∙ woven_length (strong old) (inserted old) (thread f t) in
      record {
        few_strong = omega (arith, strong_half t h, source_thread f s t h);
        longer = longer;
        enough = omega (arith, longer, strong_half t h, source_thread f s t h);
      }

-- What loading ensures of a source file for its translation: the limits, chains and links that the definitions and the code go by.
use mathlib.Core.Path.{◌≡◌}
use mathlib.Core.Bool.{true}
use mathlib.Core.List.{List, []}
use Prim.Native.Nat.{ℕ, ◌<◌, ◌≤◌}
use native.Mathlib.Omega.{arith}
use Rattle.models.specs.Recording as recording
use Rattle.models.specs.Recording.{event}
use Rattle.models.specs.Loads.{Loads}
use Rattle.layout.specs.Layout.{side, events, locations, links, threads, Sized}
use Rattle.layout.specs.Chains.{next_event, head, fresh, once_each, among, threads_up_to}
use Rattle.layout.specs.Decode.{decode}
use Rattle.recording.specs.Causes.{link_legal}
use Rattle.layout.proofs.FieldLaws.{recorded_bounds, event_small}
use Rattle.layout.proofs.ChainLaws.{each_at}
use Rattle.relation.proofs.Truth.{is_true, holds, and_left, and_right}
use Rattle.layout.proofs.ChainFacts.{chain_ended, ended_start, ended_next, met_cases}
use Rattle.recording.proofs.Accepted.{threads_sound_lem, legal_link, source_limits, sized as loaded-sized}
use Rattle.recording.proofs.Loaded as loaded
use Rattle.translation.specs.Contents.{contents}
use Rattle.translation.specs.Translate.{flagged}
use Rattle.translation.specs.Parts.{Source}
use Rattle.translation.proofs.Says.{Says, contents_say, flagged_says}

module _ (f : List ℕ) (s : Source f) where
  pub sized : Sized f
  sized = loaded-sized f s.loads

  pub limits : (events f ≤ 32) × (locations f ≤ 8) × (links f ≤ 200)
  limits = source_limits f s

  pub few_events : (contents f).events < 64
  unfolding contents
  few_events = omega (arith, limits.0)

  pub loads : Loads (decode f)
  loads = loaded.loads f s.loads

  -- Links.
  pub legal : (t a b : ℕ) → (decode f).link t a b ≡ true → link_legal (decode f) (side f) t a b ≡ true
  legal = legal_link f s.loads

  pub link_source : (t a b : ℕ) → (decode f).link t a b ≡ true → a < 64
  link_source t a b e =
      event_small f a sized (is_true (event (decode f) a) ((loaded.loaded_within f s.loads).link_source t a b (holds ((decode f).link t a b) e)))

  pub link_target : (t a b : ℕ) → (decode f).link t a b ≡ true → (1 ≤ b) × (b ≤ events f)
  unfolding decode
  link_target t a b e = recorded_bounds f b (search and_left)

  -- Chains.
  pub threads_fresh : fresh (events f) [] (threads_up_to f threads) ≡ true
  unfolding once_each
  threads_fresh = (let once = threads_sound_lem f s.loads in search and_left)

  pub head_within : (t : ℕ) → t < threads → head f t ≤ events f
  head_within t h = ended_start (events f) (next_event f) (chain_ended (events f) (next_event f) (head f) threads t h threads_fresh)

  pub next_within : (e : ℕ) → 1 ≤ e → e ≤ events f → next_event f e ≤ events f
  unfolding once_each
  next_within e h g =
      let once = threads_sound_lem f s.loads in
      let m = each_at (events f) (λ x. among x (threads_up_to f threads)) (search and_right) e h g in
      let w = met_cases (events f) (next_event f) (head f) threads e m in
      ended_next (events f) (next_event f) e (chain_ended (events f) (next_event f) (head f) threads w.0 w.1 threads_fresh) w.2

  -- The recording says what the records say.
  pub says : Says (decode f) (contents f)
  says = contents_say f (omega (arith, limits.0))

  pub flagged_decoded : (k e : ℕ) → recording.flagged (decode f) k e ≡ flagged (contents f) k e
  flagged_decoded = flagged_says (decode f) (contents f) says

-- What the arrays of a recording hold is its base, and what follows for a verdict over them.
use mathlib.Core.Path.{◌≡◌, ap, subst, ◌∙◌}
use mathlib.Core.List.{List, []}
use Prim.Native.Nat.{ℕ, ◌≤◌, ◌<◌}
use lib.ListN.{get_or}
use Rattle.std.specs.Prelude.{Ok, Err}
use Rattle.relation.specs.Rel.{Rel, inverse, nodes}
use Rattle.relation.specs.Bits.{edge}
use Rattle.models.specs.Recording.{Recording}
use Rattle.models.specs.Graph as graph
use Rattle.models.specs.Graph.{base}
use Rattle.layout.specs.Layout.{Side}
use Rattle.layout.specs.Decode.{decode}
use Rattle.recording.specs.Causes.{refusal}
use Rattle.recording.specs.Load.{cause_for}
use Rattle.reading.specs.Sets.{LinkRows}
use Rattle.models.specs.Rules.{Model, verdict}
use Rattle.models.specs.Clause.{Clause}
use Rattle.models.proofs.Agree.{recording_verdict}
use Rattle.recording.proofs.Accepted.{sized, threads_sound_lem}
use Rattle.recording.proofs.Loaded.{loaded_within, loaded_readable, loaded_located}
use Rattle.reading.proofs.SortLaws.{class_recorded}
use Rattle.refusal.specs.declared.Refusal.{Refusal}
use Rattle.refusal.specs.Refusal.{number}
use Rattle.verdict.specs.declared.base.Base.{Base}
use Rattle.verdict.specs.Verdict.{Verdict, rule_of}
use Rattle.verdict.specs.Base.{base_of}
use Rattle.clause.specs.Steps.{StepsBy}
use Rattle.execution.specs.Arrays.{SetsOf, RelationsOf}
use Rattle.execution.specs.OnFile.{OnRecording, OnFile}

pub base_of_lem : (r : Recording ℕ) (b : Base) → SetsOf r b → RelationsOf (base nodes r) b → base_of b ≡ base nodes r
unfolding base_of base
base_of_lem r b s t =
    λ i. record {
      E = s.events i;
      Init = s.initial i;
      set = λ n. s.named n i;
      loc = t.loc i;
      po = t.po i;
      rf = t.rf i;
      co = t.co i;
      rmw = t.rmw i;
      «data» = t.«data» i;
      addr = t.addr i;
      ctrl = t.ctrl i;
      casdep = t.casdep i;
    }

-- Links that are held by target, turned.
pub links_of : {f : List ℕ} {rows : List (List (List ℕ))} → LinkRows f rows → (t : ℕ) → 1 ≤ t → t < 8 → {g : Rel} → g ≡ inverse (edge (get_or rows t []))
    → g ≡ (decode f).link t
unfolding inverse
links_of w t h k p = p ∙ ap inverse (w.grid t h k)

-- What a file that loads gives to what is read from it: by these the check finds what the calls ask for.
pub ruleset loaded = (sized, threads_sound_lem, loaded_readable, loaded_located, class_recorded, links_of)

-- A verdict over the base of a file that loads is one on its recording.
module _ (M : Model) (Judged : graph.Base → Verdict → Type 0) (f : List ℕ) where
  pub on_recording : (v : Verdict) → refusal f ≡ 0 → ((B : graph.Base) → Judged B v → rule_of v ≡ verdict nodes B M) → (b : Base) → SetsOf (decode f) b
      → RelationsOf (base nodes (decode f)) b → Judged (base_of b) v → OnRecording M Judged (decode f) v
  on_recording v loads says b s t j =
      let shown : Judged (base nodes (decode f)) v = subst (λ (B : graph.Base). Judged B v) (base_of_lem (decode f) b s t) j in
      record {
        number = verdict nodes (base nodes (decode f)) M;
        rules = recording_verdict nodes (decode f) (loaded_within f loads) M;
        answer = says (base nodes (decode f)) shown;
        shown = shown;
      }

  -- A verdict on a file is its refusal, or one on its recording.
  module _ (s : Side) where
    pub on_refused : (e : Refusal) → number e ≡ cause_for s f → OnFile s M Judged f (Err e)
    on_refused e cause = record { refused = cause; judged = tt }

    pub on_loaded : (v : Verdict) → 0 ≡ cause_for s f → OnRecording M Judged (decode f) v → OnFile s M Judged f (Ok v)
    on_loaded v cause on = record { refused = cause; judged = on }

-- Steps over the base that a recording's arrays hold are those over its base.
pub steps_by_base : (cs : List Clause) (r : Recording ℕ) (v : Verdict) (found : List (List ℕ)) (b : Base) → SetsOf r b → RelationsOf (base nodes r) b
    → StepsBy cs (base_of b) v found → StepsBy cs (base nodes r) v found
steps_by_base cs r v found b s t w = subst (λ (B : graph.Base). StepsBy cs B v found) (base_of_lem r b s t) w

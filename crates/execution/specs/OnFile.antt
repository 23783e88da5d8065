-- What a verdict over a file's bytes answers, for a model whose files are of side s (01, "Causes of refusal").
use Rattle.std.specs.Prelude.{◌≡◌, List, ℕ, ◌≤◌, length, Result, IfOk}
use Rattle.relation.specs.Rel.{nodes}
use Rattle.relation.specs.Order.{EachOnce}
use Rattle.models.specs.Recording.{Recording, event}
use Rattle.models.specs.Steps.{count}
use Rattle.models.specs.Graph.{Base, base, graph}
use Rattle.models.specs.Term.{◌⁺, ⟦◌⟧}
use Rattle.models.specs.Rules as models
use Rattle.layout.specs.Layout.{Side}
use Rattle.layout.specs.Decode.{decode}
use Rattle.recording.specs.Load.{cause_for}
use Rattle.refusal.specs.declared.Refusal.{Refusal}
use Rattle.refusal.specs.Refusal.{number_of}
use Rattle.verdict.specs.Verdict.{Verdict, rule_of, events}

-- v is the verdict of the model M on the recording r. Its answer is that of M's five rules, as statements about the execution graph of r:
-- allowed where none fails, else broken with the first that does. What it shows is as `Judged` says.
pub record OnRecording (M : models.Model) (Judged : Base → Verdict → Type 0) (r : Recording ℕ) (v : Verdict) : Type 0 where
  pub number : ℕ
  pub rules : models.Verdict M (graph r) number
  pub answer : rule_of v ≡ number
  pub shown : Judged (base nodes r) v

-- Refused with the number of the first cause, 11 for the other side; else the model's verdict on the recording.
pub record OnFile (s : Side) (M : models.Model) (Judged : Base → Verdict → Type 0) (f : List ℕ) (r : Result Verdict Refusal) : Type 0 where
  pub refused : number_of r ≡ cause_for s f
  pub judged : IfOk r (λ v. OnRecording M Judged (decode f) v)

-- "Allowed: all events": where a verdict on the file f is allowed, it shows every event of the recording exactly once.
-- `imm_shows_all`, `armv8_shows_all` and `tso_shows_all` prove it of every verdict that is `OnFile`.
abbrev pub ShowsAll : List ℕ → Verdict → Type 0
ShowsAll f v = rule_of v ≡ 0 → EachOnce (event (decode f)) (events v)

-- "Every other ring that may be shown has at least as many" (02, slip 5), in the words of the rules: of all ways in which the execution graph of
-- the file f breaks the rule that is named, none has fewer steps than the verdict v shows events. Rule 5 is broken by steps of ar, ob or tso
-- from an event back to itself, as many as `count` says; `steps3` says how many steps a way has that breaks rule 3.
-- `imm_shows_fewest`, `armv8_shows_fewest` and `tso_shows_fewest` prove it of every verdict that is `OnFile`.
pub record ShowsFewest (M : models.Model) (f : List ℕ) (steps3 : (a : ℕ) → ⟦ M.coherent ⟧ (graph (decode f)) a a → ℕ) (v : Verdict) : Type 0 where
  pub rule3 : rule_of v ≡ 3 → (a : ℕ) (way : ⟦ M.coherent ⟧ (graph (decode f)) a a) → length (events v) ≤ steps3 a way
  pub rule5 : rule_of v ≡ 5 → (a : ℕ) (way : ⟦ M.order ⁺ ⟧ (graph (decode f)) a a) → length (events v) ≤ count way

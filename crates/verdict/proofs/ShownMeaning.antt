-- What a verdict says and shows means: the rules of the execution graph; every event exactly once where it is allowed;
-- and what breaks rule 1, 2 or 4 where it is that.
use mathlib.Core.Path.{◌≡◌, refl, sym, subst, ◌∙◌}
use mathlib.Core.Bool.{true, false, false≢true}
use mathlib.Core.Logic.{◌↔◌}
use Prim.Native.Nat.{ℕ, ◌<◌, ◌≤◌}
use native.Mathlib.Omega.{arith}
use lib.Dec.{T}
use Rattle.relation.specs.Rel.{Set, Rel, some, least, diagonal, plus, nodes}
use Rattle.relation.specs.Order.{EachOnce}
use Rattle.relation.proofs.Truth.{holds, is_false}
use Rattle.relation.proofs.SetLaws.{least_is, least_lt}
use Rattle.relation.proofs.Meaning.{Steps, one, more, mem_below, below_mem, some_sound, some_complete, plus_sound}
use Rattle.relation.proofs.Walks.{Inside}
use Rattle.relation.proofs.OrderLaws.{each_once}
use Rattle.models.specs.Recording.{Recording, event}
use Rattle.models.specs.Graph.{Base, graph, base, Within}
use Rattle.models.specs.Term.{Term, eval}
use Rattle.models.specs.Rules as models
use Rattle.models.specs.Rules.{Model, broken_pair, anywhere, unread, unordered, failures, verdict}
use Rattle.models.proofs.Agree.{tests, agrees, recording_verdict, recording_allowed}
use Rattle.verdict.specs.Verdict.{Verdict, rule_of, events}
use Rattle.verdict.specs.Shown.{first_of, second_of, Shown}
use Rattle.models.proofs.FirstLaws.{test_of, positive, distinct, named, first_passes, first_fails}

-- The least of a set that has an event is in it.
least_there : (s : Set) → some nodes s ≡ true → (least 64 s < 64) × (s (least 64 s) ≡ true)
least_there s p =
    let (x, m, h) = some_sound nodes s p in
    let lt : least 64 s < 64 = omega (arith, least_lt 64 s x (below_mem 64 x m) h, below_mem 64 x m) in
    (lt, (least_is 64 s).member lt)

pair_there : (r : Rel) → anywhere nodes r ≡ true → r (first_of r) (second_of r) ≡ true
unfolding anywhere first_of second_of
pair_there r p =
    let (lt, h) = least_there (λ a. some nodes (r a)) p in
    (least_there (r (first_of r)) h).1

steps_target : {r : Rel} {x y : ℕ} → Inside r → Steps r x y → y < 64
steps_target inside (one {y = y} h) = inside.target _ y h
steps_target inside (more {y = y} {z = z} s h) = inside.target y z h

module _ (M : Model) (B : Base) where
  -- The smallest read without rf is one.
  pub read_shown : verdict nodes B M ≡ 1 → unread nodes B (least 64 (unread nodes B)) ≡ true
  unfolding verdict failures test_of named distinct positive
  read_shown e = (least_there (unread nodes B) (first_passes (failures nodes B M) 0 refl e)).1

  -- co does not order the two writes that are shown.
  pub writes_shown : verdict nodes B M ≡ 2 → unordered nodes B (first_of (unordered nodes B)) (second_of (unordered nodes B)) ≡ true
  unfolding verdict failures test_of named distinct positive
  writes_shown e = pair_there (unordered nodes B) (first_passes (failures nodes B M) 1 refl e)

  -- The pair that is shown is an rmw pair that is also fre then coe.
  pub pair_shown : verdict nodes B M ≡ 4 → eval nodes broken_pair B (first_of (eval nodes broken_pair B)) (second_of (eval nodes broken_pair B)) ≡ true
  unfolding verdict failures test_of named distinct positive
  pair_shown e = pair_there (eval nodes broken_pair B) (first_passes (failures nodes B M) 3 refl e)

  -- An allowed verdict shows every event exactly once.
  all_shown : (steps closing : Rel) (v : Verdict) → Shown steps closing M B v → verdict nodes B M ≡ 0 → Inside (eval nodes M.order B)
      → ((j : ℕ) → 64 ≤ j → B.E j ≡ false) → EachOnce B.E (events v)
  unfolding verdict failures test_of named distinct positive eval diagonal
  all_shown steps closing v w e inside high =
      subst (EachOnce B.E) (sym (w.allowed e)) (each_once (eval nodes M.order B) inside acyclic B.E high)
    where
      acyclic : (y : ℕ) → plus nodes (eval nodes M.order B) y y ≡ false
      acyclic y =
          is_false (plus nodes (eval nodes M.order B) y y)
          (λ q. false≢true
          (sym (first_fails (failures nodes B M) refl e 5)
          ∙ some_complete nodes (diagonal (plus nodes (eval nodes M.order B))) y (mem_below 64 y (steps_target inside (plus_sound nodes _ y y q))) q))

-- The events of a recording are below 64, and every term relates events.
module _ (r : Recording ℕ) (within : Within nodes r) where
  event_below : (e : ℕ) → T (event r e) → e < 64
  event_below e h = below_mem 64 e (within.listed e h)

  pub term_inside : (t : Term) → Inside (eval nodes t (base nodes r))
  unfolding base
  term_inside t =
      let tested = tests nodes (base nodes r) (graph r) (agrees nodes r within) t in
      record {
        source = λ x y h. event_below x (tested.source x y (tested.to x y (holds _ h)));
        target = λ x y h. event_below y (tested.target x y (tested.to x y (holds _ h)));
      }

  no_event_above : (j : ℕ) → 64 ≤ j → event r j ≡ false
  no_event_above j h = is_false (event r j) (λ e. let low = event_below j (holds _ e) in omega arith)

-- Over the base of a recording the rule that is said is the model's verdict of its execution graph: none exactly where no rule fails.
module _ (steps closing : Rel) (M : Model) (v : Verdict) (r : Recording ℕ) (within : Within nodes r) (w : Shown steps closing M (base nodes r) v) where
  pub answer_means : models.Verdict M (graph r) (rule_of v)
  answer_means = subst (models.Verdict M (graph r)) (sym w.answer) (recording_verdict nodes r within M)

  pub allowed_means : (rule_of v ≡ 0) ↔ models.Allowed M (graph r)
  allowed_means =
      let (f, g) = recording_allowed nodes r within M in (λ e. f (sym w.answer ∙ e), λ a. w.answer ∙ g a)

  pub allowed_shows : rule_of v ≡ 0 → EachOnce (event r) (events v)
  unfolding base
  allowed_shows e =
      all_shown M (base nodes r) steps closing v w (sym w.answer ∙ e) (term_inside r within M.order) (no_event_above r within)

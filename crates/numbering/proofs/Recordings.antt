-- A recording and the same with other names of its events: every statement about recordings holds of both or of neither, so that they have
-- one verdict.
use std.Path.{PathP}
use std.Equiv.{◌≃◌}
use std.Univalence.{ua}
use mathlib.Core.Path.{◌≡◌, subst, transport}
use mathlib.Core.List.{List}
use Prim.Native.Nat.{ℕ}
use Rattle.models.specs.Recording.{Recording}
use Rattle.models.specs.Graph.{graph, base, Within}
use Rattle.models.specs.Rules.{Model, verdict}
use Rattle.models.proofs.Agree.{Refutation, refutation, agrees, same_verdict}

-- The recording in which the event a is what `to a` is in r.
unfoldable pub renamed : {A B : Type 0} → (A → B) → Recording B → Recording A
renamed to r =
    record {
      class = λ e. r.class (to e);
      mode = λ e. r.mode (to e);
      flag = λ e. r.flag (to e);
      location = λ e. r.location (to e);
      value = λ e. r.value (to e);
      initial = λ e. r.initial (to e);
      recorded = λ e. r.recorded (to e);
      next = λ a b. r.next (to a) (to b);
      link = λ t a b. r.link t (to a) (to b);
    }

-- Where `to` is an equivalence, the two are equal along it.
along : {A B : Type 0} (e : A ≃ B) (r : Recording B) → PathP (λ i. Recording (ua e i)) (renamed e.0 r) r
unfolding renamed
along e r = λ i. renamed (λ a. vproj i a e) r

module _ (es : List ℕ) (r s : Recording ℕ) (e : ℕ ≃ ℕ) (p : r ≡ renamed e.0 s) (v : Within es r) (w : Within es s) where
  pub verdict_renamed : (M : Model) → verdict es (base es r) M ≡ verdict es (base es s) M
  verdict_renamed M = same_verdict es es (base es r) (base es s) M moved (refutation es _ _ (agrees es s w) M)
    where
      moved : Refutation es (base es r) M (graph s)
      moved =
          transport (λ i. Refutation es (base es r) M (graph (along e s i)))
          (subst (λ x. Refutation es (base es r) M (graph x)) p (refutation es _ _ (agrees es r v) M))

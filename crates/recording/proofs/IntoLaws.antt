-- Laws of the links into an event: each is one of the file's links; on the way along them, what is left decides what all of them do.
use mathlib.Core.Path.{◌≡◌, sym, ap, subst, ◌∙◌}
use mathlib.Core.Bool.{Bool, true, false, ◌&&◌, false≢true}
use mathlib.Core.List.{List, [], ◌∷◌}
use mathlib.Core.Logic.{inl, inr}
use Prim.Native.Nat.{ℕ, suc, ◌-◌, ◌<◌, ◌≤◌}
use borrow.Author.Tests.{eqb-true, leb-true}
use lib.Dec.{eqb}
use lib.ListN.{length, get_or}
use Rattle.std.specs.Prelude.{Option, IfSome}
use Rattle.std.specs.Iterator.{YieldsFirst}
use Rattle.std.proofs.lemmas.Iterator.{YieldsList}
use Rattle.std.proofs.lemmas.Iterator.Consumers.{YieldsList-from_shown}
use Rattle.std.proofs.lemmas.Grind.{get_or_default_zero}
use Rattle.relation.proofs.Truth.{and_left, and_right, or_either}
use Rattle.layout.specs.Layout.{events, links}
use Rattle.layout.specs.Chains.{among, next_link, first_link, links_into, all_of}
use Rattle.layout.proofs.ChainFacts.{among_at, follow_positive}
use Rattle.reading.specs.Readable.{within, Chained}

-- A member of a list passes a test that each passes.
all_of_among : (l : List ℕ) (p : ℕ → Bool) (x : ℕ) → all_of l p ≡ true → among x l ≡ true → p x ≡ true
unfolding all_of among
all_of_among [] p x a m = absurd (false≢true m)
all_of_among (y ∷ l) p x a m =
    elim (or_either (eqb x y) (among x l) m) [
      | inl e ↦ ap p (eqb-true x y e) ∙ and_left (p y) (all_of l p) a
      | inr i ↦ all_of_among l p x (and_right (p y) (all_of l p) a) i
    ]

pub link_in : {f : List ℕ} {b m k : ℕ} {l : List ℕ} → Chained f → 1 ≤ b → b ≤ events f → l ≡ links_into f b → k < length l → m ≡ get_or l k m → (1 ≤ m) × (m ≤ links f)
unfolding within
link_in {f} {b} {m} {k} {l} c low high all h e =
    let member = ap (among m) (sym all) ∙ ap (λ (x : ℕ). among x l) (e ∙ get_or_default_zero l k m h) ∙ among_at l k h in (
      follow_positive (links f) (next_link f) (suc (links f)) (first_link f (b - 1)) m member,
      leb-true m (links f) (all_of_among (links_into f b) (within f) m (c.chains b low high) member),
    )

-- The links into an event are yielded one after the other.
abbrev pub LinkSteps : List ℕ → Option ℕ → List ℕ → Type 0
LinkSteps s m t = YieldsFirst (λ l. l) s m t × IfSome m (λ m. 1 ≤ m)

pub links_yielded : {s l : List ℕ} → s ≡ l → YieldsList LinkSteps (λ m. m) s l
links_yielded {s} e =
    subst (YieldsList LinkSteps (λ m. m) s) e (YieldsList-from_shown LinkSteps (λ m. m) (λ l. l) (λ s t h. ap length h.0.0) (λ s m t h. h.0) s)

-- Of the links into b those that are not left pass the test p.
pub record Along (f : List ℕ) (p : ℕ → Bool) (b : ℕ) (left : List ℕ) : Type 0 where
  pub same : all_of (links_into f b) p ≡ all_of left p

pub along_start : {f : List ℕ} {p : ℕ → Bool} {b : ℕ} {left : List ℕ} → left ≡ links_into f b → Along f p b left
along_start {p = p} e = record { same = ap (λ (l : List ℕ). all_of l p) (sym e) }

module _ {f : List ℕ} {p : ℕ → Bool} {b : ℕ} {left : List ℕ} (w : Along f p b left) where
  pub along_done : left ≡ [] → all_of (links_into f b) p ≡ true
  unfolding all_of
  along_done e = w.same ∙ ap (λ (l : List ℕ). all_of l p) e

  module _ {m : ℕ} {more : List ℕ} (e : left ≡ m ∷ more) where
    pub along_fails : p m ≡ false → all_of (links_into f b) p ≡ false
    unfolding all_of
    along_fails t = w.same ∙ ap (λ (l : List ℕ). all_of l p) e ∙ ap (λ (c : Bool). c && all_of more p) t

    pub along_on : p m ≡ true → Along f p b more
    unfolding all_of
    along_on t = record { same = w.same ∙ ap (λ (l : List ℕ). all_of l p) e ∙ ap (λ (c : Bool). c && all_of more p) t }

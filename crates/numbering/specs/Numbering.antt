-- Numbers of events and threads, and what does not go by them (02, slip 7). `proofs/Proved.antt` proves it.
-- "Two recordings of one kind that load are twins if renumbering event records and threads turns one into the other, with the same set of
-- links, chained in any order. For all twins the verdict and the broken rule agree in every model, and the translations of source twins are
-- twins again. The ring and the allowed order may differ, since they go by number."
use Rattle.std.specs.Prelude.{◌≡◌, false, ◌&&◌, List, ℕ, ◌<◌, ◌≤◌, leb, ltb}
use Rattle.relation.specs.Rel.{Set}
use Rattle.layout.specs.Layout.{source, side, threads}
use Rattle.recording.specs.Causes.{refusal}
use Rattle.translation.specs.Contents.{Contents, contents}
use Rattle.translation.specs.Translation.{translation}
use Rattle.soundness.specs.Soundness.{imm_verdict, armv8_verdict, tso_verdict}

-- New numbers for those in s: `to` gives the new number, `back` the old one. Every other number stays.
pub record Renumbering (s : Set) : Type 0 where
  pub to : ℕ → ℕ
  pub back : ℕ → ℕ
  pub back_to : (x : ℕ) → back (to x) ≡ x
  pub to_back : (x : ℕ) → to (back x) ≡ x
  pub others : (x : ℕ) → s x ≡ false → to x ≡ x

-- The numbers of n event records. 0 and the initial writes are not among them, and stay.
unfoldable pub numbers_to : ℕ → Set
numbers_to n e = leb 1 e && leb e n

-- Renumbering event records and threads turns s into c. `Contents` is all that the records of a file say, with the links as a set.
pub record Renumbers (s c : Contents) : Type 0 where
  pub kind : c.kind ≡ s.kind
  pub events : c.events ≡ s.events
  pub locations : c.locations ≡ s.locations
  pub event : Renumbering (numbers_to s.events)
  pub thread : Renumbering (λ t. ltb t threads)
  -- The chains: an empty thread's head and the end of a chain are 0, and 0 stays.
  pub head : (t : ℕ) → t < threads → c.head (thread.to t) ≡ event.to (s.head t)
  pub next : (e : ℕ) → 1 ≤ e → e ≤ s.events → c.next (event.to e) ≡ event.to (s.next e)
  -- What an event's record says.
  pub class : (e : ℕ) → 1 ≤ e → e ≤ s.events → c.class (event.to e) ≡ s.class e
  pub mode : (e : ℕ) → 1 ≤ e → e ≤ s.events → c.mode (event.to e) ≡ s.mode e
  pub flag : (e : ℕ) → 1 ≤ e → e ≤ s.events → c.flag (event.to e) ≡ s.flag e
  pub location : (e : ℕ) → 1 ≤ e → e ≤ s.events → c.location (event.to e) ≡ s.location e
  pub low : (e : ℕ) → 1 ≤ e → e ≤ s.events → c.low (event.to e) ≡ s.low e
  pub high : (e : ℕ) → 1 ≤ e → e ≤ s.events → c.high (event.to e) ≡ s.high e
  -- The links.
  pub link : (t a b : ℕ) → c.link t (event.to a) (event.to b) ≡ s.link t a b

-- Two files that load, of one kind, and that differ in their numbering only.
pub record Renumbered (f g : List ℕ) : Type 0 where
  pub loads : refusal f ≡ 0
  pub loads_too : refusal g ≡ 0
  pub renumbers : Renumbers (contents f) (contents g)

-- Of the files that load it is an equivalence.
pub record Equivalence : Type 0 where
  pub reflexive : (f : List ℕ) → refusal f ≡ 0 → Renumbered f f
  pub symmetric : (f g : List ℕ) → Renumbered f g → Renumbered g f
  pub transitive : (f g h : List ℕ) → Renumbered f g → Renumbered g h → Renumbered f h

-- "For all twins the verdict and the broken rule agree in every model": 0 is allowed, else the number of the first broken rule.
pub record SameVerdicts (f g : List ℕ) : Type 0 where
  pub imm : imm_verdict f ≡ imm_verdict g
  pub armv8 : armv8_verdict f ≡ armv8_verdict g
  pub tso : tso_verdict f ≡ tso_verdict g

abbrev pub VerdictsAgree : Type 0
VerdictsAgree = (f g : List ℕ) → Renumbered f g → SameVerdicts f g

-- "the translations of source twins are twins again"
abbrev pub TranslationsAgree : Type 0
TranslationsAgree = (f g : List ℕ) → Renumbered f g → side f ≡ source → Renumbered (translation f) (translation g)

-- The rules of the three models (003, Def. 3.11 and Def. C.1; 01, "The IMM verdict" and "The ARMv8 verdict"; 02, slip 6):
-- as statements about a graph, and as tests over a list of events.
use Rattle.std.specs.Prelude.{Bool, true, false, not, ◌&&◌, ◌||◌, List, [], ◌∷◌, ◌⊎◌, ◌≢◌, ℕ, eqb}
use Rattle.relation.specs.Rel.{Set, Rel, some, diagonal}
use Rattle.models.specs.Recording.{R, W}
use Rattle.models.specs.Graph.{Graph, Base}
use Rattle.models.specs.Term.{Term, rmw, ◌∩◌, ◌⨾◌, opt, ◌⁺, frₑ, coₑ, ⟦◌⟧, eval}
use Rattle.models.specs.Imm.{hb, eco, ar}
use Rattle.models.specs.Armv8.{sc_per_loc, ob}
use Rattle.models.specs.Tso.{tso}

-- A model: rules 3 and 5. Rules 1, 2 and 4 are common to all.
pub record Model : Type 0 where
  -- Rule 3: no event is related to itself by `coherent`.
  pub coherent : Term
  -- Rule 5: `order` has no ring.
  pub order : Term

-- Rule 3: hb ; eco? is irreflexive. (No event reaches itself by hb, nor by hb then eco.) Rule 5: ar is acyclic.
abbrev pub IMM : Model
IMM = record { coherent = hb ⨾ opt eco; order = ar }

-- Rule 3: po-loc, rf, fr and co together are acyclic. Rule 5: the relation is acyclic.
abbrev pub per_location : Term → Model
per_location t = record { coherent = sc_per_loc ⁺; order = t }

-- Rule 5: ob is acyclic.
abbrev pub ARMv8 : Model
ARMv8 = per_location ob

-- "Rules 1, 2, 4 are the common ones, rule 3 is ARMv8's." Rule 5: tso is acyclic.
abbrev pub TSO : Model
TSO = per_location tso

-- Rule 4: rmw ∩ (fre ; coe) is empty.
abbrev pub broken_pair : Term
broken_pair = rmw ∩ (frₑ ⨾ coₑ)

-- Rules 1, 2 and 4 of a graph.
module _ {E : Type 0} (G : Graph E) where
  -- Every read has rf.
  abbrev pub Rule1 : Type 0
  Rule1 = (r : E) → G.set R r → (w : E) × G.rf w r

  -- co orders any two writes of a location.
  abbrev pub Rule2 : Type 0
  Rule2 = (a b : E) → G.set W a → G.set W b → G.loc a b → a ≢ b → G.co a b ⊎ G.co b a

  abbrev pub Rule4 : Type 0
  Rule4 = (a b : E) → ¬ ⟦ broken_pair ⟧ G a b

module _ {E : Type 0} (M : Model) (G : Graph E) where
  abbrev pub Rule3 : Type 0
  Rule3 = (a : E) → ¬ ⟦ M.coherent ⟧ G a a

  abbrev pub Rule5 : Type 0
  Rule5 = (a : E) → ¬ ⟦ M.order ⁺ ⟧ G a a

  -- Allowed: none of the five rules fails.
  pub record Allowed : Type 0 where
    pub rule1 : Rule1 G
    pub rule2 : Rule2 G
    pub rule3 : Rule3
    pub rule4 : Rule4 G
    pub rule5 : Rule5

  -- The verdict by its number: 0 allowed, else the first broken rule.
  pub data Verdict : ℕ → Type 0 where
    allowed : Allowed → Verdict 0
    broken1 : ¬ Rule1 G → Verdict 1
    broken2 : Rule1 G → ¬ Rule2 G → Verdict 2
    broken3 : Rule1 G → Rule2 G → ¬ Rule3 → Verdict 3
    broken4 : Rule1 G → Rule2 G → Rule3 → ¬ Rule4 G → Verdict 4
    broken5 : Rule1 G → Rule2 G → Rule3 → Rule4 G → ¬ Rule5 → Verdict 5

-- A test with its number.
abbrev pub Numbered : Type 0
Numbered = ℕ × Bool

-- The number of the first test that passes, and 0 where none does.
unfoldable pub first : List Numbered → ℕ
first [] = 0
first ((n, true) ∷ ts) = n
first ((n, false) ∷ ts) = first ts

-- r holds between two events of the list.
unfoldable pub anywhere : List ℕ → Rel → Bool
anywhere es r = some es (λ a. some es (r a))

-- The same as tests, over the list es. `proofs/Agree.antt` proves `Verdict M (graph r) (verdict es (base es r) M)`.
module _ (es : List ℕ) (B : Base) where
  -- The reads without rf.
  unfoldable pub unread : Set
  unread r = B.set R r && not (some es (λ w. B.rf w r))

  -- The pairs of writes of a location that are two and that co does not order.
  unfoldable pub unordered : Rel
  unordered a b = (B.set W a && B.set W b && B.loc a b) && not (eqb a b || B.co a b || B.co b a)

  -- What each rule forbids, by its number.
  unfoldable pub failures : Model → List Numbered
  failures M =
      (1, some es unread)
      ∷ (2, anywhere es unordered)
      ∷ (3, some es (diagonal (eval es M.coherent B)))
      ∷ (4, anywhere es (eval es broken_pair B))
      ∷ (5, some es (diagonal (eval es (M.order ⁺) B)))
      ∷ []

  -- The number of the first broken rule, and 0 where none is broken.
  unfoldable pub verdict : Model → ℕ
  verdict M = first (failures M)

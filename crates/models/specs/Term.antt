-- Relational terms: the notation of 003 (the openings of sections 2 and 3), with two meanings.
-- `⟦ t ⟧ G a b` is the statement that t relates a and b in the graph G; `eval es t B` is the test, computed over the list es.
-- `proofs/Agree.antt` proves that the two agree for the graph of a recording.
use Rattle.std.specs.Prelude.{List, ◌⊎◌, ℕ}
use Rattle.relation.specs.Rel.{Rel, either, both, minus, inverse, identity, image, compose, plus, optional}
use Rattle.models.specs.Steps.{Plus, On, Opt}
use Rattle.models.specs.Recording.{SetName}
use Rattle.models.specs.Graph.{Graph, Base}

infixl 60 ◌∪◌
infixl 65 ◌∩◌ ◌∖◌
infixr 70 ◌⨾◌
infix 80 ◌⁻¹ ◌⁺ ◌*
pub data Term : Type 0 where
  -- The relations of a graph.
  loc po rf co rmw «data» addr ctrl casdep : Term
  -- [s], the identity on a set; [codom(r)], the identity on what r reaches
  ⟨◌⟩ : SetName → Term
  ⟨codom◌⟩ : Term → Term
  -- r ; s, "r then s"
  ◌⨾◌ : Term → Term → Term
  ◌∪◌ ◌∩◌ ◌∖◌ : Term → Term → Term
  -- r?, "optionally r": the reflexive closure, on the events
  opt : Term → Term
  ◌⁻¹ ◌⁺ : Term → Term

-- Any number of steps, zero included.
abbrev pub ◌* : Term → Term
t * = opt (t ⁺)

-- po|loc: po between reads or writes of one location.
abbrev pub po_loc : Term
po_loc = po ∩ loc

-- External: not within po.
abbrev pub ext : Term → Term
ext t = t ∖ po

-- Internal: within po.
abbrev pub int : Term → Term
int t = t ∩ po

-- From a read to all writes co-after its source (003, section 3.1).
abbrev pub fr : Term
fr = rf ⁻¹ ⨾ co

abbrev pub rfₑ : Term
rfₑ = ext rf

abbrev pub rfᵢ : Term
rfᵢ = int rf

abbrev pub coₑ : Term
coₑ = ext co

abbrev pub coᵢ : Term
coᵢ = int co

abbrev pub frₑ : Term
frₑ = ext fr

-- What a term says of a graph.
abbrev pub ⟦◌⟧ : {E : Type 0} → Term → Graph E → E → E → Type 0
⟦◌⟧ loc G = G.loc
⟦◌⟧ po G = G.po
⟦◌⟧ rf G = G.rf
⟦◌⟧ co G = G.co
⟦◌⟧ rmw G = G.rmw
⟦◌⟧ «data» G = G.«data»
⟦◌⟧ addr G = G.addr
⟦◌⟧ ctrl G = G.ctrl
⟦◌⟧ casdep G = G.casdep
⟦◌⟧ ⟨ s ⟩ G = On (G.set s)
⟦◌⟧ {E} ⟨codom r ⟩ G = On (λ b. (a : E) × ⟦ r ⟧ G a b)
⟦◌⟧ {E} (r ⨾ s) G = λ a c. (b : E) × ⟦ r ⟧ G a b × ⟦ s ⟧ G b c
⟦◌⟧ (r ∪ s) G = λ a b. ⟦ r ⟧ G a b ⊎ ⟦ s ⟧ G a b
⟦◌⟧ (r ∩ s) G = λ a b. ⟦ r ⟧ G a b × ⟦ s ⟧ G a b
⟦◌⟧ (r ∖ s) G = λ a b. ⟦ r ⟧ G a b × ¬ ⟦ s ⟧ G a b
⟦◌⟧ (opt r) G = Opt G.E (⟦ r ⟧ G)
⟦◌⟧ (r ⁻¹) G = λ a b. ⟦ r ⟧ G b a
⟦◌⟧ (r ⁺) G = Plus (⟦ r ⟧ G)

-- The test of a term, by the operators of the relation layer.
unfoldable pub eval : List ℕ → Term → Base → Rel
eval es loc B = B.loc
eval es po B = B.po
eval es rf B = B.rf
eval es co B = B.co
eval es rmw B = B.rmw
eval es «data» B = B.«data»
eval es addr B = B.addr
eval es ctrl B = B.ctrl
eval es casdep B = B.casdep
eval es ⟨ s ⟩ B = identity (B.set s)
eval es ⟨codom r ⟩ B = identity (image es B.E (eval es r B))
eval es (r ⨾ s) B = compose es (eval es r B) (eval es s B)
eval es (r ∪ s) B = either (eval es r B) (eval es s B)
eval es (r ∩ s) B = both (eval es r B) (eval es s B)
eval es (r ∖ s) B = minus (eval es r B) (eval es s B)
eval es (opt r) B = optional B.E (eval es r B)
eval es (r ⁻¹) B = inverse (eval es r B)
eval es (r ⁺) B = plus es (eval es r B)

-- What the IMM verdict says and shows (01, "The IMM verdict" and "What is shown"), for the base of an execution graph.
use Rattle.std.specs.Prelude.{not, ◌&&◌, ℕ, suc, eqb}
use Rattle.relation.specs.Rel.{Rel, either, nodes}
use Rattle.models.specs.Steps.{count, stay, step}
use Rattle.models.specs.Graph.{Graph, Base}
use Rattle.models.specs.Term.{po, ◌∪◌, ⟦◌⟧, eval}
use Rattle.models.specs.Imm.{sw, eco}
use Rattle.models.specs.Rules.{IMM}
use Rattle.verdict.specs.Shown.{Shown}
use Rattle.verdict.specs.Verdict.{Verdict}

-- r between two events, not from an event to itself.
unfoldable pub apart : Rel → Rel
apart r a b = r a b && not (eqb a b)

-- The ring of rule 3. "Each step, last to first included, is .. po or sw under IMM rule 3,
unfoldable pub steps : Base → Rel
steps B = eval nodes (po ∪ sw) B

-- where the closing step, wherever the smallest-first turning puts it, may be eco if the ring has two or more events":
-- there it joins two events, as the events of a ring are distinct.
unfoldable pub closing : Base → Rel
closing B = either (steps B) (apart (eval nodes eco B))

-- v is the IMM verdict over B, and shows what 01 asks for.
abbrev pub Judged : Base → Verdict → Type 0
Judged B v = Shown (steps B) (closing B) IMM B v

-- "Under IMM rule 3 a ring counts by the rule's own steps" (02, slip 5): of hb ; eco? from an event back to itself, those of po or sw, and the one
-- of eco where it has one.
unfoldable pub own_steps : (G : Graph ℕ) (a : ℕ) → ⟦ IMM.coherent ⟧ G a a → ℕ
own_steps G a (b, hb, stay e) = count hb
own_steps G a (b, hb, step e) = suc (count hb)

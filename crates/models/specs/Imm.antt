-- IMM (003, sections 3.1 to 3.3), line by line in the paper's order and names. x_e and x_i are written xₑ and xᵢ, x? is `opt x`.
-- Below a relation of whose steps a ring is made are its clauses by name, in the same order.
use Rattle.std.specs.Prelude.{List, [], ◌∷◌, ◌++◌}
use Rattle.models.specs.Recording.{R, W, F, Racq, Rex, Wrel, Wstrong, Facq, Frel, Fsc}
use Rattle.models.specs.Term.{Term, po, rf, co, rmw, «data», addr, ctrl, casdep, ⟨◌⟩, ◌⨾◌, ◌∪◌, ◌∩◌, opt, ◌⁺, ◌*, po_loc, fr, rfₑ, rfᵢ, coₑ}
use Rattle.models.specs.Clause.{Clause, ◌≔◌}

-- Section 3.1: release sequence
abbrev pub rs : Term
rs = ⟨ W ⟩ ⨾ po_loc ⨾ ⟨ W ⟩ ∪ ⟨ W ⟩ ⨾ (opt po_loc ⨾ rf ⨾ rmw) *

-- release prefix
abbrev pub release : Term
release = (⟨ Wrel ⟩ ∪ ⟨ Frel ⟩ ⨾ po) ⨾ rs

-- synchronizes with
abbrev pub sw : Term
sw = release ⨾ (rfᵢ ∪ opt po_loc ⨾ rfₑ) ⨾ (⟨ Racq ⟩ ∪ po ⨾ ⟨ Facq ⟩)

-- happens-before
abbrev pub hb : Term
hb = (po ∪ sw) ⁺

abbrev pub step_clauses : List Clause
step_clauses = "po" ≔ po ∷ "sw" ≔ sw ∷ []

-- extended coherence order
abbrev pub eco : Term
eco = rf ∪ co ⨾ opt rf ∪ fr ⨾ opt rf

-- Each "rf?" is opened: without the step, and with it.
abbrev pub eco_clauses : List Clause
eco_clauses = "rf" ≔ rf ∷ "co" ≔ co ∷ "co;rf" ≔ co ⨾ rf ∷ "fr" ≔ fr ∷ "fr;rf" ≔ fr ⨾ rf ∷ []

-- Section 3.3: barrier order
abbrev pub bob : Term
bob = po ⨾ ⟨ Wrel ⟩ ∪ ⟨ Racq ⟩ ⨾ po ∪ po ⨾ ⟨ F ⟩ ∪ ⟨ F ⟩ ⨾ po ∪ ⟨ Wrel ⟩ ⨾ po_loc ⨾ ⟨ W ⟩

abbrev pub bob_clauses : List Clause
bob_clauses =
    "po;[Wrel]" ≔ po ⨾ ⟨ Wrel ⟩
    ∷ "[Racq];po" ≔ ⟨ Racq ⟩ ⨾ po
    ∷ "po;[F]" ≔ po ⨾ ⟨ F ⟩
    ∷ "[F];po" ≔ ⟨ F ⟩ ⨾ po
    ∷ "[Wrel];po-loc;[W]" ≔ ⟨ Wrel ⟩ ⨾ po_loc ⨾ ⟨ W ⟩
    ∷ []

-- syntactic dependencies
abbrev pub deps : Term
deps = «data» ∪ ctrl ∪ addr ⨾ opt po ∪ casdep ∪ ⟨ Rex ⟩ ⨾ po

-- preserved program order
abbrev pub ppo : Term
ppo = ⟨ R ⟩ ⨾ (deps ∪ rfᵢ) ⁺ ⨾ ⟨ W ⟩

abbrev pub detour : Term
detour = (coₑ ⨾ rfₑ) ∩ po

-- partial SC fence order
abbrev pub psc : Term
psc = ⟨ Fsc ⟩ ⨾ hb ⨾ eco ⨾ hb ⨾ ⟨ Fsc ⟩

-- acyclicity relation
abbrev pub ar : Term
ar = rfₑ ∪ bob ∪ ppo ∪ detour ∪ psc ∪ ⟨ Wstrong ⟩ ⨾ po ⨾ ⟨ W ⟩

abbrev pub ar_clauses : List Clause
ar_clauses =
    ("rfe" ≔ rfₑ ∷ [])
    ++ bob_clauses
    ++ ("ppo" ≔ ppo ∷ "detour" ≔ detour ∷ "psc" ≔ psc ∷ "[Wstrong];po;[W]" ≔ ⟨ Wstrong ⟩ ⨾ po ⨾ ⟨ W ⟩ ∷ [])

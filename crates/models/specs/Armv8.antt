-- ARMv8 (003, section 4.2 and appendix C), in the paper's order and names. R^Q is Racq, W^L is Wrel, and W^ex, the writes of rmw pairs, is codom(rmw).
-- Below a relation of whose steps a ring is made are its clauses by name, in the same order.
use Rattle.std.specs.Prelude.{List, [], ◌∷◌, ◌++◌}
use Rattle.models.specs.Recording.{R, W, Racq, Wrel, Fld, Fsy, Fisb}
use Rattle.models.specs.Term.{Term, po, rf, co, rmw, «data», addr, ctrl, ⟨◌⟩, ⟨codom◌⟩, ◌⨾◌, ◌∪◌, opt, po_loc, fr, rfₑ, rfᵢ, coₑ, coᵢ, frₑ}
use Rattle.models.specs.Clause.{Clause, ◌≔◌}

-- observed-by
abbrev pub obs : Term
obs = rfₑ ∪ frₑ ∪ coₑ

abbrev pub obs_clauses : List Clause
obs_clauses = "rfe" ≔ rfₑ ∷ "fre" ≔ frₑ ∷ "coe" ≔ coₑ ∷ []

-- dependency-ordered-before. The last part is 02's (slip 3) and ARM's: "ctrl, or addr then po, into an isb, then po to a read".
-- 003 leaves isb out (footnote 8).
abbrev pub dob : Term
dob = (addr ∪ «data») ⨾ opt rfᵢ ∪ (ctrl ∪ «data») ⨾ ⟨ W ⟩ ⨾ opt coᵢ ∪ addr ⨾ po ⨾ ⟨ W ⟩ ∪ (ctrl ∪ addr ⨾ po) ⨾ ⟨ Fisb ⟩ ⨾ po ⨾ ⟨ R ⟩

abbrev pub dob_clauses : List Clause
dob_clauses =
    "(addr|data);rfi?" ≔ (addr ∪ «data») ⨾ opt rfᵢ
    ∷ "(ctrl|data);[W];coi?" ≔ (ctrl ∪ «data») ⨾ ⟨ W ⟩ ⨾ opt coᵢ
    ∷ "addr;po;[W]" ≔ addr ⨾ po ⨾ ⟨ W ⟩
    ∷ "(ctrl|addr;po);[Fisb];po;[R]" ≔ (ctrl ∪ addr ⨾ po) ⨾ ⟨ Fisb ⟩ ⨾ po ⨾ ⟨ R ⟩
    ∷ []

-- atomic-ordered-before
abbrev pub aob : Term
aob = rmw ∪ ⟨codom rmw ⟩ ⨾ rfᵢ ⨾ ⟨ Racq ⟩

abbrev pub aob_clauses : List Clause
aob_clauses = "rmw" ≔ rmw ∷ "[codom(rmw)];rfi;[Racq]" ≔ ⟨codom rmw ⟩ ⨾ rfᵢ ⨾ ⟨ Racq ⟩ ∷ []

-- barrier-ordered-before. The last part is 01's and ARM's; appendix C shows only what the mapping needs (003, footnote 8).
abbrev pub bob : Term
bob = po ⨾ ⟨ Fsy ⟩ ⨾ po ∪ ⟨ R ⟩ ⨾ po ⨾ ⟨ Fld ⟩ ⨾ po ∪ ⟨ Racq ⟩ ⨾ po ∪ po ⨾ ⟨ Wrel ⟩ ⨾ opt coᵢ ∪ ⟨ Wrel ⟩ ⨾ po ⨾ ⟨ Racq ⟩

abbrev pub bob_clauses : List Clause
bob_clauses =
    "po;[Fsy];po" ≔ po ⨾ ⟨ Fsy ⟩ ⨾ po
    ∷ "[R];po;[Fld];po" ≔ ⟨ R ⟩ ⨾ po ⨾ ⟨ Fld ⟩ ⨾ po
    ∷ "[Racq];po" ≔ ⟨ Racq ⟩ ⨾ po
    ∷ "po;[Wrel];coi?" ≔ po ⨾ ⟨ Wrel ⟩ ⨾ opt coᵢ
    ∷ "[Wrel];po;[Racq]" ≔ ⟨ Wrel ⟩ ⨾ po ⨾ ⟨ Racq ⟩
    ∷ []

-- ordered-before
abbrev pub ob : Term
ob = obs ∪ dob ∪ aob ∪ bob

abbrev pub ob_clauses : List Clause
ob_clauses = obs_clauses ++ dob_clauses ++ aob_clauses ++ bob_clauses

-- the relation of rule 3, SC-per-location
abbrev pub sc_per_loc : Term
sc_per_loc = po_loc ∪ rf ∪ fr ∪ co

abbrev pub sc_per_loc_clauses : List Clause
sc_per_loc_clauses = "po-loc" ≔ po_loc ∷ "rf" ≔ rf ∷ "fr" ≔ fr ∷ "co" ≔ co ∷ []

-- What Def. 2.3 of 003 asks of an execution graph, IMM's and ARM's alike. Values, of which no rule speaks, are left out.
use mathlib.Core.Logic.{◌⊎◌}
use mathlib.Core.Path.{◌≡◌}
use Rattle.models.specs.Recording.{R, W, F, Racq, Rex, Wrel, Wstrong, Facq, Frel, Fsc, Fld, Fsy}
use Rattle.models.specs.Graph.{Graph}

pub record Formed {E : Type 0} (G : Graph E) : Type 0 where
  -- Every event is a read, a write or a fence, and only one of these; the finer sets lie in these.
  pub classes : {a : E} → G.E a → G.set R a ⊎ G.set W a ⊎ G.set F a
  pub read_event : {a : E} → G.set R a → G.E a
  pub write_event : {a : E} → G.set W a → G.E a
  pub fence_event : {a : E} → G.set F a → G.E a
  pub read_write : {a : E} → G.set R a → G.set W a → ⊥
  pub read_fence : {a : E} → G.set R a → G.set F a → ⊥
  pub write_fence : {a : E} → G.set W a → G.set F a → ⊥
  pub acquire_read_lem : {a : E} → G.set Racq a → G.set R a
  pub exclusive_read_lem : {a : E} → G.set Rex a → G.set R a
  pub release_write_lem : {a : E} → G.set Wrel a → G.set W a
  pub strong_write_lem : {a : E} → G.set Wstrong a → G.set W a
  pub acquire_fence_lem : {a : E} → G.set Facq a → G.set F a
  pub release_fence_lem : {a : E} → G.set Frel a → G.set F a
  pub sc_release : {a : E} → G.set Fsc a → G.set Frel a
  pub ld_fence : {a : E} → G.set Fld a → G.set F a
  pub sy_fence : {a : E} → G.set Fsy a → G.set F a
  -- (1) po is a strict order, in which what comes before an event that is not initial is comparable with it.
  pub po_source : {a b : E} → G.po a b → G.E a
  pub po_target : {a b : E} → G.po a b → G.E b
  pub po_trans : (a b c : E) → G.po a b → G.po b c → G.po a c
  pub po_irreflexive : {a : E} → G.po a a → ⊥
  pub po_comparable : {a b c : E} → G.po a c → G.po b c → ¬ G.Init b → G.po a b ⊎ (a ≡ b) ⊎ G.po b a
  -- (2) Reads or writes of one location.
  pub loc_sym : {a b : E} → G.loc a b → G.loc b a
  pub loc_trans : {a b c : E} → G.loc a b → G.loc b c → G.loc a c
  -- (3) rmw pairs
  pub rmw_exclusive : {a b : E} → G.rmw a b → G.set Rex a
  pub rmw_write : {a b : E} → G.rmw a b → G.set W b
  pub rmw_po : {a b : E} → G.rmw a b → G.po a b
  pub rmw_immediate : {a b c : E} → G.rmw a b → G.po a c → G.po c b → ⊥
  pub rmw_loc : {a b : E} → G.rmw a b → G.loc a b
  pub strong_pair_lem : {b : E} → G.set Wstrong b → (a : E) × G.rmw a b
  -- (4) to (7) dependencies
  pub data_read : {a b : E} → G.«data» a b → G.set R a
  pub data_write : {a b : E} → G.«data» a b → G.set W b
  pub data_po : {a b : E} → G.«data» a b → G.po a b
  pub addr_read : {a b : E} → G.addr a b → G.set R a
  pub addr_access : {a b : E} → G.addr a b → G.set R b ⊎ G.set W b
  pub addr_po : {a b : E} → G.addr a b → G.po a b
  pub ctrl_read : {a b : E} → G.ctrl a b → G.set R a
  pub ctrl_po : {a b : E} → G.ctrl a b → G.po a b
  pub ctrl_closed : {a b c : E} → G.ctrl a b → G.po b c → G.ctrl a c
  pub casdep_read : {a b : E} → G.casdep a b → G.set R a
  pub casdep_exclusive : {a b : E} → G.casdep a b → G.set Rex b
  pub casdep_po : {a b : E} → G.casdep a b → G.po a b
  -- (8) rf
  pub rf_write : {a b : E} → G.rf a b → G.set W a
  pub rf_read : {a b : E} → G.rf a b → G.set R b
  pub rf_loc : {a b : E} → G.rf a b → G.loc a b
  pub rf_functional : {a b c : E} → G.rf a c → G.rf b c → a ≡ b
  pub read_recorded : {a : E} → G.set R a → ¬ G.Init a
  -- (9) co is a strict order on the writes of each location.
  pub co_source : {a b : E} → G.co a b → G.set W a
  pub co_target : {a b : E} → G.co a b → G.set W b
  pub co_loc : {a b : E} → G.co a b → G.loc a b
  pub co_trans : {a b c : E} → G.co a b → G.co b c → G.co a c
  pub co_irreflexive : {a : E} → G.co a a → ⊥
  pub co_recorded : {a b : E} → G.co a b → ¬ G.Init b

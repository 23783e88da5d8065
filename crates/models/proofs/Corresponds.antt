-- When an ARM graph A corresponds to an IMM graph G (003, Def. 4.4), over one type of events.
use mathlib.Core.Logic.{◌⊎◌, ◌↔◌}
use Rattle.models.specs.Recording.{R, W, F, Racq, Rex, Wrel, Wstrong, Frel, Fld, Fsy}
use Rattle.models.specs.Graph.{Graph}

pub record Corresponds {E : Type 0} (G A : Graph E) : Type 0 where
  -- The events of G are events of A, with the labels of the mapping, in the same program order.
  pub read : {a : E} → G.set R a → A.set R a
  pub write : {a : E} → G.set W a → A.set W a
  pub acquire : {a : E} → G.set Racq a → A.set Racq a
  pub release : {a : E} → G.set Wrel a → A.set Wrel a
  pub loc : {a b : E} → G.loc a b → A.loc a b
  pub fence : {a : E} → G.set F a → A.set Fld a ⊎ A.set Fsy a
  pub release_fence_lem : {a : E} → G.set Frel a → A.set Fsy a
  pub po_to : {a b : E} → G.po a b → A.po a b
  pub po_from : {a b : E} → G.E a → G.E b → A.po a b → G.po a b
  -- New events are dmb ld fences directly after strong writes.
  pub strong : {a : E} → G.set Wstrong a → (d : E) × A.set Fld d × A.po a d × ((b : E) → G.po a b → A.po d b)
  pub rf : (a b : E) → G.rf a b ↔ A.rf a b
  pub co : (a b : E) → G.co a b ↔ A.co a b
  pub rmw : (a b : E) → G.rmw a b ↔ A.rmw a b
  pub «data» : (a b : E) → G.«data» a b ↔ A.«data» a b
  pub addr : (a b : E) → G.addr a b ↔ A.addr a b
  pub ctrl : {a b : E} → G.ctrl a b → A.ctrl a b
  -- [Rex] ; po ⊆ ctrl ∪ rmw ∩ data
  pub exclusive : {a b : E} → G.set Rex a → G.po a b → A.ctrl a b ⊎ (A.rmw a b × A.«data» a b)
  -- casdep ; po ⊆ ctrl
  pub casdep : {a b c : E} → G.casdep a b → G.po b c → A.ctrl a c

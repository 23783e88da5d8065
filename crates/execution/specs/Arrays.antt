-- The base that holds the execution of a recording: each row and grid is the set or relation that it is named by.
use Rattle.std.specs.Prelude.{◌≡◌, ℕ}
use Rattle.relation.specs.Bits.{bit, edge}
use Rattle.models.specs.Recording.{Recording, SetName, member, event}
use Rattle.models.specs.Graph as graph
use Rattle.verdict.specs.declared.base.Base.{Base}
use Rattle.verdict.specs.Base.{row_of}

pub record SetsOf (r : Recording ℕ) (b : Base) : Type 0 where
  pub events : bit b.events ≡ event r
  pub initial : bit b.initial ≡ r.initial
  pub named : (s : SetName) → bit (row_of b s) ≡ member r s

pub record RelationsOf (B : graph.Base) (b : Base) : Type 0 where
  pub loc : edge b.loc ≡ B.loc
  pub po : edge b.po ≡ B.po
  pub rf : edge b.rf ≡ B.rf
  pub co : edge b.co ≡ B.co
  pub rmw : edge b.rmw ≡ B.rmw
  pub «data» : edge b.«data» ≡ B.«data»
  pub addr : edge b.addr ≡ B.addr
  pub ctrl : edge b.ctrl ≡ B.ctrl
  pub casdep : edge b.casdep ≡ B.casdep

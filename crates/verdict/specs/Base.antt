-- The base of an execution graph that rows and grids hold.
use Rattle.std.specs.Prelude.{List, ℕ}
use Rattle.relation.specs.Bits.{bit, edge}
use Rattle.models.specs.Recording.{SetName, R, W, F, Racq, Rex, Wrel, Wstrong, Facq, Frel, Fsc, Fld, Fsy, Fisb}
use Rattle.models.specs.Graph as graph
use Rattle.verdict.specs.declared.base.Base.{Base}

-- The row of a set.
abbrev pub row_of : Base → SetName → List ℕ
row_of b R = b.reads
row_of b W = b.writes
row_of b F = b.fences
row_of b Racq = b.racq
row_of b Rex = b.rex
row_of b Wrel = b.wrel
row_of b Wstrong = b.wstrong
row_of b Facq = b.facq
row_of b Frel = b.frel
row_of b Fsc = b.fsc
row_of b Fld = b.fld
row_of b Fsy = b.fsy
row_of b Fisb = b.fisb

unfoldable pub base_of : Base → graph.Base
base_of b =
    record {
      E = bit b.events;
      Init = bit b.initial;
      set = λ s. bit (row_of b s);
      loc = edge b.loc;
      po = edge b.po;
      rf = edge b.rf;
      co = edge b.co;
      rmw = edge b.rmw;
      «data» = edge b.«data»;
      addr = edge b.addr;
      ctrl = edge b.ctrl;
      casdep = edge b.casdep;
    }

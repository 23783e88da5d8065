-- Execution graphs (003, Def. 2.3), and the execution graph of a recording (01, "The recording").
-- One record serves IMM's and ARM's graphs, and both ways to give sets and relations: Type-valued, for theorems,
-- and Bool-valued over a list of events, for computing.
use Rattle.std.specs.Prelude.{◌&&◌, ◌⊎◌, ℕ, T}
use mathlib.Core.List.{List, Memᴰ}
use Rattle.relation.specs.Rel.{Set, Rel, either, compose, plus, optional}
use Rattle.models.specs.Recording.{Recording, event, SetName, member, same_location, co_step}
use Rattle.models.specs.Steps.{Plus, Opt}

pub record Execution {ℓ} (Sets Relations : Type ℓ) : Type ℓ where
  -- All events; the initial writes; the sets by name.
  pub E : Sets
  pub Init : Sets
  pub set : SetName → Sets
  -- Reads or writes of one location.
  pub loc : Relations
  pub po : Relations
  pub rf : Relations
  pub co : Relations
  pub rmw : Relations
  pub «data» : Relations
  pub addr : Relations
  pub ctrl : Relations
  pub casdep : Relations

-- An execution graph on the events of E.
abbrev pub Graph : Type 0 → Type 1
Graph E = Execution (E → Type 0) (E → E → Type 0)

-- The same with tests in place of statements, on event numbers.
abbrev pub Base : Type 0
Base = Execution Set Rel

-- The execution graph of a recording. po: every initial write before every recorded event, and earlier to later in a thread.
-- co: what follows from the links and from initial-before-recorded. ctrl: a link, taken on to all po-later events.
abbrev pub graph : {E : Type 0} → Recording E → Graph E
graph {E} r =
    let po : E → E → Type 0 = λ a b. (T (r.initial a) × T (r.recorded b)) ⊎ Plus (λ x y. T (r.next x y)) a b in
    record {
      E = λ e. T (event r e);
      Init = λ e. T (r.initial e);
      set = λ s e. T (member r s e);
      loc = λ a b. T (same_location r a b);
      po = po;
      rf = λ a b. T (r.link 1 a b);
      co = Plus (λ a b. T (co_step r a b));
      rmw = λ a b. T (r.link 3 a b);
      «data» = λ a b. T (r.link 4 a b);
      addr = λ a b. T (r.link 5 a b);
      ctrl = λ a c. (b : E) × T (r.link 6 a b) × Opt (λ e. T (event r e)) po b c;
      casdep = λ a b. T (r.link 7 a b);
    }

-- The same, computed over the list es, which is to hold all events.
unfoldable pub base : List ℕ → Recording ℕ → Base
base es r =
    let po : Rel = either (λ a b. r.initial a && r.recorded b) (plus es r.next) in
    record {
      E = event r;
      Init = r.initial;
      set = member r;
      loc = same_location r;
      po = po;
      rf = r.link 1;
      co = plus es (co_step r);
      rmw = r.link 3;
      «data» = r.link 4;
      addr = r.link 5;
      ctrl = compose es (r.link 6) (optional (event r) po);
      casdep = r.link 7;
    }

-- What `base` presupposes: the list holds all events, and chains and links join events.
pub record Within (es : List ℕ) (r : Recording ℕ) : Type 0 where
  pub listed : (e : ℕ) → T (event r e) → Memᴰ e es
  pub next_source : (a b : ℕ) → T (r.next a b) → T (event r a)
  pub next_target : (a b : ℕ) → T (r.next a b) → T (event r b)
  pub link_source : (t a b : ℕ) → T (r.link t a b) → T (event r a)
  pub link_target : (t a b : ℕ) → T (r.link t a b) → T (event r b)

-- A recording that has what loading ensures passes the tests of its links: their conditions, one source per read, no ring of co.
use mathlib.Core.Path.{◌≡◌, sym, ap, subst, ◌∙◌}
use mathlib.Core.Bool.{true, false, not, ◌&&◌, false≢true}
use mathlib.Core.Logic.{inl, inr}
use Prim.Native.Nat.{ℕ, zero, suc, ◌<◌, ◌≤◌}
use native.Mathlib.Omega.{arith}
use borrow.Author.Tests.{eq-eqb, ne_eqb}
use lib.Dec.{T, eqb}
use Rattle.relation.specs.Rel.{some, diagonal, nodes}
use Rattle.relation.proofs.Meaning.{some_sound, mem_below}
use Rattle.models.specs.Recording.{Recording, event, of_class, co_step}
use Rattle.models.specs.Steps.{Plus, one, cons}
use Rattle.models.specs.Graph.{graph, base, Within}
use Rattle.models.specs.Loads.{Loads}
use Rattle.models.proofs.Tests.{plus_steps}
use Rattle.models.proofs.MemberLaws.{recorded_event, class_event, flag_class, access_event, step_intro, linked}
use Rattle.models.proofs.Agree.{agrees}
use Rattle.layout.specs.Layout.{Side}
use Rattle.recording.specs.Causes.{same_locations, rf_legal, co_legal, rmw_legal, from_read, data_legal, addr_legal, ctrl_legal, link_legal, one_source}
use Rattle.relation.proofs.Truth.{is_true, holds, is_false, and_left, and_right, and_both}

-- One source per read, where any two sources are one.
pub one_source_by_lem : (r : Recording ℕ) (b : ℕ) → ((a c : ℕ) → r.link 1 a b ≡ true → r.link 1 c b ≡ true → a ≡ c) → one_source r b ≡ true
unfolding one_source
one_source_by_lem r b once =
    ap not (is_false (some nodes (λ a. some nodes (λ c. (r.link 1 a b && r.link 1 c b) && not (eqb a c)))) (λ p.
    let (a, _, q) = some_sound nodes (λ a. some nodes (λ c. (r.link 1 a b && r.link 1 c b) && not (eqb a c))) p in
    let (c, _, two) = some_sound nodes (λ c. (r.link 1 a b && r.link 1 c b) && not (eqb a c)) q in
    false≢true (sym (ap not (eq-eqb a c (once a c (search (and_left, and_right)) (search (and_left, and_right))))) ∙ search and_right)))

-- Links have types 1 to 6, and rf joins equal values.
module _ (r : Recording ℕ) (l : Loads r) (small : (e : ℕ) → T (event r e) → e < 64)
    (types : (t a b : ℕ) → T (r.link t a b) → (1 ≤ t) × (t ≤ 6)) (values : (a b : ℕ) → T (r.link 1 a b) → r.value a ≡ r.value b) where
  po_events : (a b : ℕ) → (graph r).po a b → T (event r b)
  po_events a b (inl h) = recorded_event r b h.1
  po_events a b (inr h) = go h
    where
      go : {x : ℕ} → Plus (λ u v. T (r.next u v)) x b → T (event r b)
      go (one {a = u} k) = recorded_event r b (l.next_target u b k)
      go (cons k m) = go m

  -- Links join events.
  ends : (t a b : ℕ) → T (r.link t a b) → (1 ≤ t) × (t ≤ 6) → T (event r a) × T (event r b)
  ends zero a b h g = absurd (omega (arith, g))
  ends (suc zero) a b h g = (let w = l.rf a b h in (class_event r 2 a w.0, class_event r 1 b w.1))
  ends (suc (suc zero)) a b h g = (let w = l.co a b h in (class_event r 2 a w.0, class_event r 2 b w.1))
  ends (suc (suc (suc zero))) a b h g = (let w = l.rmw a b h in (class_event r 1 a (flag_class r 1 a w.0), class_event r 2 b w.1))
  ends (suc (suc (suc (suc zero)))) a b h g = (let w = l.«data» a b h in (class_event r 1 a w.0, class_event r 2 b w.1))
  ends (suc (suc (suc (suc (suc zero))))) a b h g = (let w = l.addr a b h in (class_event r 1 a w.0, access_event r b w.1))
  ends (suc (suc (suc (suc (suc (suc zero)))))) a b h g = (let w = l.ctrl a b h in (class_event r 1 a w.0, po_events a b w.1))
  ends (suc (suc (suc (suc (suc (suc (suc t))))))) a b h g = absurd (omega (arith, g))

  pub within : Within nodes r
  within = record {
    listed = λ e h. mem_below 64 e (small e h);
    next_source = λ a b h. recorded_event r a (l.next_source a b h);
    next_target = λ a b h. recorded_event r b (l.next_target a b h);
    link_source = λ t a b h. (ends t a b h (types t a b h)).0;
    link_target = λ t a b h. (ends t a b h (types t a b h)).1;
  }

  -- Each link meets its conditions.
  from_read_lem : (a b : ℕ) → T (of_class r 1 a) → (graph r).po a b → from_read r a b ≡ true
  unfolding from_read
  from_read_lem a b h p = (let before = (agrees nodes r within).po.from a b p in search (and_both, is_true))

  rf_legal_lem : (a b : ℕ) → T (r.link 1 a b) → rf_legal r a b ≡ true
  unfolding rf_legal same_locations
  rf_legal_lem a b h = (let w = l.rf a b h in let same = values a b h in search (and_both, is_true, eq-eqb))

  co_legal_lem : (a b : ℕ) → T (r.link 2 a b) → co_legal r a b ≡ true
  unfolding co_legal same_locations
  co_legal_lem a b h =
      let w = l.co a b h in
      let other = ap not (ne_eqb a b (λ e. l.co_acyclic a (one (step_intro r a a (linked (subst (λ x. T (r.link 2 a x)) (sym e) h)))))) in
      search (and_both, is_true, eq-eqb)

  rmw_legal_lem : (a b : ℕ) → T (r.link 3 a b) → rmw_legal r a b ≡ true
  unfolding rmw_legal same_locations
  rmw_legal_lem a b h = (let w = l.rmw a b h in search (and_both, is_true, eq-eqb))

  legal_by : (s : Side) (t a b : ℕ) → T (r.link t a b) → (1 ≤ t) × (t ≤ 6) → link_legal r s t a b ≡ true
  unfolding link_legal data_legal addr_legal ctrl_legal
  legal_by s zero a b h g = absurd (omega (arith, g))
  legal_by s (suc zero) a b h g = rf_legal_lem a b h
  legal_by s (suc (suc zero)) a b h g = co_legal_lem a b h
  legal_by s (suc (suc (suc zero))) a b h g = rmw_legal_lem a b h
  legal_by s (suc (suc (suc (suc zero)))) a b h g = (let w = l.«data» a b h in search (and_both, from_read_lem, is_true))
  legal_by s (suc (suc (suc (suc (suc zero))))) a b h g = (let w = l.addr a b h in search (and_both, from_read_lem, is_true))
  legal_by s (suc (suc (suc (suc (suc (suc zero)))))) a b h g = (let w = l.ctrl a b h in from_read_lem a b w.0 w.1)
  legal_by s (suc (suc (suc (suc (suc (suc (suc t))))))) a b h g = absurd (omega (arith, g))

  pub legal_link : (s : Side) (t a b : ℕ) → r.link t a b ≡ true → link_legal r s t a b ≡ true
  legal_link s t a b e = (let h = holds (r.link t a b) e in legal_by s t a b h (types t a b h))

  -- One source per read.
  pub one_source_lem : (b : ℕ) → one_source r b ≡ true
  one_source_lem b = one_source_by_lem r b (λ a c p q. l.rf_once a c b (holds (r.link 1 a b) p) (holds (r.link 1 c b) q))

  -- co does not lead back to its start.
  pub no_co_ring : some nodes (diagonal (base nodes r).co) ≡ false
  unfolding base diagonal
  no_co_ring =
      is_false (some nodes (diagonal (base nodes r).co)) (λ p.
      let w = some_sound nodes (diagonal (base nodes r).co) p in
      l.co_acyclic w.0 (plus_steps nodes (co_step r) w.0 w.0 (holds _ w.2)))

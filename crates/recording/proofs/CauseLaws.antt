-- Laws of the causes of refusal.
use mathlib.Core.Path.{◌≡◌, refl, sym, ap, subst, ◌∙◌}
use mathlib.Core.Bool.{Bool, true, false, not, ◌&&◌, beq, false≢true}
use mathlib.Core.List.{List, [], ◌∷◌, ◌++◌}
use Prim.Native.Nat.{ℕ, zero, suc, ◌-◌, ◌<◌, ◌≤◌}
use native.Mathlib.Omega.{arith}
use native.Mathlib.Decide.{dec_lt}
use borrow.Author.Tests.{eq-eqb, ne_eqb, lt-ltb, ltb-false, le-leb, lt-leb, not-false}
use lib.Dec.{eqb, leb, ltb}
use lib.ListN.{length}
use Rattle.relation.specs.Rel.{Set, inverse, some, count, nodes}
use Rattle.relation.proofs.Meaning.{some_sound, some_complete, mem_below, below_mem}
use Rattle.models.specs.Recording.{Recording, event, of_class, flagged}
use Rattle.models.specs.Graph.{base}
use Rattle.models.specs.Rules.{Numbered, first}
use Rattle.models.proofs.FirstLaws.{positive, test_of, first_stops, first_goes_on, first_front, first_fails}
use Rattle.layout.specs.Layout.{Side, side, events, locations, links, link_byte, most_events, most_links, full_length, Sized}
use Rattle.layout.specs.Chains.{fresh, once_each, next_link, first_link, links_into, threads_sound, links_sound, all_of}
use Rattle.layout.specs.Decode.{decode}
use Rattle.reading.specs.Readable.{within, readable, Chained, Readable}
use Rattle.recording.specs.Causes.{rf_legal, co_legal, rmw_legal, from_read, data_legal, addr_legal, ctrl_legal, casdep_legal, link_legal, link_sound, one_source, links_sound_at, header_over, over_limit, bad_threads, bad_chains, bad_link, header_causes, record_causes, link_causes, causes, refusal}
use Rattle.recording.specs.Load.{header_of, Loads, LoadsAs, other_side, cause_for}
use Rattle.recording.specs.declared.Header.{Header}
use Rattle.std.specs.Prelude.{Result, Ok, Err, IfOk, IsErrAnd}
use Rattle.refusal.specs.declared.Refusal.{Refusal}
use Rattle.refusal.specs.Refusal.{number}
use Rattle.refusal.proofs.RefusalLaws.{number_not_0, ok_number, err_number, err_not_0, raised}
use Rattle.relation.proofs.Counting.{count_lt, count_injective, select}
use Rattle.relation.proofs.Truth.{is_false, and_left, and_right, and_both, or_none}
use Rattle.layout.proofs.FieldLaws.{event_small, class_event, most_events_48}
use Rattle.layout.proofs.ChainLaws.{each_at}
use Rattle.layout.proofs.ChainFacts.{fresh_cons, chain_fresh}

-- One rf source: at most one member of the row.
pub one_source_of : (r : Recording ℕ) (b : ℕ) (s : Set) → s ≡ inverse (r.link 1) b → leb (count 64 s) 1 ≡ one_source r b
unfolding one_source inverse
one_source_of r b s e = go (dec_lt 1 (count 64 s))
  where
    two : Set
    two a = some nodes (λ c. (r.link 1 a b && r.link 1 c b) && not (eqb a c))

    source : (a : ℕ) → r.link 1 a b ≡ true → s a ≡ true
    source a p = ap (λ (f : Set). f a) e ∙ p

    sourced : (a : ℕ) → s a ≡ true → r.link 1 a b ≡ true
    sourced a p = sym (ap (λ (f : Set). f a) e) ∙ p

    one : count 64 s ≤ 1 → some nodes two ≡ true → ⊥
    one h p =
        let (a, m, q) = some_sound nodes two p in
        let (c, k, w) = some_sound nodes (λ y. (r.link 1 a b && r.link 1 y b) && not (eqb a y)) q in
        let both = and_left (r.link 1 a b && r.link 1 c b) (not (eqb a c)) w in
        let differ = and_right (r.link 1 a b && r.link 1 c b) (not (eqb a c)) w in
        let first = source a (and_left (r.link 1 a b) (r.link 1 c b) both) in
        let second = source c (and_right (r.link 1 a b) (r.link 1 c b) both) in
        let same : a ≡ c = count_injective a c s first second (omega (arith, count_lt a 64 s (below_mem 64 a m) first, count_lt c 64 s (below_mem 64 c k) second)) in
        false≢true (sym (ap not (eq-eqb a c same)) ∙ differ)

    more : 1 < count 64 s → some nodes two ≡ true
    more h =
        let x = select 64 s 0 (omega arith) in
        let y = select 64 s 1 h in
        let other : x.at ≡ y.at → ⊥ = λ i. omega (arith, x.place, y.place, ap (λ (k : ℕ). count k s) i) in
        some_complete nodes two x.at (mem_below 64 x.at x.below)
        (some_complete nodes (λ c. (r.link 1 x.at b && r.link 1 c b) && not (eqb x.at c)) y.at (mem_below 64 y.at y.below)
        (and_both (r.link 1 x.at b && r.link 1 y.at b) (not (eqb x.at y.at))
        (and_both (r.link 1 x.at b) (r.link 1 y.at b) (sourced x.at x.member) (sourced y.at y.member))
        (ap not (ne_eqb x.at y.at other))))

    go : Dec (1 < count 64 s) → leb (count 64 s) 1 ≡ not (some nodes two)
    go (yes h) = lt-leb (count 64 s) 1 h ∙ ap not (sym (more h))
    go (no h) = le-leb (count 64 s) 1 (omega (arith, h)) ∙ ap not (sym (is_false (some nodes two) (one (omega (arith, h)))))

-- A link's source is an event.
from_read_event : (r : Recording ℕ) (a b : ℕ) → from_read r a b ≡ true → event r a ≡ true
unfolding from_read
from_read_event r a b p = class_event r 1 a (and_left (of_class r 1 a) ((base nodes r).po a b) p)

pub source_event : (r : Recording ℕ) (s : Side) (t a b : ℕ) → link_legal r s t a b ≡ true → event r a ≡ true
unfolding link_legal rf_legal co_legal rmw_legal data_legal addr_legal ctrl_legal casdep_legal flagged
source_event r s zero a b p = absurd (false≢true p)
source_event r s (suc zero) a b p = class_event r 2 a (and_left _ _ (and_left (of_class r 2 a && of_class r 1 b) _ p))
source_event r s (suc (suc zero)) a b p = class_event r 2 a (and_left _ _ (and_left (of_class r 2 a && of_class r 2 b) _ p))
source_event r s (suc (suc (suc zero))) a b p = class_event r 1 a (and_left (of_class r 1 a) _ (and_left (flagged r 1 a) _ (and_left (flagged r 1 a && of_class r 2 b) _ p)))
source_event r s (suc (suc (suc (suc zero)))) a b p = from_read_event r a b (and_left (from_read r a b) _ p)
source_event r s (suc (suc (suc (suc (suc zero))))) a b p = from_read_event r a b (and_left (from_read r a b) _ p)
source_event r s (suc (suc (suc (suc (suc (suc zero)))))) a b p = from_read_event r a b p
source_event r s (suc (suc (suc (suc (suc (suc (suc zero))))))) a b p = from_read_event r a b (and_left (from_read r a b) _ p)
source_event r s (suc (suc (suc (suc (suc (suc (suc (suc n)))))))) a b p = absurd (false≢true p)

pub all_of_both : (l : List ℕ) (p q r : ℕ → Bool) → ((m : ℕ) → p m ≡ true → q m ≡ true → r m ≡ true) → all_of l p ≡ true → all_of l q ≡ true → all_of l r ≡ true
unfolding all_of
all_of_both [] p q r f a b = refl
all_of_both (x ∷ l) p q r f a b =
    and_both (r x) (all_of l r) (f x (and_left (p x) _ a) (and_left (q x) _ b)) (all_of_both l p q r f (and_right (p x) _ a) (and_right (q x) _ b))

pub sound_readable : (f : List ℕ) (b m : ℕ) → Sized f → within f m ≡ true → link_sound f b m ≡ true → readable f m ≡ true
unfolding readable link_sound
sound_readable f b m s w p =
    and_both (within f m) (ltb (link_byte f m 2) 64) w
    (lt-ltb (link_byte f m 2) 64
    (event_small f (link_byte f m 2) s
    (source_event (decode f) (side f) (link_byte f m 1) (link_byte f m 2) b
    (and_left (link_legal (decode f) (side f) (link_byte f m 1) (link_byte f m 2) b) (eqb (link_byte f m 3) 0) p))))

-- Sound chains stay within their limit.
all_within : (limit : ℕ) (seen l : List ℕ) → fresh limit seen l ≡ true → all_of l (λ m. leb m limit) ≡ true
unfolding all_of
all_within limit seen [] p = refl
all_within limit seen (x ∷ l) p =
    let w = fresh_cons limit seen x l p in
    and_both (leb x limit) _ (le-leb x limit w.within) (all_within limit (x ∷ seen) l w.rest)

pub chained : (f : List ℕ) → Sized f → bad_chains f ≡ false → Chained f
unfolding bad_chains once_each within
chained f s p =
    let q = not-false (links_sound f) p in
    record {
      sized = s;
      chains = λ b h g. let (seen, w) = chain_fresh (links f) (next_link f) (first_link f) (events f) (b - 1) (omega arith) (and_left _ _ q) in all_within (links f) seen _ w;
    }

-- What the causes of the records leave.
module _ (f : List ℕ) (s : Sized f) (p : first (record_causes f) ≡ 0) where
  pub threads_of_records : threads_sound f ≡ true
  unfolding record_causes positive test_of bad_threads
  threads_of_records = not-false _ (first_fails (record_causes f) refl p 6)

  pub chained_of_records : Chained f
  unfolding record_causes positive test_of
  chained_of_records = chained f s (first_fails (record_causes f) refl p 7)

pub into_readable : (f : List ℕ) (b : ℕ) → Chained f → 1 ≤ b → b ≤ events f → all_of (links_into f b) (link_sound f b) ≡ true → all_of (links_into f b) (readable f) ≡ true
into_readable f b c h g =
    all_of_both (links_into f b) (within f) (link_sound f b) (readable f) (λ m w q. sound_readable f b m c.sized w q) (c.chains b h g)

pub readable_of : (f : List ℕ) → Chained f → bad_link f ≡ false → Readable f
unfolding bad_link links_sound_at
readable_of f c p =
    record {
      sized = c.sized;
      chains = λ b h g. into_readable f b c h g
          (and_left (all_of (links_into f b) (link_sound f b)) _ (each_at (events f) (links_sound_at f) (not-false _ p) b h g));
    }

-- What cause 3 leaves.
pub limits : (f : List ℕ) → over_limit f ≡ false → (events f ≤ most_events (side f)) × (locations f ≤ 8) × (links f ≤ most_links (side f))
unfolding over_limit header_over
limits f e =
    let p = or_none (ltb (most_events (side f)) (events f)) _ e in
    let q = or_none (ltb 8 (locations f)) (ltb (most_links (side f)) (links f)) p.1 in
    (ltb-false _ _ p.0, ltb-false _ _ q.0, ltb-false _ _ q.1)

pub sized_of : (f : List ℕ) → over_limit f ≡ false → length f ≡ full_length f → Sized f
sized_of f e long =
    let w = limits f e in
    record { long = long; most_events = omega (arith, w.0, most_events_48 (side f)); most_locations = w.1 }

-- What loading answers, by the causes of one part after the other. Where a part refuses, loading refuses with its cause.
module _ (f : List ℕ) where
  refused : (e : Refusal) (ts us : List Numbered) → number e ≡ first ts → first (ts ++ us) ≡ refusal f → Loads f (Err e)
  refused e ts us p q = record { refused = first_stops ts us (number e) p (number_not_0 e) ∙ q; loaded = tt }

  pub refused_header : {e : Refusal} → number e ≡ first (header_causes f) → Loads f (Err e)
  unfolding refusal causes
  refused_header {e} p = refused e (header_causes f) (record_causes f ++ link_causes f) p refl

  module _ (header : 0 ≡ first (header_causes f)) where
    to_records : first (record_causes f ++ link_causes f) ≡ refusal f
    unfolding refusal causes header_causes positive
    to_records = sym (first_goes_on (header_causes f) _ refl (sym header))

    pub refused_records : {e : Refusal} → number e ≡ first (record_causes f) → Loads f (Err e)
    refused_records {e} p = refused e (record_causes f) (link_causes f) p to_records

    module _ (records : 0 ≡ first (record_causes f)) where
      to_links : first (link_causes f) ≡ refusal f
      unfolding record_causes positive
      to_links = sym (first_goes_on (record_causes f) _ refl (sym records)) ∙ to_records

      pub refused_links : {e : Refusal} → number e ≡ first (link_causes f) → Loads f (Err e)
      refused_links p = record { refused = p ∙ to_links; loaded = tt }

      pub loaded_of : {h : Header} → 0 ≡ first (link_causes f) → h ≡ header_of f → Loads f (Ok h)
      loaded_of p e = record { refused = p ∙ to_links; loaded = e }

-- A refusal that `?` passes up.
pub loads_raised : {f : List ℕ} {r : Result Header Refusal} {e : Refusal} → IsErrAnd r (λ x. x ≡ e) → Loads f (Err e) → Loads f r
loads_raised {f} {r} is w = subst (Loads f) (sym (raised r is)) w

pub sized_8 : (f : List ℕ) → Sized f → 8 ≤ length f
sized_8 f s = omega (arith, s.long)

-- What an answer says of the file: one that loads has no cause of refusal and the file's header.
module _ {f : List ℕ} {r : Result Header Refusal} (w : Loads f r) where
  pub loaded_answer : {h : Header} → r ≡ Ok h → (refusal f ≡ 0) × (h ≡ header_of f)
  loaded_answer {h} p = (ok_number w.refused p, subst (λ (x : Result Header Refusal). IfOk x (λ k. k ≡ header_of f)) p w.loaded)

  pub loaded_side : {h : Header} {s : Side} → r ≡ Ok h → h.source ≡ s → LoadsAs s f
  loaded_side p e =
      let (u, v) = loaded_answer p in
      record { loads = u; side_is = sym (ap (λ (x : Header). x.source) v) ∙ e }

  pub refused_answer : {e : Refusal} → r ≡ Err e → (refusal f ≡ number e) × (refusal f ≡ 0 → ⊥)
  refused_answer p = (err_number w.refused p, err_not_0 w.refused p)

-- A call goes on with a file that loads and is of its side, and with no other.
pub cause_late : (s : Side) (f : List ℕ) → refusal f ≡ 0 → cause_for s f ≡ first ((11, other_side s f) ∷ [])
unfolding cause_for refusal causes header_causes record_causes link_causes positive
cause_late s f e = first_goes_on (causes f) _ refl e

pub cause_early : (s : Side) (n : ℕ) (f : List ℕ) → n ≡ refusal f → (n ≡ 0 → ⊥) → n ≡ cause_for s f
unfolding cause_for refusal
cause_early s n f = first_stops (causes f) _ n

pub cause_refused : (s : Side) {f : List ℕ} {e : Refusal} → Loads f (Err e) → number e ≡ cause_for s f
cause_refused s {f} {e} w = cause_early s (number e) f w.refused (number_not_0 e)

-- By the code's test whether the side is another.
pub cause_side : (s : Side) {f : List ℕ} {h : Header} (b : Bool) → Loads f (Ok h) → not (beq h.source s) ≡ b → first ((11, b) ∷ []) ≡ cause_for s f
unfolding other_side
cause_side s {f} b w e =
    ap (λ (x : Bool). first ((11, x) ∷ [])) (sym e ∙ ap (λ (x : Header). not (beq x.source s)) w.loaded) ∙ sym (cause_late s f (sym w.refused))

pub cause_own : (s : Side) (f : List ℕ) → LoadsAs s f → cause_for s f ≡ 0
unfolding other_side first
cause_own s f w = cause_late s f w.loads ∙ rw (ap not (same s (side f) w.side_is))
  where
    same : (x y : Bool) → y ≡ x → beq y x ≡ true
    same true y e = ap (λ (b : Bool). beq b true) e
    same false y e = ap (λ (b : Bool). beq b false) e

pub cause_goes_on : (s : Side) (f : List ℕ) → cause_for s f ≡ 0 → LoadsAs s f
unfolding cause_for refusal other_side first
cause_goes_on s f p =
    let loads : refusal f ≡ 0 = first_front (causes f) _ p in
    record { loads = loads; side_is = by_test (side f) s (sym (cause_late s f loads) ∙ p) }
  where
    by_test : (x y : Bool) → first ((11, not (beq x y)) ∷ []) ≡ 0 → x ≡ y
    by_test true true e = refl
    by_test true false e = absurd (omega (arith, e))
    by_test false true e = absurd (omega (arith, e))
    by_test false false e = refl

-- What loading ensures (`Loads` of models): a file to which no cause of refusal applies holds a recording with these properties.
use mathlib.Core.Path.{◌≡◌, refl, sym, ap, subst, ◌∙◌}
use mathlib.Core.Bool.{Bool, true, false, not, ◌&&◌, ◌||◌, false≢true}
use mathlib.Core.List.{List, [], ◌∷◌}
use mathlib.Core.Logic.{◌⊎◌, inl, inr}
use Prim.Native.Nat.{ℕ, zero, suc, ◌<◌, ◌≤◌}
use native.Mathlib.Omega.{arith}
use native.Mathlib.Decide.{ℕ_discrete}
use borrow.Author.Tests.{eqb-true, ne_eqb, not-true, not-false}
use lib.Dec.{T, eqb}
use lib.ListN.{length}
use Rattle.relation.specs.Rel.{Set, Rel, some, inverse, diagonal, plus, nodes}
use Rattle.relation.proofs.Meaning.{some_sound, some_complete, mem_below}
use Rattle.models.specs.Steps.{Plus, one, cons}
use Rattle.models.specs.Recording.{event, of_class, flagged, access, co_step}
use Rattle.models.specs.Graph.{graph, base, Within}
use Rattle.models.specs.Loads.{Loads}
use Rattle.models.proofs.Tests.{plus_one, plus_join, plus_steps}
use Rattle.layout.specs.Layout.{Side, side, events}
use Rattle.layout.specs.Chains.{among, fresh, once_each, next_event, head, links_into, all_of, thread, threads_up_to}
use Rattle.layout.specs.Decode.{is_recorded, is_initial, decode, field_or}
use Rattle.reading.specs.Sets.{Located}
use Rattle.reading.specs.Readable.{Readable}
use Rattle.recording.specs.Causes.{legal as legalNumbers, event_legal, rf_legal, co_legal, rmw_legal, from_read, data_legal, addr_legal, ctrl_legal, casdep_legal, link_legal, one_source, same_locations, co_ring, paired_at, unpaired, link_sound, refusal}
use Rattle.relation.proofs.Truth.{is_true, holds, and_left, and_right, and_both, or_left, or_right, T_or}
use Rattle.layout.proofs.FieldLaws.{recorded_bounds, initial_bounds, field_initial, event_small}
use Rattle.layout.proofs.ChainLaws.{each_at}
use Rattle.recording.proofs.LegalLaws.{accesses_located}
use Rattle.recording.proofs.CauseLaws.{source_event, chained, readable_of}
use Rattle.layout.proofs.ChainFacts.{Ended, end, step, among_there, among_cases, ended_first, ended_after, chain_ended, met_cases, one_chain}
use Rattle.recording.proofs.Accepted.{cause, passes, sized, legal_events, legal_event, threads_sound_lem, links_legal, legal_link}

-- The chain from x is one list.
ended_unique : (limit : ℕ) (next : ℕ → ℕ) {x : ℕ} {l k : List ℕ} → Ended limit next x l → Ended limit next x k → l ≡ k
ended_unique limit next end end = refl
ended_unique limit next end (step p q w) = absurd (omega arith)
ended_unique limit next (step p q w) end = absurd (omega arith)
ended_unique limit next (step {x = x} p q w) (step a b v) = ap (◌∷◌ x) (ended_unique limit next w v)

-- A number of a chain has a chain of its own, which is no longer.
ended_from : (limit : ℕ) (next : ℕ → ℕ) (a : ℕ) {x : ℕ} {l : List ℕ} → Ended limit next x l → among a l ≡ true
    → (k : List ℕ) × Ended limit next a k × (length k ≤ length l)
unfolding among
ended_from limit next a end m = absurd (false≢true m)
ended_from limit next a (step {x = x} {l = l} p q w) m =
    elim (among_cases a x l m) [
      | inl e ↦ (x ∷ l, subst (λ (y : ℕ). Ended limit next y (x ∷ l)) (sym e) (step p q w), omega arith)
      | inr i ↦ let v = ended_from limit next a w i in (v.0, v.1, omega (arith, v.2))
    ]

-- What follows a number of a chain is on the chain, or 0.
next_among : (limit : ℕ) (next : ℕ → ℕ) (a b : ℕ) {x : ℕ} {l : List ℕ} → Ended limit next x l → among a l ≡ true → next a ≡ b → 1 ≤ b → among b l ≡ true
unfolding among
next_among limit next a b end m e h = absurd (false≢true m)
next_among limit next a b (step {x = x} {l = l} p q w) m e h =
    elim (among_cases a x l m) [
      | inr i ↦ among_there b x l (next_among limit next a b w i e h)
      | inl i ↦ let n : next x ≡ b = ap next (sym i) ∙ e in
          elim (ended_first limit next w) [ inl z ↦ absurd (omega arith) | inr k ↦ among_there b x l (subst (λ (y : ℕ). among y l ≡ true) n k) ]
    ]

-- On one chain two numbers with equally long chains are one.
same_depth : (limit : ℕ) (next : ℕ → ℕ) (a b : ℕ) {x : ℕ} {l : List ℕ} → Ended limit next x l → among a l ≡ true → among b l ≡ true
    → {j k : List ℕ} → Ended limit next a j → Ended limit next b k → length j ≡ length k → a ≡ b
unfolding among
same_depth limit next a b end m n u v e = absurd (false≢true m)
same_depth limit next a b (step {x = x} {l = l} p q w) m n {j} {k} u v e =
    elim (among_cases a x l m) [
      | inl i ↦ elim (among_cases b x l n) [
        | inl o ↦ i ∙ sym o
        | inr o ↦ absurd (shorter b o v (whole a i u) e)
      ]
      | inr i ↦ elim (among_cases b x l n) [
        | inl o ↦ absurd (shorter a i u (whole b o v) (sym e))
        | inr o ↦ same_depth limit next a b w i o u v e
      ]
    ]
  where
    whole : (c : ℕ) → c ≡ x → {z : List ℕ} → Ended limit next c z → z ≡ x ∷ l
    whole c i {z} s = ended_unique limit next (subst (λ (y : ℕ). Ended limit next y z) i s) (step p q w)

    shorter : (c : ℕ) → among c l ≡ true → {y z : List ℕ} → Ended limit next c z → y ≡ x ∷ l → length y ≡ length z → ⊥
    shorter c i {y} {z} s f g =
        let (r, t, h) = ended_from limit next c w i in
        let d = ended_unique limit next s t in
        omega (arith, h, ap length d, ap length f, g)

-- The first step of several.
begins : {R : ℕ → ℕ → Type 0} {x y : ℕ} → Plus R x y → (z : ℕ) × R x z
begins (one {b = z} h) = (z, h)
begins (cons {b = z} h p) = (z, h)

-- Two tests and two others, all of which hold.
four : (a b c d : Bool) → (a && b) && (c && d) ≡ true → T a × T b × T c × T d
four a b c d p =
    let u = and_left (a && b) (c && d) p in
    let v = and_right (a && b) (c && d) p in
    (holds a (and_left a b u), holds b (and_right a b u), holds c (and_left c d v), holds d (and_right c d v))

-- Threads: every record is on a chain that ends.
module _ (f : List ℕ) (a : refusal f ≡ 0) where
  sound : fresh (events f) [] (threads_up_to f 4) ≡ true
  unfolding once_each
  sound = and_left _ _ (threads_sound_lem f a)

  on_chain : (e : ℕ) → is_recorded f e ≡ true → (j : ℕ) × (j < 4) × (among e (thread f j) ≡ true)
  unfolding once_each
  on_chain e p =
      let (h, g) = recorded_bounds f e p in
      met_cases (events f) (next_event f) (head f) 4 e
      (each_at (events f) (λ x. among x (threads_up_to f 4)) (and_right (fresh (events f) [] _) _ (threads_sound_lem f a)) e h g)

  chain_of : (j : ℕ) → j < 4 → Ended (events f) (next_event f) (head f j) (thread f j)
  chain_of j h = chain_ended (events f) (next_event f) (head f) 4 j h sound

  -- the chain from a record on
  own_chain : (e : ℕ) → is_recorded f e ≡ true → (k : List ℕ) × Ended (events f) (next_event f) e k
  own_chain e p =
      let (j, h, m) = on_chain e p in
      let (k, w, g) = ended_from (events f) (next_event f) e (chain_of j h) m in
      (k, w)

  follows : (x y : ℕ) → (decode f).next x y ≡ true → next_event f x ≡ y
  unfolding decode
  follows x y p = eqb-true (next_event f x) y (and_right (is_recorded f x && is_recorded f y) (eqb (next_event f x) y) p)

  next_from : (x y : ℕ) → (decode f).next x y ≡ true → is_recorded f x ≡ true
  unfolding decode
  next_from x y p = and_left (is_recorded f x) (is_recorded f y) (and_left (is_recorded f x && is_recorded f y) (eqb (next_event f x) y) p)

  next_to : (x y : ℕ) → (decode f).next x y ≡ true → is_recorded f y ≡ true
  unfolding decode
  next_to x y p = and_right (is_recorded f x) (is_recorded f y) (and_left (is_recorded f x && is_recorded f y) (eqb (next_event f x) y) p)

  -- a record's chain is one longer than that of the record that follows it
  longer : (x y : ℕ) → (decode f).next x y ≡ true → {j k : List ℕ} → Ended (events f) (next_event f) x j → Ended (events f) (next_event f) y k → length j ≡ suc (length k)
  longer x y p {j} {k} u v =
      let (h, g) = recorded_bounds f x (next_from x y p) in
      let (l, w, e, q) = ended_after (events f) (next_event f) x u h in
      ap length e ∙ ap suc (ap length (ended_unique (events f) (next_event f) (subst (λ (z : ℕ). Ended (events f) (next_event f) z l) (follows x y p) w) v))

  shorter_path : (x y : ℕ) → Plus (λ u v. T ((decode f).next u v)) x y → {j k : List ℕ} → Ended (events f) (next_event f) x j → Ended (events f) (next_event f) y k
      → length k < length j
  shorter_path x y (one h) u v = omega (arith, longer x y (is_true _ h) u v)
  shorter_path x y (cons {b = z} h p) u v =
      let (l, w) = own_chain z (next_to x z (is_true _ h)) in
      omega (arith, longer x z (is_true _ h) u w, shorter_path z y p w v)

  acyclic : (x : ℕ) → Plus (λ u v. T ((decode f).next u v)) x x → ⊥
  acyclic x p =
      let (z, h) = begins p in
      let (k, w) = own_chain x (next_from x z (is_true _ h)) in
      omega (arith, shorter_path x x p w w)

  injective : (x y z : ℕ) → (decode f).next x z ≡ true → (decode f).next y z ≡ true → x ≡ y
  injective x y z p q =
      let (i, hi, mi) = on_chain x (next_from x z p) in
      let (j, hj, mj) = on_chain y (next_from y z q) in
      let (h, g) = recorded_bounds f z (next_to x z p) in
      let zi = next_among (events f) (next_event f) x z (chain_of i hi) mi (follows x z p) h in
      let zj = next_among (events f) (next_event f) y z (chain_of j hj) mj (follows y z q) h in
      let same = one_chain (events f) (next_event f) (head f) 4 i j z hi hj sound zi zj in
      let (k, w) = own_chain x (next_from x z p) in
      let (l, v) = own_chain y (next_from y z q) in
      let (m, u) = own_chain z (next_to x z p) in
      same_depth (events f) (next_event f) x y (chain_of j hj)
      (subst (λ (c : ℕ). among x (thread f c) ≡ true) same mi) mj w v
      (longer x z p w u ∙ sym (longer y z q v u))

  -- Links: what the condition of each type says.
  legal : (t x y : ℕ) → T ((decode f).link t x y) → link_legal (decode f) (side f) t x y ≡ true
  legal t x y h = legal_link f a t x y (is_true _ h)

  located : (x y : ℕ) → same_locations (decode f) x y ≡ true → (decode f).location x ≡ (decode f).location y
  unfolding same_locations
  located x y p = eqb-true ((decode f).location x) ((decode f).location y) p

  -- program order, computed, is program order
  ordered : (x y : ℕ) → (base nodes (decode f)).po x y ≡ true → (graph (decode f)).po x y
  unfolding base Rattle.relation.specs.Rel.either Rattle.relation.specs.Rel.union
  ordered x y p =
      elim (T_or ((decode f).initial x && (decode f).recorded y) (plus nodes (decode f).next x y) (holds _ p)) [
        | inl h ↦ inl (holds _ (and_left ((decode f).initial x) ((decode f).recorded y) (is_true _ h)), holds _ (and_right ((decode f).initial x) ((decode f).recorded y) (is_true _ h)))
        | inr h ↦ inr (plus_steps nodes (decode f).next x y h)
      ]

  from_read_lem : (x y : ℕ) → from_read (decode f) x y ≡ true → T (of_class (decode f) 1 x) × (graph (decode f)).po x y
  unfolding from_read
  from_read_lem x y p =
      (holds _ (and_left (of_class (decode f) 1 x) ((base nodes (decode f)).po x y) p), ordered x y (and_right (of_class (decode f) 1 x) ((base nodes (decode f)).po x y) p))

  rf_of : (x y : ℕ) → T ((decode f).link 1 x y) → T (of_class (decode f) 2 x) × T (of_class (decode f) 1 y) × ((decode f).location x ≡ (decode f).location y)
  unfolding link_legal rf_legal
  rf_of x y h =
      let (c, d, l, v) = four (of_class (decode f) 2 x) (of_class (decode f) 1 y) (same_locations (decode f) x y) _ (legal 1 x y h) in
      (c, d, located x y (is_true _ l))

  co_of : (x y : ℕ) → T ((decode f).link 2 x y)
      → T (of_class (decode f) 2 x) × T (of_class (decode f) 2 y) × T ((decode f).recorded y) × ((decode f).location x ≡ (decode f).location y)
  unfolding link_legal co_legal
  co_of x y h =
      let (c, d, r, l) = four (of_class (decode f) 2 x) (of_class (decode f) 2 y) ((decode f).recorded y) _ (legal 2 x y h) in
      (c, d, r, located x y (and_right (not (eqb x y)) _ (is_true _ l)))

  rmw_of : (x y : ℕ) → T ((decode f).link 3 x y)
      → T (flagged (decode f) 1 x) × T (of_class (decode f) 2 y) × T ((decode f).next x y) × ((decode f).location x ≡ (decode f).location y)
  unfolding link_legal rmw_legal
  rmw_of x y h =
      let (c, d, n, l) = four (flagged (decode f) 1 x) (of_class (decode f) 2 y) ((decode f).next x y) _ (legal 3 x y h) in
      (c, d, n, located x y (is_true _ l))

  -- Types 4 to 7 but 6 lead from a read to an event po-later of which a test holds.
  read_to : (x y : ℕ) (c : Bool) → from_read (decode f) x y && c ≡ true → T (of_class (decode f) 1 x) × T c × (graph (decode f)).po x y
  read_to x y c p = (let (r, o) = from_read_lem x y (and_left (from_read (decode f) x y) c p) in (r, holds c (and_right (from_read (decode f) x y) c p), o))

  data_of : (x y : ℕ) → T ((decode f).link 4 x y) → T (of_class (decode f) 1 x) × T (of_class (decode f) 2 y) × (graph (decode f)).po x y
  unfolding link_legal data_legal
  data_of x y h = read_to x y (of_class (decode f) 2 y) (legal 4 x y h)

  addr_of : (x y : ℕ) → T ((decode f).link 5 x y) → T (of_class (decode f) 1 x) × T (access (decode f) y) × (graph (decode f)).po x y
  unfolding link_legal addr_legal
  addr_of x y h = read_to x y (access (decode f) y) (legal 5 x y h)

  ctrl_of : (x y : ℕ) → T ((decode f).link 6 x y) → T (of_class (decode f) 1 x) × (graph (decode f)).po x y
  unfolding link_legal ctrl_legal
  ctrl_of x y h = from_read_lem x y (legal 6 x y h)

  casdep_of : (x y : ℕ) → T ((decode f).link 7 x y) → T (of_class (decode f) 1 x) × T (flagged (decode f) 1 y) × (graph (decode f)).po x y
  unfolding link_legal casdep_legal
  casdep_of x y h =
      let (r, c, o) = read_to x y (side f && flagged (decode f) 1 y) (legal 7 x y h) in
      (r, holds _ (and_right (side f) (flagged (decode f) 1 y) (is_true _ c)), o)

  link_from : (t x y : ℕ) → T ((decode f).link t x y) → event (decode f) x ≡ true
  link_from t x y h = source_event (decode f) (side f) t x y (legal t x y h)

  link_into : (t x y : ℕ) → T ((decode f).link t x y) → is_recorded f y ≡ true
  unfolding decode
  link_into t x y h = and_left (is_recorded f y) _ (is_true _ h)

  small : (e : ℕ) → event (decode f) e ≡ true → e < 64
  small e p = event_small f e (sized f a) p

  recorded_event : (e : ℕ) → is_recorded f e ≡ true → event (decode f) e ≡ true
  unfolding event decode
  recorded_event e p = or_right (is_initial f e) (is_recorded f e) p

  once : (x y z : ℕ) → T ((decode f).link 1 x z) → T ((decode f).link 1 y z) → x ≡ y
  unfolding one_source
  once x y z h g =
      elim (ℕ_discrete x y) [
        | yes e ↦ e
        | no d ↦ let (l, r) = recorded_bounds f z (link_into 1 x z h) in
            let two : Set = λ c. some nodes (λ b. ((decode f).link 1 c z && (decode f).link 1 b z) && not (eqb c b)) in
            absurd (false≢true (sym (not-true (some nodes two) (and_right (all_of (links_into f z) (link_sound f z)) (one_source (decode f) z) (links_legal f a z l r)))
            ∙ some_complete nodes two x (mem_below 64 x (small x (link_from 1 x z h)))
            (some_complete nodes (λ b. ((decode f).link 1 x z && (decode f).link 1 b z) && not (eqb x b)) y (mem_below 64 y (small y (link_from 1 y z g)))
            (and_both ((decode f).link 1 x z && (decode f).link 1 y z) (not (eqb x y)) (and_both ((decode f).link 1 x z) ((decode f).link 1 y z) (is_true _ h) (is_true _ g)) (ap not (ne_eqb x y d))))))
      ]

  -- co, computed, has no event that reaches itself
  co_source : (x y : ℕ) → T (co_step (decode f) x y) → event (decode f) x ≡ true
  unfolding co_step event decode
  co_source x y h =
      elim (T_or ((decode f).link 2 x y) _ h) [
        | inl g ↦ link_from 2 x y g
        | inr g ↦ or_left (is_initial f x) (is_recorded f x)
            (and_left (is_initial f x) (is_recorded f y) (and_left (is_initial f x && is_recorded f y) _ (and_left ((is_initial f x && is_recorded f y) && of_class (decode f) 2 y) _ (is_true _ g))))
      ]

  co_start : {x y : ℕ} → Plus (λ u v. T (co_step (decode f) u v)) x y → x < 64
  co_start {x} p = (let (z, h) = begins p in small x (co_source x z h))

  co_computed : (x y : ℕ) → Plus (λ u v. T (co_step (decode f) u v)) x y → T (plus nodes (co_step (decode f)) x y)
  co_computed x y (one h) = plus_one nodes (co_step (decode f)) x y h
  co_computed x y (cons {b = z} h p) =
      plus_join nodes (co_step (decode f)) x y (mem_below 64 z (co_start p)) (plus_one nodes (co_step (decode f)) x z h) (co_computed z y p)

  co_rings : (x : ℕ) → Plus (λ u v. T (co_step (decode f) u v)) x x → ⊥
  unfolding cause co_ring diagonal base
  co_rings x p =
      false≢true
      (sym (passes f a 9)
      ∙ some_complete nodes (diagonal (plus nodes (co_step (decode f)))) x (mem_below 64 x (co_start p)) (is_true _ (co_computed x x p)))

  initial_class : (e : ℕ) → is_initial f e ≡ true → (decode f).class e ≡ 2
  unfolding decode
  initial_class e p = sym (field_initial f 1 2 e (initial_bounds f e p).0)

  legal_class : (s : Side) (L class mode flag location value : ℕ) → legalNumbers s L class mode flag location value ≡ true → (class ≡ 1) ⊎ (class ≡ 2) ⊎ (class ≡ 3)
  unfolding legalNumbers
  legal_class s L zero mode flag location value p = absurd (false≢true p)
  legal_class s L (suc zero) mode flag location value p = inl refl
  legal_class s L (suc (suc zero)) mode flag location value p = inr (inl refl)
  legal_class s L (suc (suc (suc zero))) mode flag location value p = inr (inr refl)
  legal_class s L (suc (suc (suc (suc n)))) mode flag location value p = absurd (false≢true p)

  class_of : (e : ℕ) → is_recorded f e ≡ true → ((decode f).class e ≡ 1) ⊎ ((decode f).class e ≡ 2) ⊎ ((decode f).class e ≡ 3)
  unfolding event_legal
  class_of e p = let (h, g) = recorded_bounds f e p in legal_class _ _ _ _ _ _ _ (legal_event f a e h g)

  strong_recorded : (e : ℕ) → T (flagged (decode f) 2 e) → is_recorded f e ≡ true
  unfolding flagged of_class event decode
  strong_recorded e h =
      let p = is_true (flagged (decode f) 2 e) h in
      let c = and_left (of_class (decode f) 2 e) _ p in
      let g : field_or f 3 0 e ≡ 1 = eqb-true (field_or f 3 0 e) 1 (and_right (of_class (decode f) 2 e) _ p) in
      elim (T_or (is_initial f e) (is_recorded f e) (holds _ (and_left (is_initial f e || is_recorded f e) _ c))) [
        | inl q ↦ let z = field_initial f 3 0 e (initial_bounds f e (is_true _ q)).0 in absurd (omega arith)
        | inr q ↦ is_true _ q
      ]

  paired_record : (e : ℕ) → is_recorded f e ≡ true → paired_at f e ≡ true
  unfolding cause unpaired
  paired_record e p = let (l, r) = recorded_bounds f e p in each_at (events f) (paired_at f) (not-false _ (passes f a 10)) e l r

  strong_of : (e : ℕ) → T (flagged (decode f) 2 e) → (x : ℕ) × T ((decode f).link 3 x e)
  unfolding paired_at inverse
  strong_of e h =
      let q : some nodes (inverse ((decode f).link 3) e) ≡ true = second (flagged (decode f) 2 e) _ (is_true _ h) (paired_record e (strong_recorded e h)) in
      let (x, m, g) = some_sound nodes (inverse ((decode f).link 3) e) q in
      (x, holds _ g)
    where
      second : (c d : Bool) → c ≡ true → not c || d ≡ true → d ≡ true
      second true d u v = v
      second false d u v = absurd (false≢true u)

  -- The theorem: a file that loads holds a recording with these properties, whose events are numbered below 64.
  pub loads : Loads (decode f)
  unfolding decode
  loads =
      record {
        initial_write = λ e h. initial_class e (is_true _ h);
        initial_unrecorded = λ e h g. (let (l, r) = recorded_bounds f e (is_true _ g) in omega (arith, (initial_bounds f e (is_true _ h)).0, (sized f a).most_events));
        class = λ e h. class_of e (is_true _ h);
        next_source = λ x y h. holds _ (next_from x y (is_true _ h));
        next_target = λ x y h. holds _ (next_to x y (is_true _ h));
        next_functional = λ x y z h g. sym (follows x y (is_true _ h)) ∙ follows x z (is_true _ g);
        next_injective = λ x y z h g. injective x y z (is_true _ h) (is_true _ g);
        next_acyclic = acyclic;
        rf = rf_of;
        rf_once = once;
        co = co_of;
        rmw = rmw_of;
        «data» = data_of;
        addr = addr_of;
        ctrl = ctrl_of;
        casdep = casdep_of;
        co_acyclic = co_rings;
        strong = strong_of;
      }

  pub loaded_within : Within nodes (decode f)
  loaded_within =
      record {
        listed = λ e h. mem_below 64 e (small e (is_true _ h));
        next_source = λ x y h. holds _ (recorded_event x (next_from x y (is_true _ h)));
        next_target = λ x y h. holds _ (recorded_event y (next_to x y (is_true _ h)));
        link_source = λ t x y h. holds _ (link_from t x y h);
        link_target = λ t x y h. holds _ (recorded_event y (link_into t x y h));
      }

-- What the functions that read a loaded file ask for.
pub loaded_readable : (f : List ℕ) → refusal f ≡ 0 → Readable f
unfolding cause
loaded_readable f p = readable_of f (chained f (sized f p) (passes f p 7)) (passes f p 8)

pub loaded_located : (f : List ℕ) → refusal f ≡ 0 → Located f
loaded_located f p = accesses_located f (sized f p) (legal_events f p)

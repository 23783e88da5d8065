-- Laws of the line of the threads' events, and of program order made along it from its end.
use mathlib.Core.Path.{◌≡◌, refl, sym, ap, ap₂, subst, ◌∙◌, fun_ext}
use mathlib.Core.Bool.{Bool, true, false, ◌&&◌, ◌||◌, false≢true, and-false, or-false}
use mathlib.Core.List.{List, [], ◌∷◌, ◌++◌, append_assoc, append-nil}
use mathlib.Core.Logic.{◌⊎◌, inl, inr}
use Prim.Native.Nat.{ℕ, zero, suc, ◌+◌, ◌<◌, ◌≤◌}
use native.Mathlib.Numerals.{add-one}
use native.Mathlib.Omega.{arith}
use native.Mathlib.Decide.{ℕ_discrete}
use borrow.Author.Tests.{eq-eqb, ne_eqb, eqb-true}
use lib.Dec.{eqb}
use lib.ListN.{length, get_or, set, length-set, length-append}
use lib.Seq.{get_or-set_same, get_or-set_other}
use Rattle.relation.specs.Rel.{Set, Rel, empty, single, union, product, either, plus, nodes}
use Rattle.relation.specs.Bits.{bit, edge}
use Rattle.relation.proofs.Meaning.{Steps, one, more, mem_below, plus_sound, plus_holds, plus_passes, plus_complete}
use Rattle.models.specs.Graph.{base}
use Rattle.layout.specs.Layout.{events, event_byte, threads, Sized}
use Rattle.layout.specs.Chains.{among, chain, met, fresh, all_met, once_each, next_event, head, threads_sound, thread, threads_up_to}
use Rattle.layout.specs.Decode.{is_recorded, is_initial, decode}
use Rattle.reading.specs.Sets.{Line}
use Rattle.relation.proofs.Truth.{is_false, same_test, by_test, and_left, and_right, or_either, or_left, or_right}
use Rattle.layout.proofs.FieldLaws.{recorded_bounds, recorded_is, initial_below, next_first}
use Rattle.layout.proofs.ChainLaws.{each_at, fresh_upto}
use Rattle.layout.proofs.ChainFacts.{Ended, end, step, among_here, among_append, fresh_length, follow_positive, ended_first, ended_next, ended_at, ended_after, ended_end, chain_ended, met_cases}

-- A list whose numbers are each followed by 0 or by a number behind them in the list.
data Onward (limit : ℕ) (next : ℕ → ℕ) : List ℕ → Type 0 where
  nil : Onward limit next []
  cons : {x : ℕ} {l : List ℕ} → 1 ≤ x → x ≤ limit → next x ≤ limit → (next x ≡ 0) ⊎ (among (next x) l ≡ true) → Onward limit next l
      → Onward limit next (x ∷ l)

module _ (limit : ℕ) (next : ℕ → ℕ) where
  ended_onward : (l : List ℕ) {x : ℕ} {k : List ℕ} → Ended limit next x k → Onward limit next l → Onward limit next (k ++ l)
  ended_onward l end o = o
  ended_onward l (step {x = x} {l = k} p q w) o =
      let behind : (next x ≡ 0) ⊎ (among (next x) (k ++ l) ≡ true)
      = elim (ended_first limit next w) [
        | inl e ↦ inl e
        | inr m ↦ inr (among_append (next x) k l ∙ or_left (among (next x) k) (among (next x) l) m)
      ] in
      cons p q (ended_next limit next x (step p q w) (among_here x x k refl)) behind (ended_onward l w o)

  -- What ends such a list is one too.
  onward_behind : (l : List ℕ) {k : List ℕ} → Onward limit next (l ++ k) → Onward limit next k
  onward_behind [] o = o
  onward_behind (x ∷ l) (cons p q r b o) = onward_behind l o

  -- Chains on which together nothing is met twice, one behind the other.
  module _ (start : ℕ → ℕ) (n : ℕ) (sound : fresh limit [] (met limit next start n) ≡ true) where
    met_onward : (j : ℕ) → j ≤ n → (l : List ℕ) → Onward limit next l → Onward limit next (met limit next start j ++ l)
    unfolding met
    met_onward zero h l o = o
    met_onward (suc j) h l o =
        rw (append_assoc (met limit next start j) (chain limit next (start j)) l)
        (met_onward j (omega arith) (chain limit next (start j) ++ l) (ended_onward l (chain_ended limit next start n j (omega arith) sound) o))

  met_length : (start : ℕ → ℕ) (n j : ℕ) → j ≤ n → fresh limit [] (met limit next start n) ≡ true → length (met limit next start j) ≤ limit
  met_length start n j h p =
      fresh_length limit [] (met limit next start j) (fresh_upto limit next start n j h p)
      (λ x m. let w = met_cases limit next start j x m in follow_positive limit next (suc limit) (start w.0) x w.2)

pub line_none : (f line : List ℕ) → line ≡ [] → Line f 0 line
unfolding met
line_none f line e = record { bounded = omega (arith, ap length e); listed = e }

pub line_all : (f : List ℕ) (t : ℕ) (line : List ℕ) → Line f t line → t ≤ threads → threads ≤ t → Line f threads line
line_all f t line w h g = subst (λ (k : ℕ). Line f k line) (omega arith) w

-- The line so far, and the rest of a thread's chain.
pub record Partway (f : List ℕ) (t x : ℕ) (line : List ℕ) : Type 0 where
  pub rest : List ℕ
  pub ended : Ended (events f) (next_event f) x rest
  pub room : length line + length rest ≤ 48
  pub whole : line ++ rest ≡ threads_up_to f (t + 1)

module _ (f : List ℕ) (s : Sized f) (sound : threads_sound f ≡ true) where
  threads_fresh : fresh (events f) [] (threads_up_to f threads) ≡ true
  unfolding once_each
  threads_fresh = and_left _ _ sound

  -- The events of the first threads are at most as many as the records, and those of each thread are among the records.
  pub few_events : (t : ℕ) → t ≤ threads → length (threads_up_to f t) ≤ events f
  few_events t h = met_length (events f) (next_event f) (head f) threads t h threads_fresh

  thread_ended : (t : ℕ) → t < threads → Ended (events f) (next_event f) (head f t) (thread f t)
  thread_ended t h = chain_ended (events f) (next_event f) (head f) threads t h threads_fresh

  pub thread_at : (t : ℕ) → t < threads → (k : ℕ) → k < length (thread f t) → (1 ≤ get_or (thread f t) k 0) × (get_or (thread f t) k 0 ≤ events f)
  thread_at t h k g = ended_at (events f) (next_event f) k (thread_ended t h) g

  pub partway_start : (t x : ℕ) (line : List ℕ) → t < threads → Line f t line → x ≡ head f t → Partway f t x line
  unfolding met
  partway_start t x line h w e =
      let rest = thread f t in
      let whole : line ++ rest ≡ threads_up_to f (suc t) = ap (λ (k : List ℕ). k ++ rest) w.listed in
      record {
        rest = rest;
        ended = subst (λ (y : ℕ). Ended (events f) (next_event f) y rest) (sym e) (thread_ended t h);
        room = omega (arith, few_events (suc t) (omega arith), sym (length-append line rest) ∙ ap length whole, s.most_events);
        whole = rw (add-one t) whole;
      }

module _ (f : List ℕ) (t x : ℕ) (line : List ℕ) (w : Partway f t x line) where
  pub partway_done : x ≡ 0 → Line f (t + 1) line
  partway_done e =
      record {
        bounded = omega (arith, w.room);
        listed = sym (append-nil line) ∙ ap (λ (k : List ℕ). line ++ k) (sym (ended_end (events f) (next_event f) w.ended e)) ∙ w.whole;
      }

  pub partway_in : (x ≡ 0 → ⊥) → (1 ≤ x) × (x ≤ events f) × (length line < 48)
  partway_in d =
      let (l, v, e, q) = ended_after (events f) (next_event f) x w.ended (omega (arith, d)) in
      (omega (arith, d), q, omega (arith, w.room, ap length e))

  pub partway_more : (x ≡ 0 → ⊥) → (y : ℕ) → y ≡ next_event f x → (k : List ℕ) → k ≡ line ++ x ∷ [] → Partway f t y k
  partway_more d y p longer q =
      let (l, v, e, r) = ended_after (events f) (next_event f) x w.ended (omega (arith, d)) in
      let long : length longer ≡ length line + 1 = ap length q ∙ length-append line (x ∷ []) in
      record {
        rest = l;
        ended = subst (λ (z : ℕ). Ended (events f) (next_event f) z l) (sym p) v;
        room = omega (arith, w.room, ap length e, long);
        whole = ap (λ (k : List ℕ). k ++ l) q ∙ append_assoc line (x ∷ []) l ∙ ap (λ (k : List ℕ). line ++ k) (sym e) ∙ w.whole;
      }

-- Steps of a relation from an event that has none, or only that to b.
steps_none : (r : Rel) (a : ℕ) → r a ≡ empty → {z : ℕ} → Steps r a z → ⊥
unfolding empty
steps_none r a e {z} (one h) = false≢true (sym (ap (λ (s : Set). s z) e) ∙ h)
steps_none r a e (more w h) = steps_none r a e w

plus_empty : (r : Rel) (a : ℕ) → r a ≡ empty → plus nodes r a ≡ empty
unfolding empty
plus_empty r a e = fun_ext (λ z. is_false (plus nodes r a z) (λ p. steps_none r a e (plus_sound nodes r a z p)))

module _ (r : Rel) (inside : (x y : ℕ) → r x y ≡ true → x < 64) (a b : ℕ) (e : r a ≡ single b) where
  only : (z : ℕ) → r a z ≡ true → b ≡ z
  unfolding single
  only z h = eqb-true b z (sym (ap (λ (s : Set). s z) e) ∙ h)

  steps_only : {z : ℕ} → Steps r a z → (b ≡ z) ⊎ Steps r b z
  steps_only {z} (one h) = inl (only z h)
  steps_only {z} (more w h) =
      elim (steps_only w) [
        | inl p ↦ inr (one (subst (λ (y : ℕ). r y z ≡ true) (sym p) h))
        | inr v ↦ inr (more v h)
      ]

  plus_only : b < 64 → union (plus nodes r b) (single b) ≡ plus nodes r a
  unfolding union single
  plus_only h = fun_ext (λ z. same_test (plus nodes r b z || eqb b z) (plus nodes r a z) (to z) (from z))
    where
      first : r a b ≡ true
      first = ap (λ (s : Set). s b) e ∙ eq-eqb b b refl

      to : (z : ℕ) → plus nodes r b z || eqb b z ≡ true → plus nodes r a z ≡ true
      to z p =
          elim (or_either (plus nodes r b z) (eqb b z) p) [
            | inl q ↦ plus_passes nodes r b (mem_below 64 b h) a z (plus_holds nodes r a b first) q
            | inr q ↦ subst (λ (y : ℕ). plus nodes r a y ≡ true) (eqb-true b z q) (plus_holds nodes r a b first)
          ]

      from : (z : ℕ) → plus nodes r a z ≡ true → plus nodes r b z || eqb b z ≡ true
      from z p =
          elim (steps_only (plus_sound nodes r a z p)) [
            | inl q ↦ or_right (plus nodes r b z) (eqb b z) (eq-eqb b z q)
            | inr w ↦ or_left (plus nodes r b z) (eqb b z) (plus_complete nodes r (λ x y g. mem_below 64 x (inside x y g)) b z w)
          ]

-- The row of program order: that of an event with nothing behind it, and that of an event directly before b.
module _ (f : List ℕ) where
  next_none : (a : ℕ) → is_recorded f a ≡ false → (decode f).next a ≡ empty
  unfolding decode empty
  next_none a p = fun_ext (λ x. rw p)

  next_last : (a : ℕ) → next_event f a ≡ 0 → (decode f).next a ≡ empty
  unfolding decode empty is_recorded
  next_last a e =
      fun_ext
      (λ x. elim (ℕ_discrete x 0) [
        | yes p ↦ ap (λ (y : ℕ). (is_recorded f a && is_recorded f y) && eqb (next_event f a) y) p ∙ ap (λ (c : Bool). c && eqb (next_event f a) 0) (and-false (is_recorded f a))
        | no d ↦ ap (λ (c : Bool). (is_recorded f a && is_recorded f x) && c) (ne_eqb (next_event f a) x (λ q. d (sym q ∙ e))) ∙ and-false (is_recorded f a && is_recorded f x)
      ])

  next_single : (a b : ℕ) → is_recorded f a ≡ true → is_recorded f b ≡ true → next_event f a ≡ b → (decode f).next a ≡ single b
  unfolding decode single
  next_single a b p q e =
      fun_ext
      (λ x. elim (ℕ_discrete b x) [
        | yes i ↦ ap₂ (λ (c d : Bool). (c && d) && eqb (next_event f a) x) p (ap (is_recorded f) (sym i) ∙ q) ∙ ap (λ (y : ℕ). eqb y x) e
        | no d ↦ ap (λ (c : Bool). (is_recorded f a && is_recorded f x) && c) (ap (λ (y : ℕ). eqb y x) e ∙ ne_eqb b x d) ∙ and-false (is_recorded f a && is_recorded f x) ∙ sym (ne_eqb b x d)
      ])

  next_inside : Sized f → (x y : ℕ) → (decode f).next x y ≡ true → x < 64
  unfolding decode
  next_inside s x y p =
      let (h, g) = recorded_bounds f x (and_left (is_recorded f x) (is_recorded f y) (and_left (is_recorded f x && is_recorded f y) _ p)) in
      omega (arith, g, s.most_events)

  po_none : (a : ℕ) → (decode f).next a ≡ empty → product (is_initial f) (is_recorded f) a ≡ (base nodes (decode f)).po a
  unfolding base decode either union product empty
  po_none a e = fun_ext (λ x. sym (ap (λ (s : Set). (is_initial f a && is_recorded f x) || s x) (plus_empty (decode f).next a e) ∙ or-false (is_initial f a && is_recorded f x)))

  po_recorded : Sized f → (a : ℕ) → is_recorded f a ≡ true → (base nodes (decode f)).po a ≡ plus nodes (decode f).next a
  unfolding base decode either union
  po_recorded s a p = fun_ext (λ x. ap (λ (c : Bool). (c && is_recorded f x) || plus nodes (decode f).next a x) late)
    where
      late : is_initial f a ≡ false
      late = (let (h, g) = recorded_bounds f a p in initial_below f a (omega (arith, g, s.most_events)))

  po_step : Sized f → (a b : ℕ) → is_recorded f a ≡ true → is_recorded f b ≡ true → next_event f a ≡ b
      → union ((base nodes (decode f)).po b) (single b) ≡ (base nodes (decode f)).po a
  po_step s a b p q e =
      ap (λ (t : Set). union t (single b)) (po_recorded s b q)
      ∙ plus_only (decode f).next (next_inside s) a b (next_single a b p q e) (let (h, g) = recorded_bounds f b q in omega (arith, g, s.most_events))
      ∙ sym (po_recorded s a p)

-- The line of all threads, and the event at a place of it.
abbrev lined : List ℕ → List ℕ
lined f = threads_up_to f threads

-- Program order made along the line from its end: the rows of the events behind are done, the others hold what initial writes come before.
pub record Backward (f ahead : List ℕ) (h : List (List ℕ)) : Type 0 where
  pub sized : Sized f
  pub sound : threads_sound f ≡ true
  pub behind : List ℕ
  pub whole : ahead ++ behind ≡ lined f
  pub long : length h ≡ 64
  pub done : (m : ℕ) → among m behind ≡ true → bit (get_or h m []) ≡ (base nodes (decode f)).po m
  pub rest : (m : ℕ) → among m behind ≡ false → bit (get_or h m []) ≡ product (is_initial f) (is_recorded f) m

-- An event of the line, and b, which follows it.
pub record Placed (f behind : List ℕ) (e b : ℕ) : Type 0 where
  pub low : 1 ≤ e
  pub high : e ≤ events f
  pub small : b ≤ events f
  pub follows : (b ≡ 0) ⊎ (among b behind ≡ true)
  pub next : next_event f e ≡ b
  pub few : events f ≤ 48

pub backward_start : {f line ahead : List ℕ} (h : List (List ℕ)) {i r : Set} → Sized f → threads_sound f ≡ true → Line f threads line → ahead ≡ line
    → length h ≡ 64 → i ≡ is_initial f → r ≡ is_recorded f → edge h ≡ product i r → Backward f ahead h
unfolding edge among
backward_start {f} {line} {ahead} h s t w z g p q e =
    record {
      sized = s;
      sound = t;
      behind = [];
      whole = append-nil ahead ∙ z ∙ w.listed;
      long = g;
      done = λ m a. absurd (false≢true a);
      rest = λ m a. ap (λ (s : Rel). s m) (e ∙ ap₂ product p q);
    }

-- The last event ahead.
module _ {f ahead : List ℕ} {h : List (List ℕ)} (w : Backward f ahead h) (before : List ℕ) (e : ℕ) (last : ahead ≡ before ++ e ∷ []) where
  whole_on : before ++ e ∷ w.behind ≡ lined f
  whole_on = sym (append_assoc before (e ∷ []) w.behind) ∙ ap (λ (l : List ℕ). l ++ w.behind) (sym last) ∙ w.whole

  placed_as : {b : ℕ} → next_event f e ≡ b → Onward (events f) (next_event f) (e ∷ w.behind) → Placed f w.behind e b
  placed_as {b} n (cons p q r g o) =
      record {
        low = p;
        high = q;
        small = subst (λ (y : ℕ). y ≤ events f) n r;
        follows = subst (λ (y : ℕ). (y ≡ 0) ⊎ (among y w.behind ≡ true)) n g;
        next = n;
        few = w.sized.most_events;
      }

  pub placed : {b : ℕ} → b ≡ event_byte f e 0 → Placed f w.behind e b
  unfolding once_each
  placed {b} q =
      let fresh-line = and_left (fresh (events f) [] (lined f)) (all_met (events f) (lined f)) w.sound in
      let onward : Onward (events f) (next_event f) (lined f)
      = subst (Onward (events f) (next_event f)) (append-nil (lined f)) (met_onward (events f) (next_event f) (head f) threads fresh-line threads (omega arith) [] nil) in
      placed_as (sym (q ∙ next_first f e))
      (onward_behind (events f) (next_event f) before (subst (Onward (events f) (next_event f)) (sym whole_on) onward))

  module _ {b : ℕ} (p : Placed f w.behind e b) where
    -- what is e or behind it, but is not e, is behind
    others : (m : ℕ) → (m ≡ e → ⊥) → among m (e ∷ w.behind) ≡ among m w.behind
    unfolding among
    others m d = ap (λ (c : Bool). c || among m w.behind) (ne_eqb m e d)

    -- the row of e is done, and no other changes
    one_more : (g : List (List ℕ)) → length g ≡ 64 → bit (get_or g e []) ≡ (base nodes (decode f)).po e
        → ((m : ℕ) → (m ≡ e → ⊥) → bit (get_or g m []) ≡ bit (get_or h m [])) → Backward f before g
    one_more g l row kept =
        record {
          sized = w.sized;
          sound = w.sound;
          behind = e ∷ w.behind;
          whole = whole_on;
          long = l;
          done = λ m a. elim (ℕ_discrete m e) [ yes q ↦ rw q row | no d ↦ kept m d ∙ w.done m (sym (others m d) ∙ a) ];
          rest = λ m a. elim (ℕ_discrete m e) [
            | yes q ↦ absurd (false≢true (sym a ∙ among_here m e w.behind q))
            | no d ↦ kept m d ∙ w.rest m (sym (others m d) ∙ a)
          ];
        }

    pub backward_keep : b ≡ 0 → Backward f before h
    backward_keep z = one_more h w.long (row_of (by_test (among e w.behind))) (λ m d. refl)
      where
        row_of : (among e w.behind ≡ true) ⊎ (among e w.behind ≡ false) → bit (get_or h e []) ≡ (base nodes (decode f)).po e
        row_of (inl a) = w.done e a
        row_of (inr a) = w.rest e a ∙ po_none f e (next_last f e (p.next ∙ z))

    pub backward_with : (b ≡ 0 → ⊥) → (v : List ℕ) → bit v ≡ union (bit (get_or h b [])) (single b) → Backward f before (set h e v)
    backward_with d v q =
        one_more (set h e v) (length-set h e v ∙ w.long)
        (ap bit (get_or-set_same h e v [] (omega (arith, w.long, p.high, p.few))) ∙ row_of) (λ m g. ap bit (get_or-set_other h e m v [] g))
      where
        among_b : among b w.behind ≡ true
        among_b = elim p.follows [ inl z ↦ absurd (d z) | inr a ↦ a ]

        row_of : bit v ≡ (base nodes (decode f)).po e
        row_of =
            q ∙ ap (λ (t : Set). union t (single b)) (w.done b among_b)
            ∙ po_step f w.sized e b (recorded_is f e p.low p.high) (recorded_is f b (omega (arith, d)) p.small) p.next

pub backward_all : {f ahead : List ℕ} {h : List (List ℕ)} → length ahead ≡ 0 → Backward f ahead h → edge h ≡ (base nodes (decode f)).po
unfolding edge once_each
backward_all {f} {ahead} {h} z w = fun_ext (λ m. row m (by_test (among m (lined f))))
  where
    none_ahead : (l : List ℕ) → length l ≡ 0 → l ++ w.behind ≡ w.behind
    none_ahead [] e = refl
    none_ahead (x ∷ l) e = absurd (omega (arith, e))

    all_behind : (m : ℕ) → among m w.behind ≡ among m (lined f)
    all_behind m = ap (among m) (sym (none_ahead ahead z) ∙ w.whole)

    unrecorded : (m : ℕ) → among m (lined f) ≡ false → is_recorded f m ≡ false
    unrecorded m a =
        is_false (is_recorded f m)
        (λ p. let (low, high) = recorded_bounds f m p in
        false≢true (sym a ∙ each_at (events f) (λ x. among x (lined f)) (and_right (fresh (events f) [] (lined f)) _ w.sound) m low high))

    row : (m : ℕ) → (among m (lined f) ≡ true) ⊎ (among m (lined f) ≡ false) → bit (get_or h m []) ≡ (base nodes (decode f)).po m
    row m (inl a) = w.done m (all_behind m ∙ a)
    row m (inr a) = w.rest m (all_behind m ∙ a) ∙ po_none f m (next_none f m (unrecorded m a))

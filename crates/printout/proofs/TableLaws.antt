-- Laws of the table of a file's threads: where each begins, the event at a place, and the longest.
use mathlib.Core.Path.{◌≡◌, refl, sym, ap, ap₂, subst, ◌∙◌}
use mathlib.Core.List.{List, [], ◌∷◌, ◌++◌}
use Prim.Native.Nat.{ℕ, zero, suc, ◌+◌, ◌<◌, ◌≤◌, max}
use native.Mathlib.Nat.{max_comm}
use native.Mathlib.Numerals.{add-one}
use native.Mathlib.Omega.{arith}
use mathlib.Core.Bool.{Bool, true, false, cond}
use native.Mathlib.Decide.{ℕ_discrete, dec_lt}
use borrow.Author.Tests.{lt-ltb, le-ltb}
use lib.Dec.{eqb}
use Rattle.std.specs.Ordering.{nat_cmp, ord_max, is_lt}
use Rattle.std.specs.declared.cmp.Ordering.TheVariants.{Equal, Greater}
use Rattle.std.proofs.lemmas.List.{take_all}
use lib.ListN.{length, get_or, set, take, length-set, length-append, length-take, get_or-append}
use lib.Seq.{get_or-set_same, get_or-set_other, get_or-take, get_or-append-add}
use Rattle.layout.specs.Layout.{side, events, threads}
use Rattle.layout.specs.Chains.{met, thread, threads_up_to}
use Rattle.layout.proofs.FieldLaws.{most_in_thread_18}
use Rattle.recording.specs.Causes.{refusal}
use Rattle.recording.proofs.Accepted.{sized, threads_sound_lem, thread_length}
use Rattle.reading.specs.Sets.{Line}
use Rattle.reading.proofs.ThreadLaws.{few_events, thread_at}
use Rattle.printout.specs.Page.{longest, thread_lists}
use Rattle.printout.specs.Table.{Starts, Table}

-- One thread more.
pub upto_length : (f : List ℕ) (t : ℕ) → length (threads_up_to f (suc t)) ≡ length (threads_up_to f t) + length (thread f t)
unfolding met
upto_length f t = length-append (threads_up_to f t) (thread f t)

module _ (f : List ℕ) (loads : refusal f ≡ 0) where
  -- The events of the first threads are at most 48.
  pub upto_few : (t : ℕ) → t ≤ threads → length (threads_up_to f t) ≤ 48
  upto_few t h = omega (arith, few_events f (sized f loads) (threads_sound_lem f loads) t h, (sized f loads).most_events)

  pub event_at : (t k : ℕ) → t < threads → k < length (thread f t) → (1 ≤ get_or (thread f t) k 0) × (get_or (thread f t) k 0 ≤ events f)
  event_at t k h g = thread_at f (sized f loads) (threads_sound_lem f loads) t h k g

  pub few_in_thread : (t : ℕ) → t < threads → length (thread f t) ≤ 18
  few_in_thread t h = omega (arith, thread_length f loads t h, most_in_thread_18 (side f))

-- The starts, one by one: n events stand on the first t threads.
pub record Started (f r : List ℕ) (n t : ℕ) : Type 0 where
  pub within : t ≤ threads
  pub counted : n ≡ length (threads_up_to f t)
  pub starts : Starts f r t

module _ (f : List ℕ) where
  pub started_none : (r : List ℕ) → length r ≡ threads + 1 → get_or r 0 0 ≡ 0 → Started f r 0 0
  unfolding met
  started_none r l z =
      record {
        within = omega arith;
        counted = refl;
        starts = record { long = l; start = λ t h. let e : t ≡ 0 = omega arith in ap (λ (k : ℕ). get_or r k 0) e ∙ z ∙ sym (ap (λ (k : ℕ). length (threads_up_to f k)) e) };
      }

  pub started_few : (r : List ℕ) (n t m : ℕ) → refusal f ≡ 0 → Started f r n t → t < threads → m ≡ length (thread f t) → n + m ≤ 48
  started_few r n t m loads w h e = omega (arith, w.counted, e, upto_length f t, upto_few f loads (suc t) h)

  pub started_more : (r : List ℕ) (n t m : ℕ) → Started f r n t → t < threads → m ≡ length (thread f t)
      → Started f (set r (t + 1) (n + m)) (n + m) (t + 1)
  started_more r n t m w h e =
      let sum : n + m ≡ length (threads_up_to f (t + 1)) = omega (arith, w.counted, e, upto_length f t, ap (λ (k : ℕ). length (threads_up_to f k)) (add-one t)) in
      record {
        within = omega arith;
        counted = sum;
        starts = record {
          long = length-set r (t + 1) (n + m) ∙ w.starts.long;
          start = λ i g. elim (ℕ_discrete i (t + 1)) [
            | yes p ↦ ap (λ (k : ℕ). get_or (set r (t + 1) (n + m)) k 0) p ∙ get_or-set_same r (t + 1) (n + m) 0 (omega (arith, w.starts.long))
                ∙ sum ∙ ap (λ (k : ℕ). length (threads_up_to f k)) (sym p)
            | no d ↦ get_or-set_other r (t + 1) i (n + m) 0 d ∙ w.starts.start i (omega (arith, d))
          ];
        };
      }

  pub started_all : (r : List ℕ) (n t : ℕ) → Started f r n t → threads ≤ t → Starts f r threads
  started_all r n t w h = (let e : t ≡ threads = omega (arith, w.within) in subst (Starts f r) e w.starts)

-- The longest thread, one by one.
pub larger_is : (a b : ℕ) → ord_max nat_cmp a b ≡ max a b
larger_is a b = elim (dec_lt b a) [
  | yes h ↦ rw (lt-ltb b a h) (omega (arith, h))
  | no h ↦ rw (le-ltb b a (omega (arith, h))) (at_least (eqb b a) ∙ omega (arith, h))
]
  where
    at_least : (x : Bool) → cond (is_lt (cond x Equal Greater)) a b ≡ b
    at_least true = refl
    at_least false = refl

larger_assoc : (a b c : ℕ) → max a (max b c) ≡ max (max a b) c
larger_assoc a b c = omega arith

longest_last : (l : List (List ℕ)) (x : List ℕ) → longest (l ++ (x ∷ [])) ≡ max (longest l) (length x)
unfolding longest
longest_last [] x = max_comm (length x) 0
longest_last (y ∷ l) x = ap (max (length y)) (longest_last l x) ∙ larger_assoc (length y) (longest l) (length x)

pub longest_none : (f : List ℕ) → 0 ≡ longest (thread_lists f 0)
unfolding longest thread_lists
longest_none f = refl

pub longest_more : (f : List ℕ) (r n t : ℕ) → r ≡ longest (thread_lists f t) → n ≡ length (thread f t) → max r n ≡ longest (thread_lists f (t + 1))
unfolding thread_lists
longest_more f r n t p q =
    ap₂ max p q ∙ sym (longest_last (thread_lists f t) (thread f t)) ∙ ap (λ (k : ℕ). longest (thread_lists f k)) (sym (add-one t))

-- A page has at most 18 lines.
pub few_lines : (f : List ℕ) → refusal f ≡ 0 → longest (thread_lists f threads) ≤ 18
few_lines f loads = upto threads (omega arith)
  where
    upto : (t : ℕ) → t ≤ threads → longest (thread_lists f t) ≤ 18
    upto zero h = omega (arith, longest_none f)
    upto (suc t) h =
        omega (
          arith,
          longest_more f (longest (thread_lists f t)) (length (thread f t)) t refl refl,
          ap (λ (k : ℕ). longest (thread_lists f k)) (add-one t),
          upto t (omega arith),
          few_in_thread f loads t h,
        )

-- Thread t within the line of the first n.
upto_grows : (f : List ℕ) (t n : ℕ) → t ≤ n → length (threads_up_to f t) ≤ length (threads_up_to f n)
upto_grows f t zero h = (let e : t ≡ 0 = omega arith in omega (arith, ap (λ (k : ℕ). length (threads_up_to f k)) e))
upto_grows f t (suc n) h =
    elim (ℕ_discrete t (suc n)) [
      | yes e ↦ omega (arith, ap (λ (k : ℕ). length (threads_up_to f k)) e)
      | no d ↦ omega (arith, upto_length f n, upto_grows f t n (omega (arith, d)))
    ]

upto_at : (f : List ℕ) (t k n : ℕ) → t < n → k < length (thread f t) → get_or (threads_up_to f n) (length (threads_up_to f t) + k) 0 ≡ get_or (thread f t) k 0
unfolding met
upto_at f t k zero h g = absurd (omega arith)
upto_at f t k (suc n) h g =
    elim (ℕ_discrete t n) [
      | yes e ↦ subst (λ (m : ℕ). get_or (threads_up_to f m ++ thread f m) (length (threads_up_to f t) + k) 0 ≡ get_or (thread f t) k 0) e
          (get_or-append-add (threads_up_to f t) (thread f t) k 0)
      | no d ↦ get_or-append (threads_up_to f n) (thread f n) 0 _ (omega (arith, upto_length f t, upto_grows f (suc t) n (omega (arith, d))))
          ∙ upto_at f t k n (omega (arith, d)) g
    ]

-- A table of which the whole list is the line.
pub whole_line : (f at starts : List ℕ) → Line f threads at → Starts f starts threads → Table f at starts
whole_line f at starts line begins =
    record { len = length at; line = subst (Line f threads) (sym (take_all (length at) at (omega arith))) line; begins = begins }

-- In a table the event at place k of thread t stands k places behind the thread's start, if the next thread starts later.
module _ (f at starts : List ℕ) (loads : refusal f ≡ 0) (w : Table f at starts) (t : ℕ) (h : t < threads) where
  next_start : get_or starts (t + 1) 0 ≡ get_or starts t 0 + length (thread f t)
  next_start =
      omega (arith, w.begins.start (t + 1) (omega arith), w.begins.start t (omega arith), upto_length f t, ap (λ (k : ℕ). length (threads_up_to f k)) (add-one t))

  pub start_few : get_or starts t 0 ≤ 48
  start_few = omega (arith, w.begins.start t (omega arith), upto_few f loads t (omega arith))

  module _ (k : ℕ) where
    pub absent : get_or starts (t + 1) 0 ≤ get_or starts t 0 + k → length (thread f t) ≤ k
    absent g = omega (arith, next_start)

    module _ (g : get_or starts t 0 + k < get_or starts (t + 1) 0) where
      pub present : k < length (thread f t)
      present = omega (arith, next_start)

      within : get_or starts t 0 + k < length (take w.len at)
      within = omega (arith, w.begins.start (t + 1) (omega arith), upto_grows f (t + 1) threads (omega arith), ap length w.line.listed)

      pub in_line : get_or starts t 0 + k < length at
      in_line = omega (arith, within, length-take w.len at)

      pub event_is : get_or at (get_or starts t 0 + k) 0 ≡ get_or (thread f t) k 0
      event_is =
          sym (get_or-take w.len at (get_or starts t 0 + k) 0 (omega (arith, within, length-take w.len at)))
          ∙ ap₂ (λ (l : List ℕ) (i : ℕ). get_or l i 0) w.line.listed (ap (λ (n : ℕ). n + k) (w.begins.start t (omega arith)))
          ∙ upto_at f t k threads h present

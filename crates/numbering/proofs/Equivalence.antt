-- Files that differ in their numbering only: an equivalence between the files that load.
use mathlib.Core.Path.{◌≡◌, refl, sym, ap, ap₂, ◌∙◌}
use Prim.Native.Nat.{ℕ, ◌≤◌}
use native.Mathlib.Omega.{arith}
use Rattle.relation.specs.Rel.{Set}
use Rattle.translation.specs.Contents.{Contents, contents}
use Rattle.numbering.specs.Numbering.{Renumbering, numbers_to, Renumbers, Equivalence}
use Rattle.numbering.proofs.Renumberings.{kept_in, within, reversed, numbers_is, numbers_intro, numbers_fewer, thread_within, moved_within}

-- The way back.
module _ {s c : Contents} (w : Renumbers s c) where
  abbrev n : Renumbering (numbers_to s.events)
  n = w.event

  pub back_within : (e : ℕ) → 1 ≤ e → e ≤ c.events → (1 ≤ n.back e) × (n.back e ≤ s.events)
  unfolding reversed
  back_within e h g = numbers_is s.events (n.back e) (kept_in (reversed n) e ∙ numbers_intro s.events e h (omega (arith, w.events)))

  -- A number of each record, by the records before and after.
  pub field_back : (p q : ℕ → ℕ) → ((e : ℕ) → 1 ≤ e → e ≤ s.events → q (n.to e) ≡ p e) → (e : ℕ) → 1 ≤ e → e ≤ c.events → p (n.back e) ≡ q e
  field_back p q same e h g = (let b = back_within e h g in sym (same (n.back e) b.0 b.1) ∙ ap q (n.to_back e))

  unfoldable pub renumbers_back : Renumbers c s
  unfolding reversed within
  renumbers_back =
      record {
        kind = sym w.kind;
        events = sym w.events;
        locations = sym w.locations;
        event = within (reversed n) (numbers_to c.events) (numbers_fewer s.events c.events (omega (arith, w.events)));
        thread = reversed w.thread;
        head = λ t h. (let u = w.thread.back t in let k = thread_within (reversed w.thread) t h in
            sym (n.back_to (s.head u)) ∙ ap n.back (sym (w.head u k) ∙ ap c.head (w.thread.to_back t)));
        next = λ e h g. (let b = back_within e h g in
            sym (n.back_to (s.next (n.back e))) ∙ ap n.back (sym (w.next (n.back e) b.0 b.1) ∙ ap c.next (n.to_back e)));
        class = field_back s.class c.class w.class;
        mode = field_back s.mode c.mode w.mode;
        flag = field_back s.flag c.flag w.flag;
        location = field_back s.location c.location w.location;
        low = field_back s.low c.low w.low;
        high = field_back s.high c.high w.high;
        link = λ t a b. sym (w.link t (n.back a) (n.back b)) ∙ ap₂ (c.link t) (n.to_back a) (n.to_back b);
      }

-- No number changes.
unchanged : (s : Set) → Renumbering s
unchanged s = record { to = λ x. x; back = λ x. x; back_to = λ x. refl; to_back = λ x. refl; others = λ x p. refl }

-- One renumbering, then another.
unfoldable twice : {s : Set} → Renumbering s → Renumbering s → Renumbering s
twice n m = record {
  to = λ x. m.to (n.to x);
  back = λ x. n.back (m.back x);
  back_to = λ x. ap n.back (m.back_to (n.to x)) ∙ n.back_to x;
  to_back = λ x. ap m.to (n.to_back (m.back x)) ∙ m.to_back x;
  others = λ x p. ap m.to (n.others x p) ∙ m.others x p;
}

module _ {s c d : Contents} (w : Renumbers s c) (v : Renumbers c d) where
  abbrev both : ℕ → ℕ
  both e = v.event.to (w.event.to e)

  -- A number of each record.
  field_twice : (p q r : ℕ → ℕ) → ((e : ℕ) → 1 ≤ e → e ≤ s.events → q (w.event.to e) ≡ p e) → ((e : ℕ) → 1 ≤ e → e ≤ c.events → r (v.event.to e) ≡ q e)
      → (e : ℕ) → 1 ≤ e → e ≤ s.events → r (both e) ≡ p e
  field_twice p q r first second e h g = (let m = moved_within w e h g in second (w.event.to e) m.0 m.1 ∙ first e h g)

  renumbers_twice : Renumbers s d
  unfolding twice within
  renumbers_twice =
      record {
        kind = v.kind ∙ w.kind;
        events = v.events ∙ w.events;
        locations = v.locations ∙ w.locations;
        event = twice w.event (within v.event (numbers_to s.events) (numbers_fewer c.events s.events (omega (arith, w.events))));
        thread = twice w.thread v.thread;
        head = λ t h. v.head (w.thread.to t) (thread_within w.thread t h) ∙ ap v.event.to (w.head t h);
        next = λ e h g. (let m = moved_within w e h g in v.next (w.event.to e) m.0 m.1 ∙ ap v.event.to (w.next e h g));
        class = field_twice s.class c.class d.class w.class v.class;
        mode = field_twice s.mode c.mode d.mode w.mode v.mode;
        flag = field_twice s.flag c.flag d.flag w.flag v.flag;
        location = field_twice s.location c.location d.location w.location v.location;
        low = field_twice s.low c.low d.low w.low v.low;
        high = field_twice s.high c.high d.high w.high v.high;
        link = λ t a b. v.link t (w.event.to a) (w.event.to b) ∙ w.link t a b;
      }

renumbers_none : (s : Contents) → Renumbers s s
unfolding unchanged
renumbers_none s =
    record {
      kind = refl;
      events = refl;
      locations = refl;
      event = unchanged (numbers_to s.events);
      thread = unchanged _;
      head = λ t h. refl;
      next = λ e h g. refl;
      class = λ e h g. refl;
      mode = λ e h g. refl;
      flag = λ e h g. refl;
      location = λ e h g. refl;
      low = λ e h g. refl;
      high = λ e h g. refl;
      link = λ t a b. refl;
    }

pub equivalence : Equivalence
equivalence = record {
  reflexive = λ f h. record { loads = h; loads_too = h; renumbers = renumbers_none (contents f) };
  symmetric = λ f g w. record { loads = w.loads_too; loads_too = w.loads; renumbers = renumbers_back w.renumbers };
  transitive = λ f g h w v. record { loads = w.loads; loads_too = v.loads_too; renumbers = renumbers_twice w.renumbers v.renumbers };
}

-- The sets of a recording: what it is to be in each, and how they lie in one another.
use mathlib.Core.Bool.{Bool, ◌&&◌, ◌||◌}
use mathlib.Core.Logic.{◌⊎◌, inl, inr, ◌≢◌}
use mathlib.Core.Path.{◌≡◌, sym, ◌∙◌, subst}
use Prim.Native.Nat.{ℕ}
use native.Mathlib.Omega.{arith}
use lib.Dec.{T, eqb, eqb→eq, eqb_refl}
use Rattle.models.specs.Recording.{Recording, event, of_class, of_mode, flagged, read, write, fence, fence_of, acquire_fence, release_fence, access, same_location, co_step, SetName, R, W, F, Racq, Rex, Wrel, Wstrong, Facq, Frel, Fsc, Fld, Fsy, Fisb, member}
use Rattle.relation.proofs.Truth.{T_and, T_and_left, T_and_right, T_or_left, T_or_right, T_or}

pub eq_test : (m n : ℕ) → m ≡ n → T (eqb m n)
eq_test m n p = subst (λ x. T (eqb m x)) p (eqb_refl m)

-- A test with an equation beside it.
pub with_eq : (b : Bool) (m n : ℕ) → T b → m ≡ n → T (b && eqb m n)
with_eq b m n h p = T_and b (eqb m n) h (eq_test m n p)

module _ {E : Type 0} (r : Recording E) where
  pub initial_event : (e : E) → T (r.initial e) → T (event r e)
  unfolding event
  initial_event e h = T_or_left (r.initial e) (r.recorded e) h

  pub recorded_event : (e : E) → T (r.recorded e) → T (event r e)
  unfolding event
  recorded_event e h = T_or_right (r.initial e) (r.recorded e) h

  pub event_cases : (e : E) → T (event r e) → T (r.initial e) ⊎ T (r.recorded e)
  unfolding event
  event_cases e h = T_or (r.initial e) (r.recorded e) h

  -- Events of a class, of a mode, with flag 1.
  pub class_event : (k : ℕ) (e : E) → T (of_class r k e) → T (event r e)
  unfolding of_class
  class_event k e h = T_and_left (event r e) (eqb (r.class e) k) h

  pub class_is : (k : ℕ) (e : E) → T (of_class r k e) → r.class e ≡ k
  unfolding of_class
  class_is k e h = eqb→eq (r.class e) k (T_and_right (event r e) (eqb (r.class e) k) h)

  pub class_intro : (k : ℕ) (e : E) → T (event r e) → r.class e ≡ k → T (of_class r k e)
  unfolding of_class
  class_intro k e h p = with_eq (event r e) (r.class e) k h p

  pub class_apart : (j k : ℕ) (e : E) → j ≢ k → T (of_class r j e) → T (of_class r k e) → ⊥
  class_apart j k e n h i = n (sym (class_is j e h) ∙ class_is k e i)

  pub mode_class : (k m : ℕ) (e : E) → T (of_mode r k m e) → T (of_class r k e)
  unfolding of_mode
  mode_class k m e h = T_and_left (of_class r k e) (eqb (r.mode e) m) h

  pub mode_is : (k m : ℕ) (e : E) → T (of_mode r k m e) → r.mode e ≡ m
  unfolding of_mode
  mode_is k m e h = eqb→eq (r.mode e) m (T_and_right (of_class r k e) (eqb (r.mode e) m) h)

  pub mode_intro : (k m : ℕ) (e : E) → T (of_class r k e) → r.mode e ≡ m → T (of_mode r k m e)
  unfolding of_mode
  mode_intro k m e h p = with_eq (of_class r k e) (r.mode e) m h p

  pub flag_class : (k : ℕ) (e : E) → T (flagged r k e) → T (of_class r k e)
  unfolding flagged
  flag_class k e h = T_and_left (of_class r k e) (eqb (r.flag e) 1) h

  pub flag_is : (k : ℕ) (e : E) → T (flagged r k e) → r.flag e ≡ 1
  unfolding flagged
  flag_is k e h = eqb→eq (r.flag e) 1 (T_and_right (of_class r k e) (eqb (r.flag e) 1) h)

  pub flag_intro : (k : ℕ) (e : E) → T (of_class r k e) → r.flag e ≡ 1 → T (flagged r k e)
  unfolding flagged
  flag_intro k e h p = with_eq (of_class r k e) (r.flag e) 1 h p

  -- A fence of one of three modes.
  by_mode : {P : Type 0} (l m n : ℕ) (e : E) → (T (fence_of r l e) → P) → (T (fence_of r m e) → P) → (T (fence_of r n e) → P)
      → T (fence_of r l e || fence_of r m e || fence_of r n e) → P
  by_mode l m n e f g i h = elim (T_or (fence_of r l e || fence_of r m e) (fence_of r n e) h) [
    | inl k ↦ elim (T_or (fence_of r l e) (fence_of r m e) k) [ inl x ↦ f x | inr x ↦ g x ]
    | inr k ↦ i k
  ]

  pub acquire_fence_lem : (e : E) → T (acquire_fence r e) → T (fence r e)
  unfolding acquire_fence
  acquire_fence_lem e h = by_mode 1 3 4 e (mode_class 3 1 e) (mode_class 3 3 e) (mode_class 3 4 e) h

  pub release_fence_lem : (e : E) → T (release_fence r e) → T (fence r e)
  unfolding release_fence
  release_fence_lem e h = by_mode 2 3 4 e (mode_class 3 2 e) (mode_class 3 3 e) (mode_class 3 4 e) h

  -- A release fence is not of mode 1.
  pub release_fence_mode : (e : E) → T (release_fence r e) → r.mode e ≡ 1 → ⊥
  unfolding release_fence
  release_fence_mode e h p =
      by_mode 2 3 4 e (λ x. omega (arith, mode_is 3 2 e x)) (λ x. omega (arith, mode_is 3 3 e x)) (λ x. omega (arith, mode_is 3 4 e x)) h

  pub sc_release : (e : E) → T (fence_of r 4 e) → T (release_fence r e)
  unfolding release_fence
  sc_release e h = T_or_right (fence_of r 2 e || fence_of r 3 e) (fence_of r 4 e) h

  pub member_event : (s : SetName) (e : E) → T (member r s e) → T (event r e)
  member_event R e h = class_event 1 e h
  member_event W e h = class_event 2 e h
  member_event F e h = class_event 3 e h
  member_event Racq e h = class_event 1 e (mode_class 1 1 e h)
  member_event Rex e h = class_event 1 e (flag_class 1 e h)
  member_event Wrel e h = class_event 2 e (mode_class 2 2 e h)
  member_event Wstrong e h = class_event 2 e (flag_class 2 e h)
  member_event Facq e h = class_event 3 e (acquire_fence_lem e h)
  member_event Frel e h = class_event 3 e (release_fence_lem e h)
  member_event Fsc e h = class_event 3 e (mode_class 3 4 e h)
  member_event Fld e h = class_event 3 e (mode_class 3 5 e h)
  member_event Fsy e h = class_event 3 e (mode_class 3 6 e h)
  member_event Fisb e h = class_event 3 e (mode_class 3 7 e h)

  -- Accesses and locations.
  pub access_cases : (e : E) → T (access r e) → T (read r e) ⊎ T (write r e)
  unfolding access
  access_cases e h = T_or (read r e) (write r e) h

  pub read_access : (e : E) → T (read r e) → T (access r e)
  unfolding access
  read_access e h = T_or_left (read r e) (write r e) h

  pub write_access : (e : E) → T (write r e) → T (access r e)
  unfolding access
  write_access e h = T_or_right (read r e) (write r e) h

  pub access_event : (e : E) → T (access r e) → T (event r e)
  access_event e h = elim (access_cases e h) [ inl k ↦ class_event 1 e k | inr k ↦ class_event 2 e k ]

  pub same_intro : (a b : E) → T (access r a) → T (access r b) → r.location a ≡ r.location b → T (same_location r a b)
  unfolding same_location
  same_intro a b h k p = with_eq (access r a && access r b) (r.location a) (r.location b) (T_and (access r a) (access r b) h k) p

  pub same_first : (a b : E) → T (same_location r a b) → T (access r a)
  unfolding same_location
  same_first a b h = T_and_left (access r a) (access r b) (T_and_left (access r a && access r b) (eqb (r.location a) (r.location b)) h)

  pub same_second : (a b : E) → T (same_location r a b) → T (access r b)
  unfolding same_location
  same_second a b h = T_and_right (access r a) (access r b) (T_and_left (access r a && access r b) (eqb (r.location a) (r.location b)) h)

  pub same_location_lem : (a b : E) → T (same_location r a b) → r.location a ≡ r.location b
  unfolding same_location
  same_location_lem a b h = eqb→eq (r.location a) (r.location b) (T_and_right (access r a && access r b) (eqb (r.location a) (r.location b)) h)

  -- A step of co: a link, or an initial write before a recorded one of its location.
  pub data CoStep (a b : E) : Type 0 where
    linked : T (r.link 2 a b) → CoStep a b
    initially : T (r.initial a) → T (r.recorded b) → T (write r b) → T (same_location r a b) → CoStep a b

  pub step_cases : (a b : E) → T (co_step r a b) → CoStep a b
  unfolding co_step
  step_cases a b h = elim (T_or (r.link 2 a b) (r.initial a && r.recorded b && write r b && same_location r a b) h) [
    | inl k ↦ linked k
    | inr k ↦ (let l = T_and_left (r.initial a && r.recorded b && write r b) (same_location r a b) k in let i = T_and_left (r.initial a && r.recorded b) (write r b) l in
        initially (T_and_left (r.initial a) (r.recorded b) i) (T_and_right (r.initial a) (r.recorded b) i)
        (T_and_right (r.initial a && r.recorded b) (write r b) l) (T_and_right (r.initial a && r.recorded b && write r b) (same_location r a b) k))
  ]

  pub step_intro : (a b : E) → CoStep a b → T (co_step r a b)
  unfolding co_step
  step_intro a b (linked h) = T_or_left (r.link 2 a b) (r.initial a && r.recorded b && write r b && same_location r a b) h
  step_intro a b (initially i c w l) =
      T_or_right (r.link 2 a b) (r.initial a && r.recorded b && write r b && same_location r a b)
      (T_and (r.initial a && r.recorded b && write r b) (same_location r a b) (T_and (r.initial a && r.recorded b) (write r b) (T_and (r.initial a) (r.recorded b) i c) w) l)

-- The two meanings of a term agree, and the computed verdict is the verdict.
-- `tests` is the one induction over terms; all else is what it gives.
use mathlib.Core.Bool.{Bool, true, false, not, ◌&&◌, ◌||◌}
use mathlib.Core.List.{List, [], ◌∷◌, Memᴰ}
use mathlib.Core.Logic.{◌⊎◌, inl, inr, ◌↔◌, ◌≢◌}
use mathlib.Core.Path.{◌≡◌, refl, subst, fun_ext}
use Prim.Native.Nat.{ℕ}
use native.Mathlib.Omega.{arith}
use lib.Dec.{T, eqb, eqb→eq, eqb_refl, T_not, not_T}
use Rattle.relation.specs.Rel.{Rel, some, diagonal}
use Rattle.models.specs.Recording.{Recording, event, SetName, R, W, same_location, co_step}
use Rattle.models.specs.Steps.{stay, step}
use Rattle.models.specs.Graph.{Graph, Base, graph, base, Within}
use Rattle.models.specs.Term.{Term, loc, po, rf, co, rmw, «data», addr, ctrl, casdep, ⟨◌⟩, ⟨codom◌⟩, ◌⨾◌, ◌∪◌, ◌∩◌, ◌∖◌, opt, ◌⁻¹, ◌⁺, ⟦◌⟧, eval}
use Rattle.models.specs.Rules.{Model, broken_pair, Rule1, Rule2, Rule3, Rule4, Rule5, Allowed, Verdict, allowed, broken1, broken2, broken3, broken4, broken5, Numbered, first, unread, unordered, anywhere, failures, verdict}
use Rattle.relation.proofs.Truth.{T_and, T_and_left, T_and_right, T_or_left, T_or_right, T_or, T_cases, T_ext}
use Rattle.models.proofs.Tests.{some_intro, some_witness, Tests, either_tests, both_tests, minus_tests, inverse_tests, identity_tests, codomain_tests, compose_tests, optional_tests, plus_tests}
use Rattle.models.proofs.MemberLaws.{initial_event, recorded_event, member_event, access_event, same_first, same_second, CoStep, linked, initially, step_cases}

-- Tests and a graph that agree on what a graph consists of.
pub record Agrees (es : List ℕ) (B : Base) (G : Graph ℕ) : Type 0 where
  pub listed : (e : ℕ) → T (B.E e) → Memᴰ e es
  pub events : (e : ℕ) → T (B.E e) ↔ G.E e
  pub sets : (s : SetName) (e : ℕ) → T (B.set s e) ↔ G.set s e
  pub set_events : (s : SetName) (e : ℕ) → G.set s e → T (B.E e)
  pub loc : Tests B.E B.loc G.loc
  pub po : Tests B.E B.po G.po
  pub rf : Tests B.E B.rf G.rf
  pub co : Tests B.E B.co G.co
  pub rmw : Tests B.E B.rmw G.rmw
  pub «data» : Tests B.E B.«data» G.«data»
  pub addr : Tests B.E B.addr G.addr
  pub ctrl : Tests B.E B.ctrl G.ctrl
  pub casdep : Tests B.E B.casdep G.casdep

-- b passes exactly where P fails.
abbrev pub Refutes : Bool → Type 0 → Type 0
Refutes b P = (T b → ¬ P) × (¬ T b → P)

-- Two tests of one rule are equal.
same_test : (b c : Bool) {P : Type 0} → Refutes b P → Refutes c P → b ≡ c
same_test true true f g = refl
same_test true false f g = absurd (f.0 tt (g.1 (λ h. h)))
same_test false true f g = absurd (g.0 tt (f.1 (λ h. h)))
same_test false false f g = refl

-- The tests of a model's rules, over the list es and the base B, pass exactly where the rules of the graph G fail.
pub record Refutation (es : List ℕ) (B : Base) (M : Model) {E : Type 0} (G : Graph E) : Type 0 where
  pub rule1 : Refutes (some es (unread es B)) (Rule1 G)
  pub rule2 : Refutes (anywhere es (unordered es B)) (Rule2 G)
  pub rule3 : Refutes (some es (diagonal (eval es M.coherent B))) (Rule3 M G)
  pub rule4 : Refutes (anywhere es (eval es broken_pair B)) (Rule4 G)
  pub rule5 : Refutes (some es (diagonal (eval es (M.order ⁺) B))) (Rule5 M G)

-- Two lists and bases that test the rules of one graph have one verdict.
pub same_verdict : (es fs : List ℕ) (B C : Base) (M : Model) {E : Type 0} {G : Graph E} → Refutation es B M G → Refutation fs C M G → verdict es B M ≡ verdict fs C M
unfolding verdict failures
same_verdict es fs B C M f g =
    let p₁ = same_test _ _ f.rule1 g.rule1 in
    let p₂ = same_test _ _ f.rule2 g.rule2 in
    let p₃ = same_test _ _ f.rule3 g.rule3 in
    let p₄ = same_test _ _ f.rule4 g.rule4 in
    let p₅ = same_test _ _ f.rule5 g.rule5 in
    λ i. first ((1, p₁ i) ∷ (2, p₂ i) ∷ (3, p₃ i) ∷ (4, p₄ i) ∷ (5, p₅ i) ∷ [])

-- The verdict, rule by rule: the first rule whose test passes is broken.
module _ {E : Type 0} (M : Model) (G : Graph E) where
  judged : (n : ℕ) (b : Bool) (rest : List Numbered) {P : Type 0} → Refutes b P → (¬ P → Verdict M G n) → (P → Verdict M G (first rest))
      → Verdict M G (first ((n, b) ∷ rest))
  unfolding first
  judged n true rest r broken next = broken (r.0 tt)
  judged n false rest r broken next = next (r.1 (λ h. h))

  none_broken : Allowed M G → Verdict M G (first [])
  unfolding first
  none_broken a = allowed a

module _ (es : List ℕ) (B : Base) (G : Graph ℕ) (g : Agrees es B G) where
  pub tests : (t : Term) → Tests B.E (eval es t B) (⟦ t ⟧ G)
  unfolding eval
  tests loc = g.loc
  tests po = g.po
  tests rf = g.rf
  tests co = g.co
  tests rmw = g.rmw
  tests «data» = g.«data»
  tests addr = g.addr
  tests ctrl = g.ctrl
  tests casdep = g.casdep
  tests ⟨ s ⟩ = identity_tests (B.set s) (G.set s) (λ e. (g.sets s e).0) (λ e. (g.sets s e).1) (g.set_events s)
  tests ⟨codom r ⟩ = codomain_tests es B.E g.listed (tests r)
  tests (r ⨾ s) = compose_tests es B.E g.listed (tests r) (tests s)
  tests (r ∪ s) = either_tests (tests r) (tests s)
  tests (r ∩ s) = both_tests (tests r) (tests s)
  tests (r ∖ s) = minus_tests (tests r) (tests s)
  tests (opt r) = optional_tests G.E (λ e. (g.events e).0) (λ e. (g.events e).1) (tests r)
  tests (r ⁻¹) = inverse_tests (tests r)
  tests (r ⁺) = plus_tests es B.E g.listed (tests r)

  -- Every term is decidable between any two numbers.
  pub decides : (t : Term) (i j : ℕ) → Dec (⟦ t ⟧ G i j)
  decides t i j = elim (T_cases (eval es t B i j)) [ inl k ↦ yes ((tests t).to i j k) | inr n ↦ no (λ h. n ((tests t).from i j h)) ]

  -- Terms that mean the same have one test.
  pub eval_same : (t u : Term) → ((i j : ℕ) → ⟦ t ⟧ G i j → ⟦ u ⟧ G i j) → ((i j : ℕ) → ⟦ u ⟧ G i j → ⟦ t ⟧ G i j) → eval es t B ≡ eval es u B
  eval_same t u f h = fun_ext λ i. fun_ext λ j. T_ext _ _ (λ k. (tests u).from i j (f i j ((tests t).to i j k))) (λ k. (tests t).from i j (h i j ((tests u).to i j k)))

  -- r ; s? is r or r ; s.
  pub optional_last : (r s : Term) → eval es (r ⨾ opt s) B ≡ eval es (r ∪ r ⨾ s) B
  optional_last r s = eval_same (r ⨾ opt s) (r ∪ r ⨾ s) to from
    where
      to : (i j : ℕ) → ⟦ r ⨾ opt s ⟧ G i j → ⟦ r ∪ r ⨾ s ⟧ G i j
      to i j (k, h, stay e) = inl h
      to i j (k, h, step l) = inr (k, h, l)

      from : (i j : ℕ) → ⟦ r ∪ r ⨾ s ⟧ G i j → ⟦ r ⨾ opt s ⟧ G i j
      from i j (inl h) = (j, h, stay ((g.events j).0 ((tests r).target i j h)))
      from i j (inr (k, h, l)) = (k, h, step l)

  -- Each test of a rule passes exactly where the rule fails.
  unread_found : T (some es (unread es B)) → ¬ Rule1 G
  unfolding unread
  unread_found h all =
      let x = some_witness es (unread es B) h in
      let r = x.0 in
      let found : Bool = some es (λ w. B.rf w r) in
      let w = all r ((g.sets R r).0 (T_and_left (B.set R r) (not found) x.1)) in
      T_not found (T_and_right (B.set R r) (not found) x.1)
      (some_intro es (λ w. B.rf w r) (g.listed w.0 (g.rf.source w.0 r w.1)) (g.rf.from w.0 r w.1))

  unread_none : ¬ T (some es (unread es B)) → Rule1 G
  unfolding unread
  unread_none n r h =
      let found : Bool = some es (λ w. B.rf w r) in
      elim (T_cases found) [
        | inl k ↦ (let w = some_witness es (λ w. B.rf w r) k in (w.0, g.rf.to w.0 r w.1))
        | inr k ↦ absurd (n (some_intro es (unread es B) (g.listed r (g.set_events R r h)) (T_and (B.set R r) (not found) ((g.sets R r).1 h) (not_T found k))))
      ]

  anywhere_found : (r : Rel) → T (anywhere es r) → (a b : ℕ) × T (r a b)
  unfolding anywhere
  anywhere_found r h =
      let x = some_witness es (λ a. some es (r a)) h in
      let y = some_witness es (r x.0) x.1 in
      (x.0, y.0, y.1)

  anywhere_none : (r : Rel) → ¬ T (anywhere es r) → (a b : ℕ) → T (B.E a) → T (B.E b) → ¬ T (r a b)
  unfolding anywhere
  anywhere_none r n a b p q h = n (some_intro es (λ x. some es (r x)) (g.listed a p) (some_intro es (r a) (g.listed b q) h))

  -- Writes of one location; the same event or in co.
  abbrev writes : ℕ → ℕ → Bool
  writes a b = B.set W a && B.set W b && B.loc a b

  abbrev ordered : ℕ → ℕ → Bool
  ordered a b = eqb a b || B.co a b || B.co b a

  writes_to : (a b : ℕ) → T (writes a b) → G.set W a × G.set W b × G.loc a b
  writes_to a b h =
      let p = T_and_left (B.set W a && B.set W b) (B.loc a b) h in
      ((g.sets W a).0 (T_and_left (B.set W a) (B.set W b) p), (g.sets W b).0 (T_and_right (B.set W a) (B.set W b) p), g.loc.to a b (T_and_right (B.set W a && B.set W b) (B.loc a b) h))

  writes_from : (a b : ℕ) → G.set W a → G.set W b → G.loc a b → T (writes a b)
  writes_from a b p q l = T_and (B.set W a && B.set W b) (B.loc a b) (T_and (B.set W a) (B.set W b) ((g.sets W a).1 p) ((g.sets W b).1 q)) (g.loc.from a b l)

  ordered_to : (a b : ℕ) → a ≢ b → T (ordered a b) → G.co a b ⊎ G.co b a
  ordered_to a b d h = elim (T_or (eqb a b || B.co a b) (B.co b a) h) [
    | inl k ↦ elim (T_or (eqb a b) (B.co a b) k) [ inl e ↦ absurd (d (eqb→eq a b e)) | inr c ↦ inl (g.co.to a b c) ]
    | inr k ↦ inr (g.co.to b a k)
  ]

  ordered_from : (a b : ℕ) → (a ≡ b) ⊎ G.co a b ⊎ G.co b a → T (ordered a b)
  ordered_from a b (inl e) = T_or_left (eqb a b || B.co a b) (B.co b a) (T_or_left (eqb a b) (B.co a b) (subst (λ c. T (eqb a c)) e (eqb_refl a)))
  ordered_from a b (inr (inl c)) = T_or_left (eqb a b || B.co a b) (B.co b a) (T_or_right (eqb a b) (B.co a b) (g.co.from a b c))
  ordered_from a b (inr (inr c)) = T_or_right (eqb a b || B.co a b) (B.co b a) (g.co.from b a c)

  unordered_found : T (anywhere es (unordered es B)) → ¬ Rule2 G
  unfolding unordered
  unordered_found h total =
      let x = anywhere_found (unordered es B) h in
      let a = x.0 in
      let b = x.1 in
      let w = writes_to a b (T_and_left (writes a b) (not (ordered a b)) x.2) in
      let n : ¬ T (ordered a b) = T_not (ordered a b) (T_and_right (writes a b) (not (ordered a b)) x.2) in
      n (ordered_from a b (inr (total a b w.0 w.1 w.2 (λ e. n (ordered_from a b (inl e))))))

  unordered_none : ¬ T (anywhere es (unordered es B)) → Rule2 G
  unfolding unordered
  unordered_none n a b p q l d = elim (T_cases (ordered a b)) [
    | inl k ↦ ordered_to a b d k
    | inr k ↦ absurd (anywhere_none (unordered es B) n a b (g.set_events W a p) (g.set_events W b q) (T_and (writes a b) (not (ordered a b)) (writes_from a b p q l) (not_T (ordered a b) k)))
  ]

  -- A term that relates an event to itself, or two events.
  refutes_loop : (t : Term) → Refutes (some es (diagonal (eval es t B))) ((a : ℕ) → ¬ ⟦ t ⟧ G a a)
  unfolding diagonal
  refutes_loop t = (
    λ h n. (let x = some_witness es (diagonal (eval es t B)) h in n x.0 ((tests t).to x.0 x.0 x.1)),
    λ n a h. n (some_intro es (diagonal (eval es t B)) (g.listed a ((tests t).source a a h)) ((tests t).from a a h)),
  )

  refutes_edge : (t : Term) → Refutes (anywhere es (eval es t B)) ((a b : ℕ) → ¬ ⟦ t ⟧ G a b)
  refutes_edge t = (
    λ h n. (let x = anywhere_found (eval es t B) h in n x.0 x.1 ((tests t).to x.0 x.1 x.2)),
    λ n a b h. anywhere_none (eval es t B) n a b ((tests t).source a b h) ((tests t).target a b h) ((tests t).from a b h),
  )

  -- Each test of a model's rules passes exactly where the rule fails.
  pub refutation : (M : Model) → Refutation es B M G
  refutation M = record {
    rule1 = (unread_found, unread_none);
    rule2 = (unordered_found, unordered_none);
    rule3 = refutes_loop M.coherent;
    rule4 = refutes_edge broken_pair;
    rule5 = refutes_loop (M.order ⁺);
  }

  -- The computed verdict is the verdict.
  pub verdict_holds : (M : Model) → Verdict M G (verdict es B M)
  unfolding verdict failures
  verdict_holds M =
      let r = refutation M in
      judged M G 1 _ _ r.rule1 broken1 λ p₁. judged M G 2 _ _ r.rule2 (broken2 p₁) λ p₂. judged M G 3 _ _ r.rule3 (broken3 p₁ p₂) λ p₃.
      judged M G 4 _ _ r.rule4 (broken4 p₁ p₂ p₃) λ p₄. judged M G 5 _ _ r.rule5 (broken5 p₁ p₂ p₃ p₄) λ p₅.
      none_broken M G (record { rule1 = p₁; rule2 = p₂; rule3 = p₃; rule4 = p₄; rule5 = p₅ })

-- Verdict 0 is: allowed.
pub allowed_exactly : {E : Type 0} {M : Model} {G : Graph E} {n : ℕ} → Verdict M G n → (n ≡ 0) ↔ Allowed M G
allowed_exactly (allowed a) = (λ e. a, λ b. refl)
allowed_exactly (broken1 x) = (λ e. absurd (omega (arith, e)), λ b. absurd (x b.rule1))
allowed_exactly (broken2 p x) = (λ e. absurd (omega (arith, e)), λ b. absurd (x b.rule2))
allowed_exactly (broken3 p q x) = (λ e. absurd (omega (arith, e)), λ b. absurd (x b.rule3))
allowed_exactly (broken4 p q s x) = (λ e. absurd (omega (arith, e)), λ b. absurd (x b.rule4))
allowed_exactly (broken5 p q s t x) = (λ e. absurd (omega (arith, e)), λ b. absurd (x b.rule5))

-- The tests and the graph of a recording agree.
module _ (es : List ℕ) (r : Recording ℕ) (w : Within es r) where
  -- A Bool-valued relation between events tests itself.
  itself : (t : Rel) → ((a b : ℕ) → T (t a b) → T (event r a)) → ((a b : ℕ) → T (t a b) → T (event r b)) → Tests (event r) t (λ a b. T (t a b))
  itself t f g = record { to = λ i j h. h; from = λ i j h. h; source = f; target = g }

  link_tests : (t : ℕ) → Tests (event r) (r.link t) (λ a b. T (r.link t a b))
  link_tests t = itself (r.link t) (w.link_source t) (w.link_target t)

  initial_tests : Tests (event r) (λ a b. r.initial a && r.recorded b) (λ a b. T (r.initial a) × T (r.recorded b))
  unfolding event
  initial_tests = record {
    to = λ i j h. (T_and_left (r.initial i) (r.recorded j) h, T_and_right (r.initial i) (r.recorded j) h);
    from = λ i j h. T_and (r.initial i) (r.recorded j) h.0 h.1;
    source = λ i j h. T_or_left (r.initial i) (r.recorded i) h.0;
    target = λ i j h. T_or_right (r.initial j) (r.recorded j) h.1;
  }

  po_tests : Tests (event r) (base es r).po (graph r).po
  unfolding base
  po_tests = either_tests initial_tests (plus_tests es (event r) w.listed (itself r.next w.next_source w.next_target))

  step_source : (a b : ℕ) → CoStep r a b → T (event r a)
  step_source a b (linked h) = w.link_source 2 a b h
  step_source a b (initially i c x l) = initial_event r a i

  step_target : (a b : ℕ) → CoStep r a b → T (event r b)
  step_target a b (linked h) = w.link_target 2 a b h
  step_target a b (initially i c x l) = recorded_event r b c

  step_tests : Tests (event r) (co_step r) (λ a b. T (co_step r a b))
  step_tests = itself (co_step r) (λ a b h. step_source a b (step_cases r a b h)) (λ a b h. step_target a b (step_cases r a b h))

  pub agrees : Agrees es (base es r) (graph r)
  unfolding base
  agrees = record {
    listed = w.listed;
    events = λ e. (λ h. h, λ h. h);
    sets = λ s e. (λ h. h, λ h. h);
    set_events = member_event r;
    loc = itself (same_location r) (λ a b h. access_event r a (same_first r a b h)) (λ a b h. access_event r b (same_second r a b h));
    po = po_tests;
    rf = link_tests 1;
    co = plus_tests es (event r) w.listed step_tests;
    rmw = link_tests 3;
    «data» = link_tests 4;
    addr = link_tests 5;
    ctrl = compose_tests es (event r) w.listed (link_tests 6) (optional_tests (λ e. T (event r e)) (λ e h. h) (λ e h. h) po_tests);
    casdep = link_tests 7;
  }

  -- Program order is decidable.
  pub po_decides : (a b : ℕ) → Dec ((graph r).po a b)
  po_decides = decides es (base es r) (graph r) agrees po

  -- The verdict of a recording.
  pub recording_verdict : (M : Model) → Verdict M (graph r) (verdict es (base es r) M)
  recording_verdict = verdict_holds es (base es r) (graph r) agrees

  pub recording_allowed : (M : Model) → (verdict es (base es r) M ≡ 0) ↔ Allowed M (graph r)
  recording_allowed M = allowed_exactly (recording_verdict M)

-- Over any two lists that hold all events a model has one verdict.
module _ (es fs : List ℕ) (r : Recording ℕ) (v : Within es r) (w : Within fs r) where
  pub verdict_relist : (M : Model) → verdict es (base es r) M ≡ verdict fs (base fs r) M
  verdict_relist M = same_verdict es fs _ _ M (refutation es _ _ (agrees es r v) M) (refutation fs _ _ (agrees fs r w) M)

-- Verdicts computed by tables: the tests of a term over a list of events as rows of Bools, each operator by whole rows.
-- `table_verdict_lem` equates the verdict with the one computed so, which the checker evaluates quickly at a closed recording.
use mathlib.Core.Bool.{Bool, true, false, not, ◌&&◌, ◌||◌, or-false}
use mathlib.Core.List.{List, [], ◌∷◌, map, map-map, zip_with, Memᴰ}
use mathlib.Core.Path.{◌≡◌, refl, sym, ap, ap₂, ◌∙◌, subst}
use Prim.Native.Nat.{ℕ}
use lib.Dec.{T, eqb, eqb→eq, eqb_refl}
use Rattle.relation.specs.Rel.{Set, Rel, union, intersection, difference, either, both, minus, inverse, identity, some, image, compose, through, plus, optional, diagonal}
use Rattle.models.specs.Recording.{Recording, event, of_class, of_mode, flagged, acquire_fence, release_fence, access, same_location, co_step, R, W, member}
use Rattle.models.specs.Graph.{Execution, Base, base}
use Rattle.models.specs.Term.{Term, loc, po, rf, co, rmw, «data», addr, ctrl, casdep, ⟨◌⟩, ⟨codom◌⟩, ◌⨾◌, ◌∪◌, ◌∩◌, ◌∖◌, opt, ◌⁻¹, ◌⁺, eval}
use Rattle.models.specs.Rules.{Model, broken_pair, Numbered, first, unread, unordered, anywhere, failures, verdict}

abbrev pub Row : Type 0
Row = List Bool

abbrev pub Table : Type 0
Table = List Row

-- The table of r: rows for ks, columns for es.
abbrev table : List ℕ → List ℕ → Rel → Table
table ks es r = map (λ i. map (r i) es) ks

-- Operators on tables. Those that look for an event take the list of columns.
unfoldable pub zip : (Bool → Bool → Bool) → Table → Table → Table
zip f t u = zip_with (zip_with f) t u

unfoldable pub blank : List ℕ → Row
blank es = map (λ e. false) es

-- The or of the rows that a row of bits picks.
unfoldable pub picked : List ℕ → Row → Table → Row
picked es [] t = blank es
picked es (b ∷ bs) [] = blank es
picked es (b ∷ bs) (x ∷ t) = elim b [ true ↦ zip_with ◌||◌ x (picked es bs t) | false ↦ picked es bs t ]

unfoldable pub times : List ℕ → Table → Table → Table
times es t u = map (λ x. picked es x u) t

unfoldable pub turned : List ℕ → Table → Table
turned es [] = map (λ e. []) es
turned es (x ∷ t) = zip_with ◌∷◌ x (turned es t)

-- The entry for k.
unfoldable pub entry {ℓ} : {A : Type ℓ} → List ℕ → ℕ → List A → A → A
entry [] k xs d = d
entry (e ∷ es) k [] d = d
entry (e ∷ es) k (x ∷ xs) d = elim (eqb e k) [ true ↦ x | false ↦ entry es k xs d ]

-- Warshall's round for k, and the rounds for ks.
unfoldable pub round : List ℕ → ℕ → Table → Table
round es k t = (let y = entry es k t [] in map (λ x. elim (entry es k x false) [ true ↦ zip_with ◌||◌ x y | false ↦ x ]) t)

unfoldable pub rounds : List ℕ → List ℕ → Table → Table
rounds es [] t = t
rounds es (k ∷ ks) t = round es k (rounds es ks t)

unfoldable pub ones : List ℕ → Row → Table
ones es s = zip_with (λ e b. map (λ j. b && eqb e j) es) es s

unfoldable pub or_all : Row → Bool
or_all [] = false
or_all (b ∷ bs) = b || or_all bs

-- What each does to the table of a relation.
zip_map : {A B C D : Type 0} (f : B → C → D) (g : A → B) (h : A → C) (xs : List A) → zip_with f (map g xs) (map h xs) ≡ map (λ x. f (g x) (h x)) xs
unfolding zip_with
zip_map f g h [] = refl
zip_map f g h (x ∷ xs) = ap (λ l. f (g x) (h x) ∷ l) (zip_map f g h xs)

map_congr : {A B : Type 0} (g h : A → B) (xs : List A) → ((x : A) → g x ≡ h x) → map g xs ≡ map h xs
map_congr g h [] e = refl
map_congr g h (x ∷ xs) e = λ i. e x i ∷ map_congr g h xs e i

zip_table : (f : Bool → Bool → Bool) (ks es : List ℕ) (r s : Rel) → zip f (table ks es r) (table ks es s) ≡ table ks es (λ i j. f (r i j) (s i j))
unfolding zip
zip_table f ks es r s = zip_map (zip_with f) (λ i. map (r i) es) (λ i. map (s i) es) ks ∙ map_congr _ _ ks (λ i. zip_map f (r i) (s i) es)

pick : (es : List ℕ) (b : Bool) (x : Set) (rest : Set) (t : Row) → t ≡ map rest es
    → elim b [ true ↦ zip_with ◌||◌ (map x es) t | false ↦ t ] ≡ map (λ j. (b && x j) || rest j) es
pick es true x rest t e = ap (zip_with ◌||◌ (map x es)) e ∙ zip_map ◌||◌ x rest es
pick es false x rest t e = e

picked_row : (es ks : List ℕ) (p : Set) (s : Rel) → picked es (map p ks) (table ks es s) ≡ map (λ j. some ks (λ k. p k && s k j)) es
unfolding picked blank some
picked_row es [] p s = refl
picked_row es (k ∷ ks) p s = pick es (p k) (s k) (λ j. some ks (λ k. p k && s k j)) (picked es (map p ks) (table ks es s)) (picked_row es ks p s)

times_table : (ms ks es : List ℕ) (r s : Rel) → times es (table ms ks r) (table ks es s) ≡ table ms es (compose ks r s)
unfolding times compose image
times_table ms ks es r s = map-map (λ x. picked es x (table ks es s)) (λ i. map (r i) ks) ms ∙ map_congr _ _ ms (λ i. picked_row es ks (r i) s)

turned_table : (ks es : List ℕ) (r : Rel) → turned es (table ks es r) ≡ table es ks (inverse r)
unfolding turned inverse
turned_table [] es r = refl
turned_table (k ∷ ks) es r = ap (zip_with ◌∷◌ (map (r k) es)) (turned_table ks es r) ∙ zip_map ◌∷◌ (r k) (λ j. map (λ i. r i j) ks) es

settle : {A : Type 0} (b : Bool) (x y z : A) → (T b → x ≡ z) → (¬ T b → y ≡ z) → elim b [ true ↦ x | false ↦ y ] ≡ z
settle true x y z f g = f tt
settle false x y z f g = g (λ h. h)

entry_map : {A : Type 0} (es : List ℕ) (k : ℕ) (f : ℕ → A) (d : A) → Memᴰ k es → entry es k (map f es) d ≡ f k
unfolding entry
entry_map {A = A} [] k f d x' = elim x' [ ]
entry_map (e ∷ es) k f d (Memᴰ.head p) =
    settle (eqb e k) (f e) (entry es k (map f es) d) (f k) (λ h. ap f (sym p)) (λ n. absurd (n (subst (λ x. T (eqb e x)) (sym p) (eqb_refl e))))
entry_map (e ∷ es) k f d (Memᴰ.tail m) =
    settle (eqb e k) (f e) (entry es k (map f es) d) (f k) (λ h. ap f (eqb→eq e k h)) (λ n. entry_map es k f d m)

-- One row of a round.
round_row : (es : List ℕ) (b : Bool) (x y : Set) → elim b [ true ↦ zip_with ◌||◌ (map x es) (map y es) | false ↦ map x es ] ≡ map (λ j. x j || (b && y j)) es
round_row es true x y = zip_map ◌||◌ x y es
round_row es false x y = map_congr _ _ es (λ j. sym (or-false (x j)))

round_table : (es : List ℕ) (k : ℕ) (r : Rel) → Memᴰ k es → round es k (table es es r) ≡ table es es (through k r)
unfolding round through
round_table es k r m =
    map-map _ (λ i. map (r i) es) es
    ∙ map_congr _ _ es (λ i. ap₂ (λ b y. elim b [ true ↦ zip_with ◌||◌ (map (r i) es) y | false ↦ map (r i) es ]) (entry_map es k (r i) false m) (entry_map es k (λ x. map (r x) es) [] m) ∙ round_row es (r i k) (r i) (r k))

rounds_table : (es ks : List ℕ) (r : Rel) → ((k : ℕ) → Memᴰ k ks → Memᴰ k es) → rounds es ks (table es es r) ≡ table es es (plus ks r)
unfolding rounds plus
rounds_table es [] r h = refl
rounds_table es (k ∷ ks) r h = ap (round es k) (rounds_table es ks r (λ m l. h m (Memᴰ.tail l))) ∙ round_table es k (plus ks r) (h k (Memᴰ.head refl))

ones_table : (ms es : List ℕ) (s : Set) → zip_with (λ e b. map (λ j. b && eqb e j) es) ms (map s ms) ≡ table ms es (identity s)
unfolding identity zip_with
ones_table [] es s = refl
ones_table (m ∷ ms) es s = ap (λ t. map (λ j. s m && eqb m j) es ∷ t) (ones_table ms es s)

or_row : (es : List ℕ) (s : Set) → or_all (map s es) ≡ some es s
unfolding or_all some
or_row [] s = refl
or_row (e ∷ es) s = ap (λ b. s e || b) (or_row es s)

-- Sets and relations as rows and tables.
abbrev pub Tables : Type 0
Tables = Execution Row Table

unfoldable pub eval_table : List ℕ → Term → Tables → Table
eval_table es loc X = X.loc
eval_table es po X = X.po
eval_table es rf X = X.rf
eval_table es co X = X.co
eval_table es rmw X = X.rmw
eval_table es «data» X = X.«data»
eval_table es addr X = X.addr
eval_table es ctrl X = X.ctrl
eval_table es casdep X = X.casdep
eval_table es ⟨ s ⟩ X = ones es (X.set s)
eval_table es ⟨codom r ⟩ X = ones es (picked es X.E (eval_table es r X))
eval_table es (r ⨾ s) X = times es (eval_table es r X) (eval_table es s X)
eval_table es (r ∪ s) X = zip ◌||◌ (eval_table es r X) (eval_table es s X)
eval_table es (r ∩ s) X = zip ◌&&◌ (eval_table es r X) (eval_table es s X)
eval_table es (r ∖ s) X = zip (λ a b. a && not b) (eval_table es r X) (eval_table es s X)
eval_table es (opt r) X = zip ◌||◌ (eval_table es r X) (ones es X.E)
eval_table es (r ⁻¹) X = turned es (eval_table es r X)
eval_table es (r ⁺) X = rounds es es (eval_table es r X)

-- The tables of given sets and relations.
unfoldable pub tabulated : List ℕ → Base → Tables
tabulated es B = record {
  E = map B.E es;
  Init = map B.Init es;
  set = λ s. map (B.set s) es;
  loc = table es es B.loc;
  po = table es es B.po;
  rf = table es es B.rf;
  co = table es es B.co;
  rmw = table es es B.rmw;
  «data» = table es es B.«data»;
  addr = table es es B.addr;
  ctrl = table es es B.ctrl;
  casdep = table es es B.casdep;
}

eval_table_lem : (es : List ℕ) (B : Base) (t : Term) → eval_table es t (tabulated es B) ≡ table es es (eval es t B)
unfolding eval_table tabulated eval either union both intersection minus difference optional ones image
eval_table_lem es B loc = refl
eval_table_lem es B po = refl
eval_table_lem es B rf = refl
eval_table_lem es B co = refl
eval_table_lem es B rmw = refl
eval_table_lem es B «data» = refl
eval_table_lem es B addr = refl
eval_table_lem es B ctrl = refl
eval_table_lem es B casdep = refl
eval_table_lem es B ⟨ s ⟩ = ones_table es es (B.set s)
eval_table_lem es B ⟨codom r ⟩ = ap (λ t. ones es (picked es (map B.E es) t)) (eval_table_lem es B r) ∙ (ap (ones es) (picked_row es es B.E (eval es r B)) ∙ ones_table es es (image es B.E (eval es r B)))
eval_table_lem es B (r ⨾ s) = ap₂ (times es) (eval_table_lem es B r) (eval_table_lem es B s) ∙ times_table es es es (eval es r B) (eval es s B)
eval_table_lem es B (r ∪ s) = ap₂ (zip ◌||◌) (eval_table_lem es B r) (eval_table_lem es B s) ∙ zip_table ◌||◌ es es (eval es r B) (eval es s B)
eval_table_lem es B (r ∩ s) = ap₂ (zip ◌&&◌) (eval_table_lem es B r) (eval_table_lem es B s) ∙ zip_table ◌&&◌ es es (eval es r B) (eval es s B)
eval_table_lem es B (r ∖ s) = ap₂ (zip (λ a b. a && not b)) (eval_table_lem es B r) (eval_table_lem es B s) ∙ zip_table (λ a b. a && not b) es es (eval es r B) (eval es s B)
eval_table_lem es B (opt r) = ap₂ (zip ◌||◌) (eval_table_lem es B r) (ones_table es es B.E) ∙ zip_table ◌||◌ es es (eval es r B) (identity B.E)
eval_table_lem es B (r ⁻¹) = ap (turned es) (eval_table_lem es B r) ∙ turned_table es es (eval es r B)
eval_table_lem es B (r ⁺) = ap (rounds es es) (eval_table_lem es B r) ∙ rounds_table es es (eval es r B) (λ k m. m)

-- Pairs from a set to a set.
unfoldable pub cross : Row → Row → Table
cross x y = map (λ a. map (λ b. a && b) y) x

cross_table : (es : List ℕ) (s t : Set) → cross (map s es) (map t es) ≡ table es es (λ a b. s a && t b)
unfolding cross
cross_table es s t = map-map _ s es ∙ map_congr _ _ es (λ a. map-map _ t es)

-- The codomain of a relation.
unfoldable pub codomain : List ℕ → Table → Row
codomain es t = map or_all (turned es t)

codomain_row : (es : List ℕ) (r : Rel) → codomain es (table es es r) ≡ map (λ e. some es (λ a. r a e)) es
unfolding codomain inverse
codomain_row es r = ap (map or_all) (turned_table es es r) ∙ (map-map or_all (λ j. map (inverse r j) es) es ∙ map_congr _ _ es (λ j. or_row es (inverse r j)))

-- The tables of a recording, with those of po, co and ctrl given.
unfoldable pub with_closures : List ℕ → Recording ℕ → Table → Table → Table → Tables
with_closures es r x y z = record {
  E = map (event r) es;
  Init = map r.initial es;
  set = λ s. map (member r s) es;
  loc = table es es (same_location r);
  po = x;
  rf = table es es (r.link 1);
  co = y;
  rmw = table es es (r.link 3);
  «data» = table es es (r.link 4);
  addr = table es es (r.link 5);
  ctrl = z;
  casdep = table es es (r.link 7);
}

-- The tables of a recording, each closure computed once.
unfoldable pub tables : List ℕ → Recording ℕ → Tables
tables es r =
    let po : Table = zip ◌||◌ (cross (map r.initial es) (map r.recorded es)) (rounds es es (table es es r.next)) in
    with_closures es r po (rounds es es (table es es (co_step r))) (times es (table es es (r.link 6)) (zip ◌||◌ po (ones es (map (event r) es))))

po_table : (es : List ℕ) (r : Recording ℕ) → zip ◌||◌ (cross (map r.initial es) (map r.recorded es)) (rounds es es (table es es r.next)) ≡ table es es (base es r).po
unfolding base either union
po_table es r = ap₂ (zip ◌||◌) (cross_table es r.initial r.recorded) (rounds_table es es r.next (λ k m. m)) ∙ zip_table ◌||◌ es es (λ a b. r.initial a && r.recorded b) (plus es r.next)

ctrl_table : (es : List ℕ) (r : Recording ℕ) (t : Table) → t ≡ table es es (base es r).po → times es (table es es (r.link 6)) (zip ◌||◌ t (ones es (map (event r) es))) ≡ table es es (base es r).ctrl
unfolding base either union optional ones
ctrl_table es r t p =
    ap (times es (table es es (r.link 6))) (ap₂ (zip ◌||◌) p (ones_table es es (event r)) ∙ zip_table ◌||◌ es es (base es r).po (identity (event r)))
    ∙ times_table es es es (r.link 6) (optional (event r) (base es r).po)

tables_are : (es : List ℕ) (r : Recording ℕ) → tables es r ≡ tabulated es (base es r)
unfolding tables with_closures tabulated base
tables_are es r = λ i. with_closures es r (po_table es r i) (rounds_table es es (co_step r) (λ k m. m) i) (ctrl_table es r _ (po_table es r) i)

-- The failures by tables.
unfoldable pub loops : List ℕ → Table → Row
loops es t = zip_with (λ e x. entry es e x false) es t

loops_row : (ms es : List ℕ) (r : Rel) → ((k : ℕ) → Memᴰ k ms → Memᴰ k es) → zip_with (λ e x. entry es e x false) ms (table ms es r) ≡ map (diagonal r) ms
unfolding diagonal zip_with
loops_row [] es r h = refl
loops_row (m ∷ ms) es r h = λ i. entry_map es m (r m) false (h m (Memᴰ.head refl)) i ∷ loops_row ms es r (λ k l. h k (Memᴰ.tail l)) i

loops_some : (es : List ℕ) (r : Rel) → or_all (loops es (table es es r)) ≡ some es (diagonal r)
unfolding loops
loops_some es r = ap or_all (loops_row es es r (λ k m. m)) ∙ or_row es (diagonal r)

unfoldable pub or_table : Table → Bool
or_table t = or_all (map or_all t)

or_table_lem : (es : List ℕ) (r : Rel) → or_table (table es es r) ≡ anywhere es r
unfolding or_table anywhere
or_table_lem es r = ap or_all (map-map or_all (λ i. map (r i) es) es ∙ map_congr _ _ es (λ i. or_row es (r i))) ∙ or_row es (λ a. some es (r a))

unfoldable pub unread_row : List ℕ → Tables → Row
unread_row es X = zip_with (λ a b. a && not b) (X.set R) (codomain es X.rf)

unfoldable pub unordered_table : List ℕ → Tables → Table
unordered_table es X =
    zip (λ a b. a && not b) (zip ◌&&◌ (cross (X.set W) (X.set W)) X.loc) (zip ◌||◌ (zip ◌||◌ (map (λ e. map (eqb e) es) es) X.co) (turned es X.co))

unfoldable pub failures_table : List ℕ → Tables → Model → List Numbered
failures_table es X M =
    (1, or_all (unread_row es X))
    ∷ (2, or_table (unordered_table es X))
    ∷ (3, or_all (loops es (eval_table es M.coherent X)))
    ∷ (4, or_table (eval_table es broken_pair X))
    ∷ (5, or_all (loops es (eval_table es (M.order ⁺) X)))
    ∷ []

unread_row_lem : (es : List ℕ) (B : Base) → or_all (unread_row es (tabulated es B)) ≡ some es (unread es B)
unfolding unread_row tabulated unread
unread_row_lem es B = ap or_all (ap (zip_with (λ a b. a && not b) (map (B.set R) es)) (codomain_row es B.rf) ∙ zip_map (λ a b. a && not b) (B.set R) (λ e. some es (λ a. B.rf a e)) es) ∙ or_row es (unread es B)

unordered_table_lem : (es : List ℕ) (B : Base) → unordered_table es (tabulated es B) ≡ table es es (unordered es B)
unfolding unordered_table tabulated unordered inverse
unordered_table_lem es B =
    ap₂ (zip (λ a b. a && not b))
    (ap (λ t. zip ◌&&◌ t (table es es B.loc)) (cross_table es (B.set W) (B.set W)) ∙ zip_table ◌&&◌ es es (λ a b. B.set W a && B.set W b) B.loc)
    (ap₂ (zip ◌||◌) (zip_table ◌||◌ es es eqb B.co) (turned_table es es B.co) ∙ zip_table ◌||◌ es es (λ a b. eqb a b || B.co a b) (inverse B.co))
    ∙ zip_table (λ a b. a && not b) es es (λ a b. B.set W a && B.set W b && B.loc a b) (λ a b. eqb a b || B.co a b || B.co b a)

failures_table_lem : (es : List ℕ) (B : Base) (M : Model) → failures_table es (tabulated es B) M ≡ failures es B M
unfolding failures_table failures
failures_table_lem es B M =
    let p₁ = unread_row_lem es B in
    let p₂ = ap or_table (unordered_table_lem es B) ∙ or_table_lem es (unordered es B) in
    let p₃ = ap (λ t. or_all (loops es t)) (eval_table_lem es B M.coherent) ∙ loops_some es (eval es M.coherent B) in
    let p₄ = ap or_table (eval_table_lem es B broken_pair) ∙ or_table_lem es (eval es broken_pair B) in
    let p₅ = ap (λ t. or_all (loops es t)) (eval_table_lem es B (M.order ⁺)) ∙ loops_some es (eval es (M.order ⁺) B) in
    λ i. (1, p₁ i) ∷ (2, p₂ i) ∷ (3, p₃ i) ∷ (4, p₄ i) ∷ (5, p₅ i) ∷ []

-- The verdict by tables.
-- To unfold it is to unfold all that it computes with: `unfolding table_verdict` lets it be evaluated by `refl`.
unfoldable pub table_verdict : List ℕ → Recording ℕ → Model → ℕ
unfolding zip_with event of_class of_mode flagged acquire_fence release_fence access same_location co_step first zip blank picked times turned entry round rounds ones or_all cross codomain loops or_table unread_row unordered_table eval_table with_closures tables failures_table
table_verdict es r M = first (failures_table es (tables es r) M)

pub table_verdict_lem : (es : List ℕ) (r : Recording ℕ) (M : Model) → verdict es (base es r) M ≡ table_verdict es r M
unfolding verdict table_verdict
table_verdict_lem es r M = sym (ap (λ X. first (failures_table es X M)) (tables_are es r) ∙ ap first (failures_table_lem es (base es r) M))

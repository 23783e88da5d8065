-- Laws of `some` and of the first pair of a relation.
use mathlib.Core.Path.{◌≡◌, refl, sym, ap, ap₂, ◌∙◌, fun_ext}
use mathlib.Core.List.{List, [], ◌∷◌}
use mathlib.Core.Bool.{Bool, true, false, not, ◌&&◌, ◌||◌, false≢true, and-false, or-false, or-true}
use Prim.Native.Nat.{ℕ, ◌<◌, ◌≤◌}
use native.Mathlib.Omega.{arith}
use borrow.Author.Tests.{lt-ltb, le-ltb}
use lib.Dec.{eqb, ltb}
use Rattle.std.specs.Prelude.{Option, Some, None}
use Rattle.relation.specs.Rel.{Set, Rel, union, intersection, difference, either, inverse, identity, optional, some, image, least, smallest, members, nodes}
use Rattle.relation.specs.Ring.{under}
use Rattle.relation.proofs.Truth.{is_false, same_test, and_right, and_both}
use Rattle.relation.proofs.SmallestLaws.{smallest_some, smallest_none, smallest_member, smallest_nothing}
use Rattle.relation.proofs.MemberLaws.{Searching, searching_start, searching_member, searching_next, searching_found, searching_none}
use Rattle.relation.proofs.Meaning.{mem_below, below_mem, some_sound, some_complete, some_least}
use Rattle.models.specs.Recording.{R, W}
use Rattle.models.specs.Graph.{Base}
use Rattle.models.specs.Rules.{anywhere, unread, unordered}
use Rattle.verdict.specs.declared.rules.Pair.{Pair}
use Rattle.verdict.specs.Shown.{first_of, second_of, FirstPair}

pub none_some : (s : Set) → ((x : ℕ) → x < 64 → s x ≡ false) → some nodes s ≡ false
none_some s none =
    is_false (some nodes s)
    (λ p. let (x, m, h) = some_sound nodes s p in false≢true (sym (none x (below_mem 64 x m)) ∙ h))

-- Some event is in s exactly where the least one is below 64.
pub some_below : (s : Set) → least 64 s < 64 → some nodes s ≡ true
some_below s h = sym (some_least s) ∙ lt-ltb (least 64 s) 64 h

pub some_above : (s : Set) → 64 ≤ least 64 s → some nodes s ≡ false
some_above s h = sym (some_least s) ∙ le-ltb (least 64 s) 64 h

-- So it is as s has a smallest member or none.
pub some_smallest : (s : Set) (k : ℕ) → smallest s ≡ Some k → some nodes s ≡ true
some_smallest s k e = let (p, h) = smallest_some s k e in some_below s (omega arith)

pub none_smallest : (s : Set) → smallest s ≡ None → some nodes s ≡ false
none_smallest s e = none_some s (smallest_nothing s e)

-- The image of all numbers below 64: where some event leads.
image_all : (r : Rel) → image nodes (under 64) r ≡ (λ j. some nodes (λ i. r i j))
unfolding image under
image_all r =
    fun_ext
    (λ j. same_test _ _
    (λ p. let (x, m, h) = some_sound nodes (λ i. ltb i 64 && r i j) p in some_complete nodes (λ i. r i j) x m (and_right (ltb x 64) (r x j) h))
    (λ p. let (x, m, h) = some_sound nodes (λ i. r i j) p in
    some_complete nodes (λ i. ltb i 64 && r i j) x m (and_both (ltb x 64) (r x j) (lt-ltb x 64 (below_mem 64 x m)) h)))

-- The reads without rf.
pub unread_is : {reads all seen out : Set} {rf : Rel} → all ≡ under 64 → seen ≡ image nodes all rf → out ≡ difference reads seen
    → (B : Base) → reads ≡ B.set R → rf ≡ B.rf → out ≡ unread nodes B
unfolding unread difference
unread_is a s o B p q = o ∙ ap₂ difference p (s ∙ ap₂ (image nodes) a q ∙ image_all B.rf)

-- What the search is for: b is a write of a's location that is not settled with a.
unfoldable pub unsettled_of : Set → Rel → Rel → Rel
unsettled_of writes loc settled a b = writes a && difference (intersection writes (loc a)) (settled a) b

pub unordered_is : {writes : Set} {loc co back joined settled : Rel} → back ≡ inverse co → joined ≡ either co back → settled ≡ optional writes joined
    → (B : Base) → writes ≡ B.set W → loc ≡ B.loc → co ≡ B.co → unsettled_of writes loc settled ≡ unordered nodes B
unfolding unsettled_of unordered difference intersection optional either union inverse identity
unordered_is {writes} {loc} {co} e f g B p q r =
    ap (unsettled_of writes loc) (g ∙ ap (optional writes) (f ∙ ap (either co) e))
    ∙ fun_ext (λ a. fun_ext (λ b. same_pair (writes a) (writes b) (loc a b) (eqb a b) (co a b) (co b a)))
    ∙ (λ i a b. (p i a && p i b && q i a b) && not (eqb a b || r i a b || r i b a))
  where
    same_pair : (v w l e c d : Bool) → v && ((w && l) && not ((c || d) || (v && e))) ≡ (v && w && l) && not (e || c || d)
    same_pair false w l e c d = refl
    same_pair true w l true c d = ap (λ (x : Bool). (w && l) && not x) (or-true (c || d))
    same_pair true w l false c d = ap (λ (x : Bool). (w && l) && not x) (or-false (c || d))

-- The events that r leads from.
abbrev sources : Rel → Set
sources r a = some nodes (r a)

-- The first pair by the smallest events, and none where r leads from no event.
pub first_pair : {r : Rel} {a b : ℕ} → smallest (sources r) ≡ Some a → smallest (r a) ≡ Some b → FirstPair r (Some (record { first = a; second = b }))
unfolding first_of second_of
first_pair {r} {a} {b} e f =
    let (p, h) = smallest_some (sources r) a e in
    let (q, k) = smallest_some (r a) b f in
    record { none = tt; pair = (p, q ∙ ap (λ (x : ℕ). least 64 (r x)) p, h, k) }

pub no_pair : {r : Rel} → smallest (sources r) ≡ None → FirstPair r None
unfolding first_of
no_pair {r} e = record { none = smallest_none (sources r) e; pair = tt }

-- An event that r leads from leads to one.
pub leads_to : (r : Rel) (a : ℕ) → smallest (sources r) ≡ Some a → smallest (r a) ≡ None → ⊥
leads_to r a e f =
    let (x, m, h) = some_sound nodes (r a) (smallest_member (sources r) a e) in
    false≢true (sym (smallest_nothing (r a) f x (below_mem 64 x m)) ∙ h)

-- A relation has a pair, or none.
pub pair_found : {r : Rel} {p : Pair} → FirstPair r (Some p) → anywhere nodes r ≡ true
unfolding anywhere first_of
pair_found {r} {p} w = some_below (sources r) (let (e, f, g, h) = w.pair in omega arith)

pub pair_none : {r : Rel} → FirstPair r None → anywhere nodes r ≡ false
unfolding anywhere first_of
pair_none {r} w = some_above (sources r) (omega (arith, w.none))

-- The search goes through the writes a for one with an unsettled peer, and through the peers b of a for an unsettled one.
module _ (writes : Set) (loc settled : Rel) where
  abbrev unsettled : Rel
  unsettled = unsettled_of writes loc settled

  -- Of the writes these are left, and no other has an unsettled peer.
  abbrev pub Passing : List ℕ → Type 0
  Passing items = Searching writes (sources unsettled) items

  no_write : (a : ℕ) → writes a ≡ false → sources unsettled a ≡ false
  unfolding unsettled_of
  no_write a e = none_some _ (λ x h. rw e)

  pub pairs_first : {items : List ℕ} → items ≡ members writes → Passing items
  pairs_first = searching_start no_write

  pub pairs_none : {items : List ℕ} → Passing items → items ≡ [] → FirstPair unsettled None
  pairs_none w e = no_pair (searching_none no_write w e)

  -- In a's turn: of its peers these are left, and no other is unsettled.
  module _ (a : ℕ) where
    abbrev peers : Set
    peers = intersection writes (loc a)

    abbrev pub Turn : List ℕ → Type 0
    Turn left = Searching peers (unsettled a) left

    no_peer : (b : ℕ) → peers b ≡ false → unsettled a b ≡ false
    unfolding unsettled_of difference
    no_peer b e = ap (λ (x : Bool). writes a && (x && not (settled a b))) e ∙ and-false (writes a)

    settled_peer : (b : ℕ) → settled a b ≡ true → unsettled a b ≡ false
    unfolding unsettled_of difference
    settled_peer b e = ap (λ (x : Bool). writes a && (peers b && not x)) e ∙ ap (λ (x : Bool). writes a && x) (and-false (peers b)) ∙ and-false (writes a)

    pub turn_first : {s : Set} {left : List ℕ} → left ≡ members s → s ≡ peers → Turn left
    turn_first e p = searching_start no_peer (e ∙ ap members p)

    module _ {left : List ℕ} (v : Turn left) where
      pub turn_next : {b : ℕ} {more : List ℕ} → left ≡ b ∷ more → settled a b ≡ true → Turn more
      turn_next {b} f e = searching_next no_peer v f (settled_peer b e)

      module _ {items rest : List ℕ} (w : Passing items) (turn : items ≡ a ∷ rest) where
        pub pairs_next : left ≡ [] → Passing rest
        pairs_next e = searching_next no_write w turn (none_some (unsettled a) (smallest_nothing (unsettled a) (searching_none no_peer v e)))

        pub pairs_found : {b : ℕ} {more : List ℕ} → left ≡ b ∷ more → settled a b ≡ false → FirstPair unsettled (Some (record { first = a; second = b }))
        unfolding unsettled_of difference
        pairs_found {b} f e =
            let second : smallest (unsettled a) ≡ Some b = searching_found no_peer v f there in
            let (k, h) = smallest_some (unsettled a) b second in
            first_pair (searching_found no_write w turn (some_complete nodes (unsettled a) b (mem_below 64 b h) there)) second
          where
            there : unsettled a b ≡ true
            there = and_both (writes a) _ (searching_member no_write w turn) (and_both (peers b) _ (searching_member no_peer v f) (ap not e))

-- The smallest event that r leads from, by the image of all events under its inverse.
pub smallest_source : (r : Rel) {back : Rel} {all from : Set} {p : Option ℕ} → all ≡ under 64 → back ≡ inverse r → from ≡ image nodes all back → p ≡ smallest from
    → p ≡ smallest (sources r)
unfolding inverse
smallest_source r p q s e = e ∙ ap smallest (s ∙ ap₂ (image nodes) p q ∙ image_all (inverse r))

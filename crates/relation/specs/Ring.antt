-- Rings: what a ring of a relation is, which are the shortest, and what the ring routine answers (01, "What is shown"; 02, slip 5).
-- A ring's closing step may be of another relation than its other steps.
use Rattle.std.specs.Prelude.{◌≡◌, List, ◌++◌, true, false, ℕ, zero, suc, ◌<◌, ◌≤◌, ltb, length, get_or, take, drop}
use Rattle.relation.specs.Rel.{Rel, Set, either, image, compose, inverse, plus, identity, nodes}

-- The event that follows position k of a ring: the first event follows the last.
unfoldable pub after : List ℕ → ℕ → ℕ
after l k = get_or l (suc k) (get_or l zero zero)

-- A ring of distinct events, the smallest first. Each step, last to first included, is of r, but for the step
-- that leaves position `closing`, which is of e. Where e is r, each step is of r.
pub record Ring (r e : Rel) (l : List ℕ) : Type 0 where
  pub distinct : (i j : ℕ) → i < j → j < length l → get_or l i zero ≡ get_or l j zero → ⊥
  pub smallest : (k : ℕ) → k < length l → get_or l zero zero ≤ get_or l k zero
  pub closing : ℕ
  pub inside : closing < length l
  pub steps : (k : ℕ) → k < length l → (k ≡ closing → ⊥) → r (get_or l k zero) (after l k) ≡ true
  pub closes : e (get_or l closing zero) (after l closing) ≡ true

-- "A ring such that every other ring of the same relation has at least as many events" (02, slip 5). A ring has as many steps as events.
pub record ShortestRing (r e : Rel) (l : List ℕ) : Type 0 where
  pub ring : Ring r e l
  pub fewest : (k : List ℕ) → Ring r e k → length l ≤ length k

-- r* ; e: any number of steps of r, then one of e.
unfoldable pub closed : Rel → Rel → Rel
closed r e = either e (compose nodes (plus nodes r) e)

-- What the ring routine answers: no event and the certificate that none comes back to itself, or a shortest ring.
pub record RingOrNone (r e : Rel) (l : List ℕ) : Type 0 where
  pub none : length l ≡ zero → (i : ℕ) → closed r e i i ≡ false
  pub ring : zero < length l → ShortestRing r e l

-- The numbers below n.
unfoldable pub under : ℕ → Set
under n j = ltb j n

-- Exactly n steps of r.
unfoldable pub power : ℕ → Rel → Rel
power zero r = identity (under 64)
power (suc n) r = compose nodes (power n r) r

-- The rest says what the parts of the ring routine do.

-- n is the fewest steps of r after which e closes a way from an event back to itself, and s such an event.
pub record Shortest (r e : Rel) (n s : ℕ) : Type 0 where
  pub few : n < 64
  pub inside : s < 64
  pub closes : compose nodes (power n r) e s s ≡ true
  pub fewest : (m : ℕ) → m < n → (t : ℕ) → compose nodes (power m r) e t t ≡ false

-- After fewer than n steps of r, e closes no way.
abbrev pub NoneBelow : ℕ → Rel → Rel → Type 0
NoneBelow n r e = (m : ℕ) → m < n → (t : ℕ) → compose nodes (power m r) e t t ≡ false

-- Each row of h but the first holds what leads there, by b backward, from the row before it.
pub record Levels (h b : Rel) : Type 0 where
  pub leads : (k : ℕ) → suc k < 64 → h (suc k) ≡ image nodes (h k) (inverse b)

-- The list is n steps of b backward from x, which is its last event, each event in its row of h.
pub record StepsBack (h b : Rel) (n x : ℕ) (l : List ℕ) : Type 0 where
  pub long : length l ≡ suc n
  pub end : get_or l n zero ≡ x
  pub level : (k : ℕ) → k ≤ n → h k (get_or l k zero) ≡ true
  pub step : (k : ℕ) → k < n → b (get_or l (suc k) zero) (get_or l k zero) ≡ true

-- The list is a way of n steps of r from s, whose end e closes.
pub record Way (r e : Rel) (s n : ℕ) (l : List ℕ) : Type 0 where
  pub long : length l ≡ suc n
  pub level : (k : ℕ) → k ≤ n → power k r s (get_or l k zero) ≡ true
  pub step : (k : ℕ) → k < n → r (get_or l k zero) (get_or l (suc k) zero) ≡ true
  pub close : e (get_or l n zero) s ≡ true

-- m is the place of a smallest of the first n.
pub record SmallestAt (l : List ℕ) (n m : ℕ) : Type 0 where
  pub inside : m < n
  pub least : (k : ℕ) → k < n → get_or l m zero ≤ get_or l k zero

-- `out` is the list, rotated left so that a smallest stands first.
pub record Turned (l out : List ℕ) : Type 0 where
  pub shift : ℕ
  pub front : SmallestAt l (length l) shift
  pub turned : out ≡ drop shift l ++ take shift l

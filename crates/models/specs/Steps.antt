-- Type-valued relations on events: one or more steps and their number, an optional step, the identity on a set.
use Rattle.std.specs.Prelude.{ℕ, suc}

-- r⁺: one or more steps of r.
pub data Plus {E : Type 0} (r : E → E → Type 0) : E → E → Type 0 where
  one : {a b : E} → r a b → Plus r a b
  cons : {a b c : E} → r a b → Plus r b c → Plus r a c

-- How many steps they are.
unfoldable pub count : {E : Type 0} {r : E → E → Type 0} {a b : E} → Plus r a b → ℕ
count (one h) = 1
count (cons h p) = suc (count p)

-- [s]: the identity on the set s.
pub data On {E : Type 0} (s : E → Type 0) : E → E → Type 0 where
  on : {a : E} → s a → On s a a

-- r?: a step of r, or none at an event of s.
pub data Opt {E : Type 0} (s : E → Type 0) (r : E → E → Type 0) : E → E → Type 0 where
  stay : {a : E} → s a → Opt s r a a
  step : {a b : E} → r a b → Opt s r a b

-- What the functions that read links ask of a file.
use Rattle.std.specs.Prelude.{◌≡◌, Bool, true, ◌&&◌, List, ℕ, ◌≤◌, leb, ltb}
use Rattle.layout.specs.Layout.{events, links, link_byte, link_start, Sized}
use Rattle.layout.specs.Chains.{follow, next_link, all_of, links_into}

-- A link record that lies within the file.
unfoldable pub within : List ℕ → ℕ → Bool
within f m = leb m (links f)

-- And whose source is below 64.
unfoldable pub readable : List ℕ → ℕ → Bool
readable f m = within f m && ltb (link_byte f m 2) 64

-- Every link of the file is readable.
pub record Readable (f : List ℕ) : Type 0 where
  pub sized : Sized f
  pub chains : (b : ℕ) → 1 ≤ b → b ≤ events f → all_of (links_into f b) (readable f) ≡ true

-- Every link of the file lies within it.
pub record Chained (f : List ℕ) : Type 0 where
  pub sized : Sized f
  pub chains : (b : ℕ) → 1 ≤ b → b ≤ events f → all_of (links_into f b) (within f) ≡ true

-- The links that are met from link x on, of which at most n are followed.
abbrev pub links_from : List ℕ → ℕ → ℕ → List ℕ
links_from f n x = follow (links f) (next_link f) n x

-- A walk along links: their records begin at `from`, link x is the next, and those that are left lie within the file.
pub record Walk (f : List ℕ) (from n x : ℕ) : Type 0 where
  pub sized : Sized f
  pub begins : from ≡ link_start f
  pub inside : all_of (links_from f n x) (within f) ≡ true

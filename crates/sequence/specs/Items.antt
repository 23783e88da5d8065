-- What a contract sees of a sequence.
use Rattle.std.specs.Prelude.{List, ◌++◌, ℕ, ◌+◌, length, take, drop}

-- The items in order, and the spare cells behind them, which become items only where more cells are taken than are written (`put`).
pub record Items (T : Type 0) : Type 0 where
  pub items : List T
  pub spare : List T

-- The cells with other items from a place on.
abbrev pub written : {T : Type 0} → Items T → ℕ → List T → List T
written s at more = let cells = s.items ++ s.spare in take at cells ++ (more ++ drop (at + length more) cells)

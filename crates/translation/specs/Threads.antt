-- Threads and their translation (02, slip 1): "Eighteen is enough, since a thread of 12 has at most six strong writes."
-- `proofs/Theorems.antt` proves it of every thread of a source file that loads.
use Rattle.std.specs.Prelude.{◌≡◌, true, false, List, [], ◌∷◌, ℕ, zero, suc, ◌+◌, ◌≤◌, length}
use Rattle.relation.specs.Rel.{Set}
use Rattle.layout.specs.Layout.{chip, most_in_thread}
use Rattle.layout.specs.Chains.{thread}
use Rattle.translation.specs.Contents.{contents}
use Rattle.translation.specs.Translate.{strong}
use Rattle.translation.specs.Translation.{translation}

-- How many of a list are in s.
unfoldable pub count_of : List ℕ → Set → ℕ
count_of [] s = zero
count_of (x ∷ l) s = elim (s x) [ true ↦ suc (count_of l s) | false ↦ count_of l s ]

-- The strong writes of thread t, from 0.
abbrev pub strong_in : List ℕ → ℕ → ℕ
strong_in f t = count_of (thread f t) (strong (contents f))

-- Thread t of a source file has at most six; translated it has one event more for each, which a chip file has room for.
pub record ThreadTranslated (f : List ℕ) (t : ℕ) : Type 0 where
  pub few_strong : strong_in f t ≤ 6
  pub longer : length (thread (translation f) t) ≡ length (thread f t) + strong_in f t
  pub enough : length (thread (translation f) t) ≤ most_in_thread chip

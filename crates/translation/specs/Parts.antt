-- What the parts of the translator ask for and answer.
use Rattle.std.specs.Prelude.{◌≡◌, ◌&&◌, List, [], ◌∷◌, ℕ, suc, ◌+◌, ◌<◌, ◌≤◌, leb, get_or}
use Rattle.relation.specs.Rel.{Set, Rel, either, inverse, count}
use Rattle.relation.specs.Bits.{bit}
use Rattle.layout.specs.Layout.{source}
use Rattle.recording.specs.Load.{LoadsAs}
use Rattle.translation.specs.Contents.{Contents, contents}
use Rattle.translation.specs.Translate.{new_events, follows, from_exclusive, from_casdep, new_link, translated}
use Rattle.translation.specs.Encode.{chained, records, is_link, link_record, links_up_to}

-- A source file that loads.
abbrev pub Source : List ℕ → Type 0
Source f = LoadsAs source f

module _ (s : Contents) where
  -- An event of the translation.
  pub record NewEvent (e : ℕ) : Type 0 where
    pub low : 1 ≤ e
    pub high : e ≤ new_events s

  -- From each recorded event to the one directly after it.
  unfoldable pub recorded_follows : Rel
  recorded_follows e b = (leb 1 e && leb e s.events) && follows s e b

  -- The ctrl links of the translation, from target to source.
  unfoldable pub ctrl_into : Rel
  ctrl_into = inverse (either (s.link 6) (either (from_exclusive s) (from_casdep s)))

  -- The rows hold the sources of the translation's links into b, by type.
  pub record RowsInto (b : ℕ) (rows : List (List ℕ)) : Type 0 where
    pub row : (t : ℕ) → t < 8 → bit (get_or rows t []) ≡ inverse (new_link s t) b

-- A source file that loads, with a grid of the translation's ctrl links.
pub record Ready (f : List ℕ) (ctrl : Rel) : Type 0 where
  pub source : Source f
  pub grid : ctrl ≡ ctrl_into (contents f)

-- How many links of the translation there are into events 1 to b, for each b up to n.
pub record Ends (f : List ℕ) (n : ℕ) (at : List ℕ) : Type 0 where
  pub upto : (b : ℕ) → b ≤ n → get_or at b 0 ≡ links_up_to (translated (contents f)) b

-- The record of the link of type t from a, where n links come before those of the row, and `last` is the number of the last into the same event.
unfoldable pub row_record : ℕ → ℕ → ℕ → Set → ℕ → List ℕ
row_record t last n row a = chained last (suc (n + count a row)) ∷ t ∷ a ∷ 0 ∷ []

-- The records of the links numbered from k on, d numbers in all.
unfoldable pub link_stretch : Contents → ℕ → ℕ → List ℕ
link_stretch c k d = records (λ i. link_record c (k + i)) (λ i. is_link c (k + i)) d

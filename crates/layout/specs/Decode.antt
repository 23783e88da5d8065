-- The recording that a file holds (01, "The recording"), read at the places that Layout names.
use Rattle.std.specs.Prelude.{Bool, true, false, ◌&&◌, List, ℕ, ◌+◌, ◌-◌, ◌*◌, eqb, leb, ltb}
use Rattle.relation.specs.Rel.{some}
use Rattle.models.specs.Recording.{Recording}
use Rattle.layout.specs.Layout.{events, locations, event_byte, link_byte, first_initial}
use Rattle.layout.specs.Chains.{next_event, links_into}

-- Event records are numbered from 1 to N.
unfoldable pub is_recorded : List ℕ → ℕ → Bool
is_recorded f e = leb 1 e && leb e (events f)

-- Each location l below L has an initial write, numbered 56 + l.
unfoldable pub is_initial : List ℕ → ℕ → Bool
is_initial f e = leb first_initial e && ltb e (first_initial + locations f)

-- What an event's record says, or what an initial write has. A number below 56 that has no record gives 0; one from 56 on gives what an
-- initial write has, also where there is none: `initial` and `recorded` say which numbers are events.
unfoldable pub record_or : List ℕ → (ℕ → ℕ) → (ℕ → ℕ) → ℕ → ℕ
record_or f given recorded e =
    elim (leb first_initial e) [ true ↦ given e | false ↦ elim (is_recorded f e) [ true ↦ recorded e | false ↦ 0 ] ]

-- Byte k of an event's record; `given` for an initial write.
unfoldable pub field_or : List ℕ → ℕ → ℕ → ℕ → ℕ
field_or f k given = record_or f (λ e. given) (λ e. event_byte f e k)

unfoldable pub decode : List ℕ → Recording ℕ
decode f =
    record {
      -- an initial write has class 2, is relaxed and has value 0
      class = field_or f 1 2;
      mode = field_or f 2 0;
      flag = field_or f 3 0;
      location = record_or f (λ e. e - first_initial) (λ e. event_byte f e 4);
      value = λ e. field_or f 5 0 e + 256 * field_or f 6 0 e;
      initial = is_initial f;
      recorded = is_recorded f;
      next = λ a b. is_recorded f a && is_recorded f b && eqb (next_event f a) b;
      link = λ t a b. is_recorded f b && some (links_into f b) (λ m. eqb (link_byte f m 1) t && eqb (link_byte f m 2) a);
    }

-- What the records of a file say, number by number (01, "The recording"): what the translation reads and what it makes.
use Rattle.std.specs.Prelude.{Bool, List, ℕ}
use Rattle.layout.specs.Layout.{kind, events, locations, event_byte}
use Rattle.layout.specs.Chains.{next_event, head}
use Rattle.layout.specs.Decode.{decode}

pub record Contents : Type 0 where
  -- The header: kind, N event records, L locations, the head of each thread (from 0).
  pub kind : ℕ
  pub events : ℕ
  pub locations : ℕ
  pub head : ℕ → ℕ
  -- Of each event record: the next event of the thread (0 ends the chain), class, mode, flag, location,
  -- the value's low and high byte.
  pub next : ℕ → ℕ
  pub class : ℕ → ℕ
  pub mode : ℕ → ℕ
  pub flag : ℕ → ℕ
  pub location : ℕ → ℕ
  pub low : ℕ → ℕ
  pub high : ℕ → ℕ
  -- link t a b: there is a link of type t from a to b.
  pub link : ℕ → ℕ → ℕ → Bool

-- What the records of a file say.
unfoldable pub contents : List ℕ → Contents
contents f =
    record {
      kind = kind f;
      events = events f;
      locations = locations f;
      head = head f;
      next = next_event f;
      class = λ e. event_byte f e 1;
      mode = λ e. event_byte f e 2;
      flag = λ e. event_byte f e 3;
      location = λ e. event_byte f e 4;
      low = λ e. event_byte f e 5;
      high = λ e. event_byte f e 6;
      link = (decode f).link;
    }

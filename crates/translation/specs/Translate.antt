-- The translation of a source recording (01, "The translation"), sentence by sentence.
use Rattle.std.specs.Prelude.{Bool, true, false, ◌&&◌, ◌||◌, ℕ, suc, ◌+◌, eqb, leb}
use Rattle.relation.specs.Rel.{Set, Rel, compose, least, count, nodes}
use Rattle.translation.specs.Contents.{Contents}

module _ (s : Contents) where
  -- The events of class k with flag 1: the exclusive reads, and the strong writes.
  unfoldable pub flagged : ℕ → Set
  flagged k e = leb 1 e && leb e s.events && eqb (s.class e) k && eqb (s.flag e) 1

  abbrev pub exclusive : Set
  exclusive = flagged 1

  abbrev pub strong : Set
  strong = flagged 2

  -- "Read and write modes stay, strong flags become 0. Fence 1 becomes 5; fences 2, 3, 4 become 6."
  unfoldable pub new_mode : ℕ → ℕ
  new_mode e = elim (eqb (s.class e) 3) [ true ↦ elim (eqb (s.mode e) 1) [ true ↦ 5 | false ↦ 6 ] | false ↦ s.mode e ]

  unfoldable pub new_flag : ℕ → ℕ
  new_flag e = elim (strong e) [ true ↦ 0 | false ↦ s.flag e ]

  -- "After each strong write a fence of mode 5 is chained in, numbered N + 1 upward by the write's number."
  -- The fence of the strong write w, the new N, and the strong write whose fence e is.
  unfoldable pub inserted : ℕ → ℕ
  inserted w = suc s.events + count w strong

  unfoldable pub new_events : ℕ
  new_events = s.events + count (suc s.events) strong

  unfoldable pub fenced : ℕ → ℕ
  fenced e = least 64 (λ w. strong w && eqb (inserted w) e)

  -- The event directly after e in the new chain, 0 where there is none: after a strong write its fence, after the fence what followed the write.
  unfoldable pub after : ℕ → ℕ
  after e =
      elim (leb e s.events) [
        | true ↦ elim (strong e) [ true ↦ inserted e | false ↦ s.next e ]
        | false ↦ s.next (fenced e)
      ]

  unfoldable pub follows : Rel
  follows e b = eqb (after e) b

  -- "Events keep their numbers": what the record of e says, or what an inserted fence has.
  unfoldable pub kept_or : (ℕ → ℕ) → ℕ → ℕ → ℕ
  kept_or kept new e = elim (leb e s.events) [ true ↦ kept e | false ↦ new ]

  -- "For each exclusive read r a ctrl link goes to the event directly after r; if r has both rmw and data to its write,
  -- to the event after that write." A pair's write is the event directly after its read.
  unfoldable pub controlled : ℕ → ℕ
  controlled r = elim (s.link 3 r (s.next r) && s.link 4 r (s.next r)) [ true ↦ after (s.next r) | false ↦ after r ]

  unfoldable pub from_exclusive : Rel
  from_exclusive r b = exclusive r && eqb (controlled r) b

  -- "Each casdep q to e becomes ctrl q to the event directly after e."
  unfoldable pub from_casdep : Rel
  from_casdep = compose nodes (s.link 7) follows

  -- "Links 1 to 6 stay"; ctrl (6) gains these; "with no such event there is no link".
  unfoldable pub new_link : ℕ → ℕ → ℕ → Bool
  new_link t a b =
      leb 1 b && leb b new_events
      && ((leb 1 t && leb t 6 && s.link t a b) || (eqb t 6 && (from_exclusive a b || from_casdep a b)))

  -- "The header has kind 2, the new N .., the old L and heads." An inserted fence has class 3, mode 5, and flag, location and value 0.
  unfoldable pub translated : Contents
  translated =
      record {
        kind = 2;
        events = new_events;
        locations = s.locations;
        head = s.head;
        next = after;
        class = kept_or s.class 3;
        mode = kept_or new_mode 5;
        flag = kept_or new_flag 0;
        location = kept_or s.location 0;
        low = kept_or s.low 0;
        high = kept_or s.high 0;
        link = new_link;
      }

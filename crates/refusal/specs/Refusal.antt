-- The causes of refusal by their numbers.
use Rattle.std.specs.Prelude.{ℕ, Result, Ok, Err}
use Rattle.refusal.specs.declared.Refusal.{Refusal}
use Rattle.refusal.specs.declared.Refusal.TheVariants.{TooShort, KindUnknown, OverLimit, WrongLength, BadEvent, BadThreads, BadChains, BadLink, CoRing, Unpaired, OtherSide, NoRoom, LongThread}

abbrev pub number : Refusal → ℕ
number TooShort = 1
number KindUnknown = 2
number OverLimit = 3
number WrongLength = 4
number BadEvent = 5
number BadThreads = 6
number BadChains = 7
number BadLink = 8
number CoRing = 9
number Unpaired = 10
number OtherSide = 11
number NoRoom = 12
number LongThread = 13

-- The number of the cause that refused, and 0 of an answer that is no refusal.
abbrev pub number_of : {A : Type 0} → Result A Refusal → ℕ
number_of (Ok a) = 0
number_of (Err r) = number r

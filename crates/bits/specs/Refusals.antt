-- The refusals (docs/DECISIONS.md, "The refusals"), by their numbers.
use Rattle.std.specs.Prelude.{ℕ}
use Rattle.bits.specs.declared.Refusal.{Refusal}
use Rattle.bits.specs.declared.Refusal.TheVariants.{TooLong, EndsEarly, Version, Counts, Reserved, Second, Early, PastElement, Room, NotValid, NoFit, Outside, Lists, NoSuch, Many, BadLine, ShortText}
use Rattle.bits.specs.Language.{past_payload, past_declared}

abbrev pub number_of : Refusal → ℕ
number_of TooLong = 1
number_of EndsEarly = past_payload
number_of Version = 3
number_of Counts = 4
number_of Reserved = 5
number_of Second = 6
number_of Early = 7
number_of PastElement = past_declared
number_of Room = 9
number_of NotValid = 10
number_of NoFit = 11
number_of Outside = 12
number_of Lists = 13
number_of NoSuch = 14
number_of Many = 16
number_of BadLine = 17
number_of ShortText = 18

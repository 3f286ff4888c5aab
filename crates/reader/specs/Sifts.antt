-- What `sift` answers: which elements of a payload salvage drops, as numbers and an array, or a refusal.
use Rattle.std.specs.Prelude.{List, ◌++◌, ℕ, ◌-◌, ◌*◌, leb, length, replicate, Result, Ok, Err}
use Rattle.bits.specs.declared.Refusal.TheVariants.{TooLong}
use Rattle.bits.specs.Refusals.{number_of}
use Rattle.bits.specs.Language.{Res, ok, no, pick, bit}
use Rattle.oamd.specs.declared.Gone.{Gone}
use Rattle.oamd.specs.Tables.{most_bytes, most_elements}
use Rattle.oamd.specs.Element.{State}
use Rattle.oamd.specs.Sift.{Sieve, sieve}
use Rattle.oamd.specs.Answer.{missing_of}
use Rattle.reader.specs.declared.Sifted.{Sifted}
use Rattle.reader.specs.declared.Refused.{Refused}

abbrev pub no_gone : Gone
no_gone = record { from = record { 0 = 0 }; to = record { 0 = 0 }; place = record { 0 = 0 }; id = 0; refusal = 0 }

-- as an array, filled up with zeros
abbrev pub filled : List Gone → List Gone
filled gone = gone ++ replicate (most_elements - length gone) no_gone

-- a refusal ends it: nothing is said of the elements before it
abbrev pub unsifted : ℕ → ℕ → ℕ → Refused
unsifted number place missing = record { place = place; missing = missing; refusal = number }

-- that of a reading, with the bits that it answers as missing
abbrev pub refusal_of : ℕ → ℕ → ℕ → Refused
refusal_of number place missing = unsifted number place (missing_of number missing)

abbrev pub sifted_by : Sieve → Res State → Result Sifted Refused
sifted_by x (ok st to) = Ok (record {
  head = record { 0 = x.head };
  count = x.count;
  body = record { 0 = x.body };
  drops = length x.sifting.gone;
  gone = filled x.sifting.gone;
})
sifted_by x (no r pl m) = Err (refusal_of r pl m)

abbrev pub sifted_from : Res Sieve → Result Sifted Refused
sifted_from (ok x to) = sifted_by x x.sifting.last
sifted_from (no r pl m) = Err (refusal_of r pl m)

-- the length is looked at first of all
unfoldable pub sifted : List ℕ → Result Sifted Refused
sifted s = pick (leb (length s) most_bytes) (sifted_from (sieve (bit s) (8 * length s))) (Err (unsifted (number_of TooLong) (length s) 0))

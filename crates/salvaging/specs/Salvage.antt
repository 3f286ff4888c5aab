-- What a salvage answers, and what the lent buffer holds afterwards, for all bytes and all buffers (document 02, item 12).
use Rattle.std.specs.Prelude.{List, [], ◌∷◌, ◌++◌, map, ℕ, ◌-◌, ◌*◌, leb, length, replicate}
use Rattle.bits.specs.declared.Refusal.TheVariants.{TooLong, NoFit}
use Rattle.bits.specs.Refusals.{number_of}
use Rattle.bits.specs.Language.{Res, ok, no, pick, Bits, slice, bit}
use Rattle.bits.specs.Writes.{to_bytes}
use Rattle.oamd.specs.declared.Gone.{Gone}
use Rattle.oamd.specs.Tables.{most_bytes, most_elements}
use Rattle.oamd.specs.Record.{onto}
use Rattle.oamd.specs.Element.{State}
use Rattle.oamd.specs.Sift.{Sieve, sieve}
use Rattle.oamd.specs.Answer.{missing_of}
use Rattle.demands.specs.Assembly.{count_bits}
use Rattle.salvaging.specs.declared.Drop.{Drop}
use Rattle.salvaging.specs.declared.SalvageAnswer.{SalvageAnswer}

-- ---- what is left

-- the bits from at on up to before e, those of the dropped elements left out
unfoldable pub without : Bits → ℕ → List Gone → ℕ → List ℕ
without b at [] e = slice b at (e - at)
without b at (g ∷ gs) e = slice b at (g.from.0 - at) ++ without b g.to.0 gs e

-- what is left when these elements are dropped: the header, the element count written anew, and all that stands behind it, the bits behind the last element included
unfoldable pub left : Bits → ℕ → Sieve → List Gone → List ℕ
left b e x gone = slice b 0 x.head ++ (count_bits (x.count - length gone) ++ without b x.body gone e)

-- ---- the answer

-- the answer, and the lent buffer afterwards
pub record Salvaged : Type 0 where
  pub answer : SalvageAnswer
  pub out : List ℕ

-- a drop as it is reported: the refusal's place in the payload as it came, the element's id, the refusal
abbrev pub drop_of : Gone → Drop
drop_of g = record { place = g.place; id = g.id; refusal = g.refusal }

abbrev pub no_drop : Drop
no_drop = record { place = record { 0 = 0 }; id = 0; refusal = 0 }

-- all of them, the array filled up with zeros
abbrev pub reported : List Gone → List Drop
reported gone = map drop_of gone ++ replicate (most_elements - length gone) no_drop

-- refused: all but refusal, place and missing bits is 0, and no drop is reported
abbrev pub refused_with : ℕ → ℕ → ℕ → SalvageAnswer
refused_with number place missing = record {
  place = place;
  missing = missing;
  length = record { 0 = 0 };
  refusal = number;
  drops = 0;
  dropped = replicate most_elements no_drop;
}

-- accepted: how many bytes are left, and what was dropped
abbrev pub accepted_with : ℕ → List Gone → SalvageAnswer
accepted_with bytes gone = record {
  place = 0;
  missing = 0;
  length = record { 0 = bytes };
  refusal = 0;
  drops = length gone;
  dropped = reported gone;
}

-- refused, the buffer is as it came
abbrev pub not_salvaged : List ℕ → ℕ → ℕ → ℕ → Salvaged
not_salvaged out number place missing = record { answer = refused_with number place missing; out = out }

-- accepted, the payload is the first bytes of the buffer, and the others stay
abbrev pub salvaged_to : List ℕ → List Gone → List ℕ → Salvaged
salvaged_to out gone payload = record { answer = accepted_with (length payload) gone; out = onto payload out }

-- the room is looked at last of all
unfoldable pub roomed : List ℕ → List Gone → List ℕ → Salvaged
roomed out gone payload =
    pick (leb (length payload) (length out)) (salvaged_to out gone payload) (not_salvaged out (number_of NoFit) (length payload) 0)

-- the bytes of what is left, the last one filled up with zero bits
unfoldable pub remaining : List ℕ → Sieve → List ℕ
remaining s x = to_bytes (left (bit s) (8 * length s) x x.sifting.gone)

abbrev pub finished : List ℕ → List ℕ → Sieve → Res State → Salvaged
finished s out x (ok st to) = roomed out x.sifting.gone (remaining s x)
finished s out x (no r pl m) = not_salvaged out r pl (missing_of r m)

abbrev pub concluded : List ℕ → List ℕ → Res Sieve → Salvaged
concluded s out (ok x to) = finished s out x x.sifting.last
concluded s out (no r pl m) = not_salvaged out r pl (missing_of r m)

-- the length is looked at first of all
unfoldable pub salvaging : List ℕ → List ℕ → Salvaged
salvaging s out =
    pick (leb (length s) most_bytes) (concluded s out (sieve (bit s) (8 * length s))) (not_salvaged out (number_of TooLong) (length s) 0)

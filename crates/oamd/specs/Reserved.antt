-- The fields that are decoded here and of which the standard reserves values.
use Rattle.std.specs.Prelude.{Bool, List, [], ◌∷◌, ℕ}
use Rattle.bits.specs.declared.Refusal.TheVariants.{Reserved}
use Rattle.bits.specs.Refusals.{number_of}
use Rattle.bits.specs.Language.{between, P, when, bits_unless}

pub data Field : Type 0 where
  IntermediateSpatialFormatIdx : Field
  SampleOffsetCode : Field
  ZoneConstraintsIdx : Field
  ObjectSizeIdx : Field
  WarpMode : Field
  GlobalTrimMode : Field
  TrimSurround : Field
  TrimHeight : Field
  ObjectDivMode : Field
  ObjectDivCode : Field

-- how many bits a field has, and its reserved values, from the first to the last
pub record Coding : Type 0 where
  pub width : ℕ
  pub first : ℕ
  pub last : ℕ

abbrev pub coded : ℕ → ℕ → ℕ → Coding
coded width first last = record { width = width; first = first; last = last }

abbrev pub coding_of : Field → Coding
coding_of IntermediateSpatialFormatIdx = coded 3 6 7  -- Table 11b
coding_of SampleOffsetCode = coded 2 3 3  -- Table 22
coding_of ZoneConstraintsIdx = coded 3 6 7  -- Table 20
coding_of ObjectSizeIdx = coded 2 3 3  -- Table 17
coding_of WarpMode = coded 2 2 3  -- Table 32
coding_of GlobalTrimMode = coded 2 3 3  -- Table 33
coding_of TrimSurround = coded 4 0 3  -- Table 36
coding_of TrimHeight = coded 4 0 3  -- Table 37
coding_of ObjectDivMode = coded 2 3 3  -- Table 40
coding_of ObjectDivCode = coded 6 0 0  -- Table 42

abbrev pub width_of : Field → ℕ
width_of f = (coding_of f).width

abbrev pub first_reserved : Field → ℕ
first_reserved f = (coding_of f).first

abbrev pub last_reserved : Field → ℕ
last_reserved f = (coding_of f).last

-- all of them, in the order of 5.5
abbrev pub decoded : List Field
decoded =
    IntermediateSpatialFormatIdx ∷ SampleOffsetCode ∷ ZoneConstraintsIdx ∷ ObjectSizeIdx ∷ WarpMode ∷ GlobalTrimMode ∷ TrimSurround ∷ TrimHeight
    ∷ ObjectDivMode ∷ ObjectDivCode ∷ []

-- a value of a field is reserved
abbrev pub is_reserved : Field → ℕ → Bool
is_reserved f v = between (first_reserved f) (last_reserved f) v

-- a field, refused at its own first bit if its value is reserved
abbrev pub unreserved : Field → P ℕ
unreserved f = bits_unless (number_of Reserved) (width_of f) (is_reserved f)

-- such a field that is there only if the test holds; else it is 0
abbrev pub unreserved_if : Bool → Field → P ℕ
unreserved_if on f = when on (unreserved f) 0

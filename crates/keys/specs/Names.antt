-- The key names of the listing and of the catalogue as bytes, each with its sign of equality, for the definitions: those of the constants in src/lib.rt.
use Rattle.std.specs.Prelude.{ℕ, List, [], ◌∷◌}
use Prim.Native.Char.{code}
use Prim.Native.String.{String, [] as empty, ◌∷◌ as ◌before◌}

-- the bytes of a text, one for each character
abbrev pub ascii : String → List ℕ
ascii empty = []
ascii (c before cs) = code c ∷ ascii cs

abbrev pub refusal_key : List ℕ
refusal_key = ascii "refusal="

abbrev pub place_key : List ℕ
place_key = ascii "place="

abbrev pub missing_key : List ℕ
missing_key = ascii "missing="

abbrev pub objects_key : List ℕ
objects_key = ascii "objects="

abbrev pub bed_key : List ℕ
bed_key = ascii "bed="

abbrev pub isf_key : List ℕ
isf_key = ascii "isf="

abbrev pub dynamic_key : List ℕ
dynamic_key = ascii "dynamic="

abbrev pub blocks_key : List ℕ
blocks_key = ascii "blocks="

abbrev pub unknown_key : List ℕ
unknown_key = ascii "unknown="

abbrev pub block_key : List ℕ
block_key = ascii "block="

abbrev pub record_key : List ℕ
record_key = ascii "record="

abbrev pub frame_key : List ℕ
frame_key = ascii "frame="

abbrev pub start_key : List ℕ
start_key = ascii "start="

abbrev pub ramp_key : List ℕ
ramp_key = ascii "ramp="

abbrev pub object_key : List ℕ
object_key = ascii "object="

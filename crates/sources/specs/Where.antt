-- The bit of a payload at which a field of a record stands.
use Rattle.std.specs.Prelude.{Bool, true, false, List, [], ◌∷◌, ◌++◌, ℕ, zero, suc, ◌+◌, ◌*◌, length}
use Rattle.bits.specs.Language.{Res, ok, no, pick, P, give, ◌>>=◌, bit, past_payload}
use Rattle.oamd.specs.declared.Kind.{Kind}
use Rattle.oamd.specs.declared.Kind.TheVariants.{Unknown, Object, Trim, Extended}
use Rattle.oamd.specs.Element.{framed}
use Rattle.oamd.specs.Payload.{header, oa_element_count, object_audio_metadata_payload}
use Rattle.demands.specs.Terms.{runs}
use Rattle.sources.specs.declared.Field.{Field}
use Rattle.sources.specs.Places.{arrival, entry}
use Rattle.sources.specs.Sources.{Clause, info_block, div_block, prec_block, line_of}

-- ---- which element is the object element, and which the extended one

-- the kinds of n elements, one after the other, whatever they hold
unfoldable pub kinds : ℕ → ℕ → P (List Kind)
kinds alternate zero = give []
kinds alternate (suc n) = do
  k ← framed alternate (λ k size. give k)
  ks ← kinds alternate n
  give (k ∷ ks)

unfoldable pub payload_kinds : P (List Kind)
payload_kinds = do
  header ← header
  oa_element_count ← oa_element_count
  kinds header.alternate oa_element_count

abbrev pub list_of : Res (List Kind) → List Kind
list_of (ok ks to) = ks
list_of (no r pl m) = []

-- those of the payload s
unfoldable pub kinds_in : List ℕ → List Kind
kinds_in s = list_of (runs payload_kinds s 0)

abbrev pub is_object : Kind → Bool
is_object Unknown = false
is_object Object = true
is_object Trim = false
is_object Extended = false

abbrev pub is_extended : Kind → Bool
is_extended Unknown = false
is_extended Object = false
is_extended Trim = false
is_extended Extended = true

-- the index of the first of which the test holds
unfoldable pub index_of : (Kind → Bool) → List Kind → ℕ
index_of test [] = 0
index_of test (k ∷ ks) = pick (test k) 0 (suc (index_of test ks))

-- ---- paths from the payload's first line on

-- the fields of element i: line 2 of the payload is the elements, line i of these is element i, its line 6, behind id, size, alternate id, discard flag and the tests for a second and
-- for an early element, is `fields`, and line 0 of this is the clause
abbrev pub fields_path : ℕ → List ℕ
fields_path i = 2 ∷ i ∷ 6 ∷ 0 ∷ []

-- object_element, of the payload s
abbrev pub object_path : List ℕ → List ℕ
object_path s = fields_path (index_of is_object (kinds_in s))

-- extended_object_element
abbrev pub extended_path : List ℕ → List ℕ
extended_path s = fields_path (index_of is_extended (kinds_in s))

-- line 0 of the extended element is b_obj_div_block, line 2 b_ext_prec_pos_block
abbrev pub divergence_present : List ℕ
divergence_present = 0 ∷ []

abbrev pub precise_present : List ℕ
precise_present = 2 ∷ []

-- line 0 of ext_prec_pos_block is b_ext_prec_pos
abbrev pub precise_flag : List ℕ
precise_flag = 0 ∷ []

-- a line of a clause, for block b of object j, of n blocks each. Line 3 of the object element is the loop over objects, in it that over blocks; lines 1 and 3 of the extended element are
-- one loop each over both
unfoldable pub path_of : List ℕ → ℕ → ℕ → ℕ → Clause → List ℕ → List ℕ
path_of s n j b info_block path = object_path s ++ (3 ∷ (entry j ++ (entry b ++ path)))
path_of s n j b div_block path = extended_path s ++ (1 ∷ (entry (j * n + b) ++ path))
path_of s n j b prec_block path = extended_path s ++ (3 ∷ (entry (j * n + b) ++ path))

-- ---- bits

-- at which reading the bytes s comes to a line
unfoldable pub bit_of : List ℕ → List ℕ → ℕ
bit_of s path = arrival path object_audio_metadata_payload (bit s) 0 (8 * length s) past_payload

-- the first bit of a field
unfoldable pub field_bit : List ℕ → ℕ → ℕ → ℕ → Field → ℕ
field_bit s n j b f = bit_of s (path_of s n j b (line_of f).clause (line_of f).path)

-- 5.5.4 oa_element_md: an element's frame, its kind, and what it adds to what has been read.
use Rattle.std.specs.Prelude.{Bool, true, false, not, List, [], ℕ, zero, suc, ◌+◌, ◌*◌, eqb}
use Rattle.std.proofs.Math.Option.{Option, none, some}
use Rattle.bits.specs.declared.Size.{Size}
use Rattle.bits.specs.declared.Refusal.TheVariants.{Second, Early}
use Rattle.bits.specs.Refusals.{number_of}
use Rattle.bits.specs.Language.{pick, both, P, give, within, ◌>>=◌, bits, bits_if, refuse_if}
use Rattle.bits.specs.Size.{variable_bits_max}
use Rattle.oamd.specs.declared.Frame.{Frame}
use Rattle.oamd.specs.declared.Kind.{Kind}
use Rattle.oamd.specs.declared.Kind.TheVariants.{Unknown, Object, Trim, Extended}
use Rattle.oamd.specs.declared.Programme.{Programme}
use Rattle.oamd.specs.declared.Scene.{Scene}
use Rattle.oamd.specs.Programme.{set?, shares}
use Rattle.oamd.specs.ObjectElement.{ObjectElement, object_element}
use Rattle.oamd.specs.Extended.{Extension, extended_object_element}
use Rattle.oamd.specs.Trim.{TrimTable, trim_element}
use Rattle.oamd.specs.Meaning.{all_scenes}
use Rattle.oamd.specs.Record.{all_carry}

-- Table 26, as far as it is known here. Table 27 gives the alternate id a meaning for the object element only: with one other than 0 that element is
-- unknown, and the other elements ignore it
unfoldable pub kind : ℕ → ℕ → Kind
kind oa_element_id_idx alternate =
    pick (both (eqb oa_element_id_idx 1) (not (eqb alternate 0))) Unknown
    (pick (eqb oa_element_id_idx 1) Object (pick (eqb oa_element_id_idx 2) Trim (pick (eqb oa_element_id_idx 5) Extended Unknown)))

-- oa_element_size in bits: bytes that begin at any bit, counted from the alternate id, or else from the discard flag (5.6.4.3)
abbrev pub declared_length : Size → ℕ
declared_length size = 8 * (size.value + 1)

-- from the first bit of the size to the first that it counts
abbrev pub size_length : Size → ℕ
size_length size = 5 * size.groups

-- the bits that the alternate id, where there is one, and the discard flag take
abbrev pub head_length : ℕ → ℕ
head_length b_alternate_object_data_present = pick (set? b_alternate_object_data_present) 5 1

-- from the first bit of the id to behind the discard flag
abbrev pub back_to_id : ℕ → Size → ℕ
back_to_id b_alternate_object_data_present size = 4 + size_length size + head_length b_alternate_object_data_present

-- an element: id, size, which must fit, and, held to the declared end, the alternate id, the discard flag, and what f reads by its kind
unfoldable pub framed : {A : Type 0} → ℕ → (Kind → Size → P A) → P A
framed b_alternate_object_data_present f = do
  oa_element_id_idx ← bits 4
  oa_element_size_bits ← variable_bits_max
  within (declared_length oa_element_size_bits) (size_length oa_element_size_bits) (do
    alternate_object_data_id_idx ← bits_if (set? b_alternate_object_data_present) 4
    b_discard_unknown_element ← bits 1
    f (kind oa_element_id_idx alternate_object_data_id_idx) oa_element_size_bits)

-- what an element is known as, and its size, whatever it holds
abbrev pub frame : ℕ → P Frame
frame b_alternate_object_data_present = framed b_alternate_object_data_present (λ k size. give (record { kind = k; size = size }))

-- the known elements that have been read
pub record Known : Type 0 where
  pub object : Option ObjectElement
  pub trim : Option TrimTable
  pub extended : Option Extension

abbrev pub nothing : Known
nothing = record { object = none; trim = none; extended = none }

abbrev pub there : {A : Type 0} → Option A → Bool
there none = false
there (some a) = true

-- the scenes that stand
unfoldable pub scenes : Option ObjectElement → List Scene
scenes none = []
scenes (some e) = all_scenes [] e.objects

-- a known element whose kind has been read already
abbrev pub is_second : Kind → Known → Bool
is_second Unknown known = false
is_second Object known = there known.object
is_second Trim known = there known.trim
is_second Extended known = there known.extended

-- an extended element before any object element (house rule)
abbrev pub is_early : Kind → Known → Bool
is_early Unknown known = false
is_early Object known = false
is_early Trim known = false
is_early Extended known = not (there known.object)

-- what is known, with one element more: an updater for each field, and the only places that name all of them
abbrev pub with_object : ObjectElement → Known → Known
with_object e known = record { object = some e; trim = known.trim; extended = known.extended }

abbrev pub with_trim : TrimTable → Known → Known
with_trim t known = record { object = known.object; trim = some t; extended = known.extended }

abbrev pub with_extended : Extension → Known → Known
with_extended e known = record { object = known.object; trim = known.trim; extended = some e }

-- the fields of a known element
unfoldable pub fields : Programme → Kind → Known → P Known
fields p Unknown known = give known
fields p Object known = object_element p.objects (shares p) >>= λ e. give (with_object e known)
fields p Trim known = trim_element p.objects >>= λ t. give (with_trim t known)
fields p Extended known = extended_object_element (all_carry (scenes known.object)) >>= λ e. give (with_extended e known)

-- what has been read, and how many unknown elements were among it
pub record State : Type 0 where
  pub known : Known
  pub unknown : ℕ

-- an unknown element is passed over and counted
unfoldable pub pass_over : State → P State
pass_over st = give {A = State} (record { known = st.known; unknown = suc st.unknown })

-- a known element, back bits behind the first of its id: 6, then 7, then its fields
unfoldable pub read_known : Programme → ℕ → State → Kind → P State
read_known p back st k = do
  first ← refuse_if (is_second k st.known) (number_of Second) back k
  timely ← refuse_if (is_early k st.known) (number_of Early) back k
  known ← fields p k st.known
  give {A = State} (record { known = known; unknown = st.unknown })

unfoldable pub oa_element : Programme → ℕ → State → Kind → P State
oa_element p back st Unknown = pass_over st
oa_element p back st Object = read_known p back st Object
oa_element p back st Trim = read_known p back st Trim
oa_element p back st Extended = read_known p back st Extended

unfoldable pub oa_element_md : Programme → ℕ → State → P State
oa_element_md p alternate st = framed alternate (λ k size. oa_element p (back_to_id alternate size) st k)

-- n elements, one after the other
unfoldable pub elements : Programme → ℕ → ℕ → State → P State
elements p alternate zero st = give st
elements p alternate (suc n) st = oa_element_md p alternate st >>= λ st. elements p alternate n st

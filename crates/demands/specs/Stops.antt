-- When a refusal is given, in the words of docs/DECISIONS.md: the conditions of 2, 5 and 8, over the bytes of a payload.
use Rattle.std.specs.Prelude.{◌≡◌, Bool, true, List, [], ◌∷◌, ◌++◌, ◌⊎◌, ℕ, ◌+◌, ◌-◌, ◌*◌, ◌≤◌, ◌<◌, eqb, length}
use Rattle.std.proofs.Math.Option.{Option, none, some}
use Rattle.bits.specs.declared.Size.{Size}
use Rattle.bits.specs.Language.{ok, pick, both, P, field, slice, number, bit, past_payload, past_declared}
use Rattle.bits.specs.Size.{variable_bits_max}
use Rattle.bits.specs.Reached.{Comes}
use Rattle.oamd.specs.declared.Block.{Block}
use Rattle.oamd.specs.declared.Divergence.{Divergence}
use Rattle.oamd.specs.declared.Kind.{Kind}
use Rattle.oamd.specs.declared.Programme.{Programme}
use Rattle.oamd.specs.declared.TrimConfig.{TrimConfig}
use Rattle.oamd.specs.Programme.{set?, has_isf}
use Rattle.oamd.specs.Block.{has_zone, has_size}
use Rattle.oamd.specs.Trim.{has_surround, has_height}
use Rattle.oamd.specs.Reserved.{Field, IntermediateSpatialFormatIdx, SampleOffsetCode, ZoneConstraintsIdx, ObjectSizeIdx, WarpMode, GlobalTrimMode, TrimSurround, TrimHeight}
use Rattle.oamd.specs.Reserved.{ObjectDivMode, ObjectDivCode, unreserved}
use Rattle.oamd.specs.Element.{declared_length, State, fields, oa_element_md}
use Rattle.oamd.specs.Payload.{Payload, object_audio_metadata_payload}
use Rattle.demands.specs.Terms.{runs}
use Rattle.demands.specs.Skeleton.{is_known}

-- on the bytes s the reader of payloads comes to the reader q at the bit at, held to the payload's end
abbrev pub ComesTo : {A : Type 0} → List ℕ → P A → ℕ → Type 1
ComesTo s q at = Comes object_audio_metadata_payload (bit s) 0 (8 * length s) past_payload q at (8 * length s) past_payload

-- the element whose id begins at the bit id, and its size: the first bit of the size is that behind the four of the id
pub record Sized (s : List ℕ) (id : ℕ) : Type 1 where
  pub programme : Programme
  pub alternate : ℕ
  pub state : State
  pub comes : ComesTo s (oa_element_md programme alternate state) id
  pub size : Size
  pub behind : ℕ
  pub sized : runs variable_bits_max s (id + 4) ≡ ok size behind

-- its declared end, counted from behind its size
abbrev pub declared_end : {s : List ℕ} {id : ℕ} → Sized s id → ℕ
declared_end x = x.behind + declared_length x.size

-- 2: a field passes the payload's end, and the place is the field's first bit; or an element's declared end passes it, and the place is the first bit of its
-- size. Each group and each flag of a size is a field, and so is each run of reserved or additional data
pub data PassesPayload (s : List ℕ) (place : ℕ) : Type 1 where
  by_field : {A : Type 0} (w : ℕ) (f : List ℕ → A) → ComesTo s (field w f) place → 8 * length s < place + w → PassesPayload s place
  by_size : (id : ℕ) (x : Sized s id) → place ≡ id + 4 → 8 * length s < declared_end x → PassesPayload s place

-- by so many bits: those that are missing for the field, or for the declared size
abbrev pub missing_for : {s : List ℕ} {place : ℕ} → PassesPayload s place → ℕ
missing_for {s} {place} (by_field w f c l) = place + w - 8 * length s
missing_for {s} (by_size id x e l) = declared_end x - 8 * length s

-- 8: an element is known, and in it, held to its declared end, a field passes that end. The place is the field's first bit
pub record PassesElement (s : List ℕ) (place : ℕ) : Type 1 where
  pub id : ℕ
  pub element : Sized s id
  pub kind : Kind
  pub known : is_known kind ≡ true
  pub at : ℕ
  pub inside : Comes (oa_element_md element.programme element.alternate element.state) (bit s) id (8 * length s) past_payload
      (fields element.programme kind element.state.known) at (declared_end element) past_declared
  pub Value : Type 0
  pub width : ℕ
  pub value : List ℕ → Value
  pub comes : Comes (fields element.programme kind element.state.known) (bit s) at (declared_end element) past_declared (field width value) place
      (declared_end element) past_declared
  pub passes : declared_end element < place + width

-- ---- 5: reserved values

-- v is one of these
abbrev pub OneOf : ℕ → List ℕ → Type 0
OneOf v [] = ⊥
OneOf v (x ∷ xs) = (v ≡ x) ⊎ OneOf v xs

-- the fields that are decoded and of which the standard reserves values: how many bits each has
abbrev pub bits_in : Field → ℕ
bits_in IntermediateSpatialFormatIdx = 3
bits_in SampleOffsetCode = 2
bits_in ZoneConstraintsIdx = 3
bits_in ObjectSizeIdx = 2
bits_in WarpMode = 2
bits_in GlobalTrimMode = 2
bits_in TrimSurround = 4
bits_in TrimHeight = 4
bits_in ObjectDivMode = 2
bits_in ObjectDivCode = 6

-- and which values are reserved: Tables 11b, 22, 20, 17, 32, 33, 36, 37, 40 and 42
abbrev pub reserved_values : Field → List ℕ
reserved_values IntermediateSpatialFormatIdx = 6 ∷ 7 ∷ []
reserved_values SampleOffsetCode = 3 ∷ []
reserved_values ZoneConstraintsIdx = 6 ∷ 7 ∷ []
reserved_values ObjectSizeIdx = 3 ∷ []
reserved_values WarpMode = 2 ∷ 3 ∷ []
reserved_values GlobalTrimMode = 3 ∷ []
reserved_values TrimSurround = 0 ∷ 1 ∷ 2 ∷ 3 ∷ []
reserved_values TrimHeight = 0 ∷ 1 ∷ 2 ∷ 3 ∷ []
reserved_values ObjectDivMode = 3 ∷ []
reserved_values ObjectDivCode = 0 ∷ []

-- 5: one of these fields is there, and its bits are a reserved value. The place is its first bit
pub record CarriesReserved (s : List ℕ) (place : ℕ) : Type 1 where
  pub field : Field
  pub end : ℕ
  pub over : ℕ
  pub comes : Comes object_audio_metadata_payload (bit s) 0 (8 * length s) past_payload (unreserved field) place end over
  pub fits : place + bits_in field ≤ end
  pub reserved : OneOf (number (slice (bit s) place (bits_in field))) (reserved_values field)

-- ---- which values a payload as read carries for a field

-- a value that is carried only if the test holds
abbrev pub only_if : Bool → ℕ → List ℕ
only_if on v = pick on (v ∷ []) []

-- those of each entry of a list, and those of an element that may be there
abbrev pub of_each : {A : Type 0} → (A → List ℕ) → List A → List ℕ
of_each f [] = []
of_each f (x ∷ xs) = f x ++ of_each f xs

abbrev pub of_any : {A : Type 0} → (A → List ℕ) → Option A → List ℕ
of_any f none = []
of_any f (some a) = f a

abbrev pub zones_of : Block → List ℕ
zones_of b = only_if (has_zone b.render.parts) b.render.zone.index

abbrev pub sizes_of : Block → List ℕ
sizes_of b = only_if (has_size b.render.parts) b.render.extent.index

abbrev pub surrounds_of : TrimConfig → List ℕ
surrounds_of c = only_if (has_surround c.presence) c.surround

abbrev pub heights_of : TrimConfig → List ℕ
heights_of c = only_if (has_height c.presence) c.height

abbrev pub modes_of : Divergence → List ℕ
modes_of d = only_if (set? d.used) d.mode

-- mode 2 is followed by the code
abbrev pub codes_of : Divergence → List ℕ
codes_of d = only_if (both (set? d.used) (eqb d.mode 2)) d.value

abbrev pub carried : Field → Payload → List ℕ
carried IntermediateSpatialFormatIdx q = only_if (has_isf q.programme.content) q.programme.isf
carried SampleOffsetCode q = of_any (λ e. e.timing.offset.code ∷ []) q.known.object
carried ZoneConstraintsIdx q = of_any (λ e. of_each (of_each zones_of) e.objects) q.known.object
carried ObjectSizeIdx q = of_any (λ e. of_each (of_each sizes_of) e.objects) q.known.object
carried WarpMode q = of_any (λ t. t.warp ∷ []) q.known.trim
carried GlobalTrimMode q = of_any (λ t. t.mode ∷ []) q.known.trim
carried TrimSurround q = of_any (λ t. of_each surrounds_of t.configs) q.known.trim
carried TrimHeight q = of_any (λ t. of_each heights_of t.configs) q.known.trim
carried ObjectDivMode q = of_any (λ x. of_each modes_of x.divergence) q.known.extended
carried ObjectDivCode q = of_any (λ x. of_each codes_of x.divergence) q.known.extended

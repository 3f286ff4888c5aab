-- When a refusal is given, in the words of documents 01 and 02: the conditions of 3, 4, 6, 7 and 9, over the bytes of a payload.
use Rattle.std.specs.Prelude.{◌≡◌, true, false, List, ℕ, ◌+◌, ◌*◌, ◌≤◌, ◌<◌, eqb, length}
use Rattle.bits.specs.Language.{ok, give, bits, bits_if}
use Rattle.oamd.specs.declared.Kind.{Kind}
use Rattle.oamd.specs.declared.Programme.{Programme}
use Rattle.oamd.specs.Programme.{program_assignment, agrees}
use Rattle.oamd.specs.Tables.{record_stride}
use Rattle.oamd.specs.Trim.{trim_needed}
use Rattle.oamd.specs.Element.{framed, Known, nothing, is_second, is_early, elements}
use Rattle.oamd.specs.Payload.{oa_md_version, object_count, oa_element_count, Header, header}
use Rattle.oamd.specs.Answer.{Outcome, reading}
use Rattle.demands.specs.Terms.{runs}

-- 3: the version, and its extension where there is one, are there, and added up they are not 0
pub record OtherVersion (s : List ℕ) : Type 0 where
  pub version : ℕ
  pub extension : ℕ
  pub at : ℕ
  pub to : ℕ
  pub read : runs (bits 2) s 0 ≡ ok version at
  pub extended : runs (bits_if (eqb version 3) 3) s at ≡ ok extension to
  pub other : version + extension ≡ 0 → ⊥

-- 4: all up to the program assignment is read, the place is the first bit after it, and the object counts disagree
pub record CountsDisagree (s : List ℕ) (place : ℕ) : Type 0 where
  pub version : ℕ
  pub count : ℕ
  pub programme : Programme
  pub at : ℕ
  pub to : ℕ
  pub versioned : runs oa_md_version s 0 ≡ ok version at
  pub counted : runs object_count s at ≡ ok count to
  pub assigned : runs (program_assignment count) s to ≡ ok programme place
  pub disagree : agrees programme ≡ false

-- the element whose id begins at this place has a whole frame and is of the kind k, and the elements before it have been read and gave what is known
pub record Meets (s : List ℕ) (place : ℕ) (k : Kind) (known : Known) : Type 0 where
  pub head : Header
  pub count : ℕ
  pub done : ℕ
  pub unknown : ℕ
  pub at : ℕ
  pub to : ℕ
  pub end : ℕ
  pub headed : runs header s 0 ≡ ok head at
  pub counted : runs oa_element_count s at ≡ ok count to
  pub more : done < count
  pub read : runs (elements head.programme head.alternate done (record { known = nothing; unknown = 0 })) s to
      ≡ ok (record { known = known; unknown = unknown }) place
  pub framed : runs (framed head.alternate (λ k size. give k)) s place ≡ ok k end

-- 6: it is a second known element of its kind
pub record SecondKnown (s : List ℕ) (place : ℕ) : Type 0 where
  pub kind : Kind
  pub known : Known
  pub meets : Meets s place kind known
  pub second : is_second kind known ≡ true

-- 7: it is the first extended object element, and there is no object element before it
pub record EarlyExtended (s : List ℕ) (place : ℕ) : Type 0 where
  pub kind : Kind
  pub known : Known
  pub meets : Meets s place kind known
  pub first : is_second kind known ≡ false
  pub early : is_early kind known ≡ true

-- the bytes that the records of an accepted answer take, 32 for each object and block
abbrev pub bytes_needed : Outcome → ℕ
bytes_needed o = record_stride * (o.answer.programme.objects * o.answer.timing.blocks)

-- and those that its trim table takes, 94 and one for each object
abbrev pub trim_bytes_needed : Outcome → ℕ
trim_bytes_needed o = trim_needed o.answer.programme.objects

-- the buffer for the records is shorter than the bytes that they need, and the place is these; or it is long enough, the trim buffer is shorter than the
-- bytes that the trim table needs, and the place is those
pub data Short (buffer trim : List ℕ) (records table place : ℕ) : Type 0 where
  records-short : length buffer < records → place ≡ records → Short buffer trim records table place
  trim-short : records ≤ length buffer → length trim < table → place ≡ table → Short buffer trim records table place

-- 9: with some other buffers the payload is accepted, and one of the two lent is too short: that for the records is looked at first
pub record Lacks (frame : ℕ) (s buffer trim : List ℕ) (place : ℕ) : Type 0 where
  pub other : List ℕ
  pub other-trim : List ℕ
  pub accepted : (reading frame s other other-trim).answer.refusal ≡ 0
  pub short : Short buffer trim (bytes_needed (reading frame s other other-trim)) (trim_bytes_needed (reading frame s other other-trim)) place

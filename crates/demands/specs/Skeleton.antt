-- What is left of a payload when its unknown elements are taken out, and what it means that two reads give the same tables.
use Rattle.std.specs.Prelude.{◌≡◌, Bool, true, false, List, [], ◌∷◌, ℕ, zero, suc, ◌-◌}
use Rattle.std.proofs.Math.Option.{Option, none, some}
use Rattle.bits.specs.Language.{Res, ok, no, pick, P, give, field, ◌>>=◌}
use Rattle.oamd.specs.declared.Kind.{Kind}
use Rattle.oamd.specs.declared.Kind.TheVariants.{Unknown, Object, Trim, Extended}
use Rattle.oamd.specs.Element.{declared_length, head_length, framed}
use Rattle.oamd.specs.Payload.{oa_element_count, Header, header}
use Rattle.oamd.specs.Answer.{Outcome}
use Rattle.demands.specs.Terms.{runs}

-- an element: its kind, and its bits from behind the discard flag to its declared end. Its id, its size and the discard flag are not looked at further
pub record Body : Type 0 where
  pub kind : Kind
  pub bits : List ℕ

unfoldable pub body : ℕ → P Body
body alternate = framed alternate (λ k size. field (declared_length size - head_length alternate) (λ l. record { kind = k; bits = l }))

-- n elements, one after the other
unfoldable pub bodies : ℕ → ℕ → P (List Body)
bodies alternate zero = give []
bodies alternate (suc n) = do
  x ← body alternate
  xs ← bodies alternate n
  give (x ∷ xs)

-- a payload by its elements: its header, and each element
pub record Outline : Type 0 where
  pub header : Header
  pub elements : List Body

unfoldable pub outline_payload : P Outline
outline_payload = do
  header ← header
  oa_element_count ← oa_element_count
  elements ← bodies header.alternate oa_element_count
  give {A = Outline} (record { header = header; elements = elements })

-- none, if the header or a frame cannot be read
abbrev pub given : {A : Type 0} → Res A → Option A
given (ok a to) = some a
given (no r pl m) = none

unfoldable pub outline : List ℕ → Option Outline
outline s = given (runs outline_payload s 0)

-- the known ones among elements, in their order; and how many are unknown
abbrev pub is_known : Kind → Bool
is_known Unknown = false
is_known Object = true
is_known Trim = true
is_known Extended = true

unfoldable pub known : List Body → List Body
known [] = []
known (x ∷ xs) = pick (is_known x.kind) (x ∷ known xs) (known xs)

unfoldable pub unknowns : List Body → ℕ
unknowns [] = 0
unknowns (x ∷ xs) = pick (is_known x.kind) (unknowns xs) (suc (unknowns xs))

-- The skeleton: the header and the known elements
abbrev pub taken_out : Option Outline → Option Outline
taken_out none = none
taken_out (some x) = some (record { header = x.header; elements = known x.elements })

unfoldable pub skeleton : List ℕ → Option Outline
skeleton s = taken_out (outline s)

-- an outcome but for the count of unknown elements, which is no part of the tables: refusal, place, programme, timing, and the buffers with the records
-- and the trim table
abbrev pub tables_in : Outcome → Outcome
tables_in o = record {
  answer = record {
    place = o.answer.place;
    refusal = o.answer.refusal;
    unknown = 0;
    programme = o.answer.programme;
    timing = o.answer.timing;
    missing = o.answer.missing;
  };
  buffer = o.buffer;
  trim = o.trim;
}

-- The same tables and the same buffers
abbrev pub SameTables : Outcome → Outcome → Type 0
SameTables o o' = tables_in o ≡ tables_in o'

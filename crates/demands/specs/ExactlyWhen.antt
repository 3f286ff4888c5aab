-- Refusals 2, 5 and 8, exactly when: for all bytes and all buffers.
use Rattle.std.specs.Prelude.{◌≡◌, List, ◌↔◌, ℕ, ◌≤◌, length}
use Rattle.std.proofs.Common.{sym, ap, ◌∙◌, arith}
use Rattle.bits.specs.declared.Refusal.TheVariants.{EndsEarly, Reserved, PastElement}
use Rattle.bits.specs.Refusals.{number_of}
use Rattle.bits.specs.Language.{ok}
use Rattle.bits.specs.Steps.{same_no}
use Rattle.oamd.specs.Tables.{most_bytes}
use Rattle.oamd.specs.Reserved.{Field}
use Rattle.oamd.specs.Payload.{Payload}
use Rattle.oamd.specs.Answer.{missing_of, refused, reading}
use Rattle.demands.specs.Terms.{parsed}
use Rattle.demands.specs.Stops.{PassesPayload, missing_for, PassesElement, OneOf, reserved_values, CarriesReserved, carried}
use Rattle.demands.specs.Lemmas.Reading.{reading_no}
use Rattle.demands.specs.Lemmas.Narrow.{missing_all}
use Rattle.demands.specs.Lemmas.Stopping.{early-end_of, early_end_is, past-element_of, past-element_is, reserved_of, reserved_is}
use Rattle.demands.specs.Lemmas.Carried.{carried-clean}
use Rattle.demands.specs.Answers.{refused_when}

-- 2: a field passes the payload's end, or an element's declared end does; all before it has been read. The place is the first bit of the field, or of the
-- element's size, and the missing bits are those by which it passes the payload's end.
pub ends-early_when : (frame : ℕ) (s buffer trim : List ℕ) (place missing : ℕ)
    → (reading frame s buffer trim ≡ refused buffer trim (number_of EndsEarly) place missing)
    ↔ ((length s ≤ most_bytes) × (x : PassesPayload s place) × (missing ≡ missing_for x))
ends-early_when frame s buffer trim place missing = (
  (λ h.
      let x = (refused_when frame s buffer trim 2 place missing (omega arith) (omega arith)).0 h in
      let y = early-end_of s x.2 in
      (x.0, y, x.3 ∙ missing_all s x.2 ∙ (same_no (sym x.2 ∙ early_end_is s y)).2)),
  (λ h.
      let x = early_end_is s h.1 in
      reading_no frame s buffer trim h.0 x ∙ ap (refused buffer trim 2 place) (missing_all s x ∙ sym h.2)),
)

-- 5: a field that is decoded has a value that the standard reserves; all before it has been read. The place is the field's first bit.
pub reserved_when : (frame : ℕ) (s buffer trim : List ℕ) (place : ℕ)
    → (reading frame s buffer trim ≡ refused buffer trim (number_of Reserved) place 0) ↔ ((length s ≤ most_bytes) × CarriesReserved s place)
unfolding missing_of
reserved_when frame s buffer trim place = (
  (λ h.
      let x = (refused_when frame s buffer trim 5 place 0 (omega arith) (omega arith)).0 h in
      (x.0, reserved_of s x.2)),
  (λ h. reading_no frame s buffer trim h.0 (reserved_is s h.1)),
)

-- And no payload is accepted that carries one: whatever bytes are read as a payload, no value that it carries for one of these fields is one of the
-- reserved values of that field.
pub none-reserved : (s : List ℕ) (q : Payload) (to : ℕ) → parsed s ≡ ok q to → (f : Field) (v : ℕ) → OneOf v (carried f q) → OneOf v (reserved_values f) → ⊥
none-reserved s q to h f = carried-clean s h f

-- 8: a field of a known element passes that element's declared end; all before it has been read. The place is the first bit of the field.
pub past-element_when : (frame : ℕ) (s buffer trim : List ℕ) (place : ℕ)
    → (reading frame s buffer trim ≡ refused buffer trim (number_of PastElement) place 0) ↔ ((length s ≤ most_bytes) × PassesElement s place)
unfolding missing_of
past-element_when frame s buffer trim place = (
  (λ h.
      let x = (refused_when frame s buffer trim 8 place 0 (omega arith) (omega arith)).0 h in
      (x.0, past-element_of s x.2)),
  (λ h. reading_no frame s buffer trim h.0 (past-element_is s h.1).1),
)

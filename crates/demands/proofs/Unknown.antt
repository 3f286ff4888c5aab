-- Demand 3, unknown elements: they never turn one set of tables into another.
use Rattle.std.specs.Prelude.{◌≡◌, List, ℕ, ◌≤◌, length}
use Rattle.std.proofs.Common.{sym, ap, ◌∙◌, subst}
use Rattle.std.proofs.Math.Option.{some}
use Rattle.oamd.specs.declared.Programme.{Programme}
use Rattle.oamd.specs.Tables.{most_bytes}
use Rattle.oamd.specs.Element.{nothing}
use Rattle.oamd.specs.Payload.{tables}
use Rattle.oamd.specs.Answer.{Outcome, housed, reading}
use Rattle.demands.specs.Terms.{runs, tables_of}
use Rattle.demands.specs.Skeleton.{Outline, outline_payload, outline, unknowns, given, taken_out, skeleton, tables_in, SameTables}
use Rattle.demands.specs.Lemmas.Reading.{read_of, reading_ok, housed_fits}
use Rattle.demands.proofs.Lemmas.Skeletons.{Steps, outlined, from-outline, given_some, taken_some}

-- Let a payload be accepted, and another have the same skeleton: the same header and the same known elements in the same order, whatever unknown ones
-- stand before, between and behind them. Up to the length limit the other is accepted too, with the same tables and the same buffers.
pub unknown-elements : (frame : ℕ) (s s' buffer trim : List ℕ) → (reading frame s buffer trim).answer.refusal ≡ 0 → skeleton s' ≡ skeleton s → length s' ≤ most_bytes
    → SameTables (reading frame s' buffer trim) (reading frame s buffer trim)
unfolding skeleton outline
unknown-elements frame s s' buffer trim z same short =
    let r = read_of frame s buffer trim z in
    let q = r.payload in
    let x = outlined s r.ran in
    let y = taken_some (outline s') (same ∙ ap taken_out (ap given x.ran)) in
    let g = given_some (runs outline_payload s' 0) y.1 in
    let steps = subst (λ (o : Outline). Steps o.header.programme o.elements nothing q.known) (sym y.2) x.steps in
    let ran = from-outline s' y.0 q.known g.1 steps in
    let p : y.0.header.programme ≡ q.programme = ap (λ (o : Outline). o.header.programme) y.2 ∙ x.programme in
    ap tables_in
    (reading_ok frame s' buffer trim short ran ∙ ap (λ (p : Programme). housed frame buffer trim (tables p q.known) (unknowns y.0.elements)) p
    ∙ housed_fits frame buffer trim (tables_of q) (unknowns y.0.elements) r.fits r.trim_fits)
    ∙ sym (ap tables_in r.is)

-- The count of unknown elements is just that: of the elements of an accepted payload, how many are of no known kind.
pub unknown-count : (frame : ℕ) (s buffer trim : List ℕ) → (reading frame s buffer trim).answer.refusal ≡ 0
    → (x : Outline) × (outline s ≡ some x) × ((reading frame s buffer trim).answer.unknown ≡ unknowns x.elements)
unfolding outline
unknown-count frame s buffer trim z =
    let r = read_of frame s buffer trim z in
    let x = outlined s r.ran in
    (x.is, ap given x.ran, ap (λ (o : Outcome). o.answer.unknown) r.is ∙ x.counted)

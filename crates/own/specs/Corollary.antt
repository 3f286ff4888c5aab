-- One object's edits stay its own, in the words of the request: two accepted payloads with the same frame number, programme, timing and order of elements, whose coded fields, extended ones
-- included, differ for one object only.
use Rattle.std.specs.Prelude.{◌≡◌, List, ℕ, ◌+◌, ◌*◌, length, drop}
use Rattle.std.proofs.Common.{sym, ap, ap₂, ◌∙◌, length-append}
use Rattle.bits.specs.Language.{ok, bit, past_payload}
use Rattle.oamd.specs.declared.Kind.{Kind}
use Rattle.oamd.specs.declared.Programme.{Programme}
use Rattle.oamd.specs.declared.Timing.{Timing}
use Rattle.oamd.specs.Tables.{record_stride}
use Rattle.oamd.specs.Record.{onto}
use Rattle.oamd.specs.Trim.{trim_needed}
use Rattle.oamd.specs.Lengths.{length-trim}
use Rattle.oamd.specs.Payload.{Payload, tables}
use Rattle.oamd.specs.Answer.{Outcome, reading}
use Rattle.demands.specs.Terms.{parsed, tables_of}
use Rattle.demands.specs.Answers.{accepted_is}
use Rattle.demands.specs.Lemmas.Records.{length-needed, trim-sized}
use Rattle.own.specs.Own.{Differ, order_of, Kept}
use Rattle.own.specs.Theorem.{own}
use Rattle.own.specs.Lemmas.Lists.{kept}
use Rattle.own.specs.Lemmas.Order.{marked, present_by}

onto_long : (front front' buffer : List ℕ) → length front ≡ length front' → length (onto front buffer) ≡ length (onto front' buffer)
unfolding onto
onto_long front front' buffer e =
    length-append front (drop (length front) buffer) ∙ ap (λ (n : ℕ). n + length (drop n buffer)) e ∙ sym (length-append front' (drop (length front') buffer))

pub edits-stay : (frame : ℕ) (s s' buffer trim : List ℕ) (q q' : Payload) (to to' j : ℕ) → parsed s ≡ ok q to → parsed s' ≡ ok q' to'
    → let o : Outcome = reading frame s buffer trim in
    let o' : Outcome = reading frame s' buffer trim in
    o.answer.refusal ≡ 0 → o'.answer.refusal ≡ 0 → o.answer.programme ≡ o'.answer.programme → o.answer.timing ≡ o'.answer.timing
    → order_of s ≡ order_of s' → Differ j q q' → Kept j s q o o'
unfolding tables
edits-stay frame s s' buffer trim q q' to to' j h h' z z' programme timed order d =
    let is = accepted_is frame s buffer trim q to z h in
    let is' = accepted_is frame s' buffer trim q' to' z' h' in
    let same : q.programme ≡ q'.programme = ap (λ (o : Outcome). o.answer.programme) (sym is) ∙ programme ∙ ap (λ (o : Outcome). o.answer.programme) is' in
    let times : (tables_of q).timing ≡ (tables_of q').timing = ap (λ (o : Outcome). o.answer.timing) (sym is) ∙ timed ∙ ap (λ (o : Outcome). o.answer.timing) is' in
    let x = trim-sized (bit s) 0 (8 * length s) past_payload h in
    let x' = trim-sized (bit s') 0 (8 * length s') past_payload h' in
    kept j s q (reading frame s buffer trim) (reading frame s' buffer trim)
    (ap (λ (o : Outcome). length o.buffer) is
    ∙ onto_long _ _ buffer (length-needed frame (bit s) 0 (8 * length s) past_payload h ∙ ap₂ (λ (p : Programme) (t : Timing). record_stride * (p.objects * t.blocks)) same times
    ∙ sym (length-needed frame (bit s') 0 (8 * length s') past_payload h'))
    ∙ sym (ap (λ (o : Outcome). length o.buffer) is'))
    (ap (λ (o : Outcome). length o.trim) is
    ∙ onto_long _ _ trim (length-trim _ (tables_of q).trim x.0 x.1 ∙ ap (λ (p : Programme). trim_needed p.objects) same ∙ sym (length-trim _ (tables_of q').trim x'.0 x'.1))
    ∙ sym (ap (λ (o : Outcome). length o.trim) is'))
    (own frame s s' buffer trim q q' j (record {
      to = to;
      to' = to';
      read = h;
      read' = h';
      accepted = z;
      accepted' = z';
      programme = same;
      timed = times;
      present = present_by s h ∙ ap (λ (ks : List Kind). marked ks 0) order ∙ sym (present_by s' h');
      differ = d;
    }))

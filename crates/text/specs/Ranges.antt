-- How large the numbers are that a listing prints: what is said of every accepted payload, and of each class no more objects than there are; and the place.
use Rattle.std.specs.Prelude.{◌≡◌, true, not, List, ℕ, ◌*◌, ◌^◌, ◌≤◌, ◌<◌, length}
use Rattle.std.proofs.Common.{subst, arith, leb-true, eqb-true}
use Rattle.std.proofs.lemmas.Bool.{not-false}
use Rattle.bits.specs.Language.{bit, past_payload}
use Rattle.bits.specs.Bytes.{bit_lt}
use Rattle.bits.specs.Ensures.{ensured, e-give, e-bind, e-any, e-then, e-pass}
use Rattle.bits.specs.Terms.{Ensures}
use Rattle.oamd.specs.declared.Programme.{Programme}
use Rattle.oamd.specs.declared.ReadAnswer.{ReadAnswer}
use Rattle.oamd.specs.Tables.{most_elements, most_objects, most_blocks, room_bytes, most_trim}
use Rattle.oamd.specs.Programme.{has_reserved, named, total, agrees, shares}
use Rattle.oamd.specs.Element.{there}
use Rattle.oamd.specs.Payload.{header, object_audio_metadata_payload, tables}
use Rattle.oamd.specs.Answer.{Outcome, missing_of, reading}
use Rattle.demands.specs.Answers.{accepted_is, place-within}
use Rattle.demands.proofs.Missing.{missing_most}
use Rattle.demands.specs.Numbers.{numbers, roomy}
use Rattle.demands.specs.Lemmas.Reading.{Case, long, stopped, full, read, case, refusal-of}
use Rattle.form.specs.Lemmas.Tests.{by-test}
use Rattle.roundtrip.specs.Ranges.{read-in_range}
use Rattle.roundtrip.specs.Promises.{UpdatesInRange}

-- ---- the objects of each class

header-agrees : Ensures header (λ h. agrees h.programme ≡ true)
unfolding header
header-agrees =
    e-bind _ _ _ (e-any _ _ λ version. e-bind _ _ _ (e-any _ _ λ count. e-bind _ _ _ (e-any _ _ λ p.
    e-bind _ _ _ (e-pass (not (agrees p)) _ _ p _ λ q. e-bind _ _ _ (e-any _ _ λ alternate. e-give _ _ (not-false (agrees p) q))))))

payload-agrees : Ensures object_audio_metadata_payload (λ q. agrees q.programme ≡ true)
unfolding object_audio_metadata_payload
payload-agrees = e-bind _ _ _ (e-then _ _ _ header-agrees λ head h. e-bind _ _ _ (e-any _ _ λ count. e-bind _ _ _ (e-any _ _ λ st. e-give _ _ h)))

-- with reserved content or without it
named_most : (p : Programme) → agrees p ≡ true → total (named p) ≤ p.objects
unfolding agrees
named_most p h =
    by-test (has_reserved p.content) (λ e. leb-true _ _ (rw e at h)) (λ e. let same = eqb-true (total (named p)) p.objects (rw e at h) in omega arith)

-- ---- the statements

-- the numbers of an accepted payload
pub record Small (a : ReadAnswer) : Type 0 where
  pub objects : a.programme.objects ≤ most_objects
  pub bed : (shares a.programme).bed ≤ most_objects
  pub isf : (shares a.programme).isf ≤ most_objects
  pub dynamic : (shares a.programme).dynamic ≤ most_objects
  pub blocks : a.timing.blocks ≤ most_blocks
  pub updates : UpdatesInRange a.timing
  pub unknown : a.unknown ≤ most_elements

pub accepted-small : (frame : ℕ) (s buffer trim : List ℕ) → (reading frame s buffer trim).answer.refusal ≡ 0 → Small (reading frame s buffer trim).answer
unfolding shares tables
accepted-small frame s buffer trim z =
    let n = numbers frame s buffer trim z in
    let q = n.0 in
    let few = n.3.objects.1 in
    let agree = ensured object_audio_metadata_payload _ payload-agrees (bit s) (bit_lt s) 0 (8 * length s) past_payload n.2 in
    let p : Programme = (reading frame s buffer trim).answer.programme in
    let within : total (named p) ≤ p.objects = rw (accepted_is frame s buffer trim q n.1 z n.2) (named_most q.programme agree) in
    record {
      objects = few;
      bed = omega arith;
      isf = omega arith;
      dynamic = omega arith;
      blocks = by-test (there q.known.object) (λ e. (n.3.blocks.with e).1) (λ e. omega (arith, n.3.blocks.without e));
      updates = (read-in_range frame s buffer trim z).updates;
      unknown = n.3.unknown;
    }

-- the refusal has one digit, the place no more than the length of a payload that is too long, and the missing bits seven
pub record Marked (a : ReadAnswer) : Type 0 where
  pub refusal : a.refusal ≤ 9
  pub place : a.place < 10 ^ 20
  pub missing : a.missing < 10 ^ 7

pub answer-marked : (frame : ℕ) (s buffer trim : List ℕ) → length s < 10 ^ 20 → room_bytes ≤ length buffer → most_trim ≤ length trim → Marked (reading frame s buffer trim).answer
answer-marked frame s buffer trim short room trim-room = go (case frame s buffer trim)
  where
    go : Case frame s buffer trim → Marked (reading frame s buffer trim).answer
    go (long l e) = rw e (record { refusal = omega arith; place = short; missing = omega arith })
    go (stopped r pl m l h two eight e) =
        let within = place-within frame s buffer trim r pl (missing_of r m) two eight e in
        let few = missing_most frame s buffer trim in
        let missing = subst (λ (o : Outcome). o.answer.missing ≤ 8947840) e few in
        rw e (record { refusal = omega arith; place = omega arith; missing = omega arith })
    go (full q to pl l h x e) = absurd (roomy frame s buffer trim room trim-room (refusal-of e))
    go (read q to l h f g e) = rw e (record { refusal = omega arith; place = omega arith; missing = omega arith })

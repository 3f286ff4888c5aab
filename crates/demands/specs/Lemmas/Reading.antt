-- What an answer of `reading` rests on, and what it is for each answer of the reader of payloads.
use Rattle.std.specs.Prelude.{◌≡◌, refl, Bool, true, false, List, ◌++◌, ℕ, ◌*◌, ◌/◌, ◌≤◌, ◌<◌, leb, length, take}
use Rattle.std.proofs.Common.{ap, ◌∙◌, arith, length-append, length-take, get_or-take, leb-true, leb-false, le-leb}
use Rattle.std.proofs.Math.ListN.{get_or-append}
use Rattle.std.proofs.lemmas.Bool.{lt-leb}
use Rattle.bits.specs.declared.Refusal.TheVariants.{TooLong, Room}
use Rattle.bits.specs.Refusals.{number_of}
use Rattle.bits.specs.Language.{Res, ok, no, bit, past_payload}
use Rattle.bits.specs.Laws.{local, still, stays, numbered}
use Rattle.bits.specs.Terms.{Same}
use Rattle.oamd.specs.Tables.{most_bytes}
use Rattle.oamd.specs.Trim.{trim_needed}
use Rattle.oamd.specs.Payload.{Payload, object_audio_metadata_payload, Tables}
use Rattle.oamd.specs.Answer.{Outcome, missing_of, refused, accepted, needed, housed, answered, reading}
use Rattle.demands.specs.Terms.{parsed, tables_of}
use Rattle.demands.specs.Conditions.{Short, records-short, trim-short}
use Rattle.demands.specs.Lemmas.Numbers.{payload-says}

-- ---- from the reader's answer

pub reading-short : (frame : ℕ) (s buffer trim : List ℕ) → length s ≤ most_bytes → reading frame s buffer trim ≡ answered frame buffer trim (parsed s)
unfolding reading
reading-short frame s buffer trim l = rw (le-leb (length s) most_bytes l)

pub reading_long : (frame : ℕ) (s buffer trim : List ℕ) → most_bytes < length s → reading frame s buffer trim ≡ refused buffer trim (number_of TooLong) (length s) 0
unfolding reading
reading_long frame s buffer trim l = rw (lt-leb (length s) most_bytes l)

pub reading_ok : (frame : ℕ) (s buffer trim : List ℕ) {q : Payload} {to : ℕ} → length s ≤ most_bytes → parsed s ≡ ok q to
    → reading frame s buffer trim ≡ housed frame buffer trim (tables_of q) q.unknown
reading_ok frame s buffer trim l h = reading-short frame s buffer trim l ∙ ap (answered frame buffer trim) h

pub reading_no : (frame : ℕ) (s buffer trim : List ℕ) {r pl m : ℕ} → length s ≤ most_bytes → parsed s ≡ no r pl m
    → reading frame s buffer trim ≡ refused buffer trim r pl (missing_of r m)
reading_no frame s buffer trim l h = reading-short frame s buffer trim l ∙ ap (answered frame buffer trim) h

-- the bytes that the trim table needs
abbrev pub trim_room : Tables → ℕ
trim_room t = trim_needed t.programme.objects

pub housed_fits : (frame : ℕ) (buffer trim : List ℕ) (t : Tables) (u : ℕ) → needed t ≤ length buffer → trim_room t ≤ length trim
    → housed frame buffer trim t u ≡ accepted frame buffer trim t u
unfolding housed
housed_fits frame buffer trim t u l m = rw (le-leb (needed t) (length buffer) l, le-leb (trim_room t) (length trim) m)

pub housed-lacks : (frame : ℕ) (buffer trim : List ℕ) (t : Tables) (u place : ℕ) → Short buffer trim (needed t) (trim_room t) place
    → housed frame buffer trim t u ≡ refused buffer trim (number_of Room) place 0
unfolding housed
housed-lacks frame buffer trim t u place (records-short l e) = rw (lt-leb (needed t) (length buffer) l, e)
housed-lacks frame buffer trim t u place (trim-short l m e) = rw (le-leb (needed t) (length buffer) l, lt-leb (trim_room t) (length trim) m, e)

-- ---- to the reader's answer: every reading is one of four

pub data Case (frame : ℕ) (s buffer trim : List ℕ) : Type 0 where
  long : most_bytes < length s → reading frame s buffer trim ≡ refused buffer trim (number_of TooLong) (length s) 0 → Case frame s buffer trim
  stopped : (r pl m : ℕ) → length s ≤ most_bytes → parsed s ≡ no r pl m → 2 ≤ r → r ≤ 8
      → reading frame s buffer trim ≡ refused buffer trim r pl (missing_of r m)
      → Case frame s buffer trim
  full : (q : Payload) (to pl : ℕ) → length s ≤ most_bytes → parsed s ≡ ok q to → Short buffer trim (needed (tables_of q)) (trim_room (tables_of q)) pl
      → reading frame s buffer trim ≡ refused buffer trim (number_of Room) pl 0 → Case frame s buffer trim
  read : (q : Payload) (to : ℕ) → length s ≤ most_bytes → parsed s ≡ ok q to → needed (tables_of q) ≤ length buffer → trim_room (tables_of q) ≤ length trim
      → reading frame s buffer trim ≡ accepted frame buffer trim (tables_of q) q.unknown → Case frame s buffer trim

-- the reader of payloads refuses with 2 to 8
pub two_to-eight : (s : List ℕ) {r pl m : ℕ} → parsed s ≡ no r pl m → (2 ≤ r) × (r ≤ 8)
two_to-eight s h =
    numbered object_audio_metadata_payload (λ r. (2 ≤ r) × (r ≤ 8)) (bit s) 0 (8 * length s) past_payload
    (payload-says (λ r. (2 ≤ r) × (r ≤ 8)) (omega arith) (omega arith) (omega arith) (omega arith) (omega arith)) (omega arith) (omega arith) h

pub case : (frame : ℕ) (s buffer trim : List ℕ) → Case frame s buffer trim
case frame s buffer trim = by_length (leb (length s) most_bytes) refl
  where
    lacking : (q : Payload) (to pl : ℕ) → length s ≤ most_bytes → parsed s ≡ ok q to
        → Short buffer trim (needed (tables_of q)) (trim_room (tables_of q)) pl → Case frame s buffer trim
    lacking q to pl l h x = full q to pl l h x (reading_ok frame s buffer trim l h ∙ housed-lacks frame buffer trim (tables_of q) q.unknown pl x)

    by-trim : (q : Payload) (to : ℕ) → length s ≤ most_bytes → parsed s ≡ ok q to → needed (tables_of q) ≤ length buffer → (x : Bool)
        → leb (trim_room (tables_of q)) (length trim) ≡ x → Case frame s buffer trim
    by-trim q to l h f true e =
        let g = leb-true (trim_room (tables_of q)) (length trim) e in
        read q to l h f g (reading_ok frame s buffer trim l h ∙ housed_fits frame buffer trim (tables_of q) q.unknown f g)
    by-trim q to l h f false e = lacking q to _ l h (trim-short f (leb-false (trim_room (tables_of q)) (length trim) e) refl)

    by-room : (q : Payload) (to : ℕ) → length s ≤ most_bytes → parsed s ≡ ok q to → (x : Bool) → leb (needed (tables_of q)) (length buffer) ≡ x
        → Case frame s buffer trim
    by-room q to l h true e =
        by-trim q to l h (leb-true (needed (tables_of q)) (length buffer) e) (leb (trim_room (tables_of q)) (length trim)) refl
    by-room q to l h false e = lacking q to _ l h (records-short (leb-false (needed (tables_of q)) (length buffer) e) refl)

    by-run : length s ≤ most_bytes → (x : Res Payload) → parsed s ≡ x → Case frame s buffer trim
    by-run l (ok q to) h = by-room q to l h (leb (needed (tables_of q)) (length buffer)) refl
    by-run l (no r pl m) h =
        let n = two_to-eight s h in
        stopped r pl m l h n.0 n.1 (reading_no frame s buffer trim l h)

    by_length : (x : Bool) → leb (length s) most_bytes ≡ x → Case frame s buffer trim
    by_length true e = by-run (leb-true (length s) most_bytes e) (parsed s) refl
    by_length false e =
        let f = leb-false (length s) most_bytes e in
        long f (reading_long frame s buffer trim f)

-- ---- the refusal tells which

pub refusal-of : {o : Outcome} {buffer trim : List ℕ} {r pl m : ℕ} → o ≡ refused buffer trim r pl m → o.answer.refusal ≡ r
refusal-of h = ap (λ (o : Outcome). o.answer.refusal) h

-- what an accepted reading rests on
pub record Read (frame : ℕ) (s buffer trim : List ℕ) : Type 0 where
  pub short : length s ≤ most_bytes
  pub payload : Payload
  pub to : ℕ
  pub ran : parsed s ≡ ok payload to
  pub fits : needed (tables_of payload) ≤ length buffer
  pub trim_fits : trim_room (tables_of payload) ≤ length trim
  pub is : reading frame s buffer trim ≡ accepted frame buffer trim (tables_of payload) payload.unknown

pub read_of : (frame : ℕ) (s buffer trim : List ℕ) → (reading frame s buffer trim).answer.refusal ≡ 0 → Read frame s buffer trim
read_of frame s buffer trim z = go (case frame s buffer trim)
  where
    go : Case frame s buffer trim → Read frame s buffer trim
    go (long l h) = absurd (omega (arith, refusal-of h))
    go (stopped r pl m l h low high e) = absurd (omega (arith, refusal-of e))
    go (full q to pl l h x e) = absurd (omega (arith, refusal-of e))
    go (read q to l h f g e) = record { short = l; payload = q; to = to; ran = h; fits = f; trim_fits = g; is = e }

-- ---- bits of longer and shorter bytes

pub bit-append : (s t : List ℕ) → Same (bit s) (bit (s ++ t)) (8 * length s)
unfolding bit
bit-append s t i h = rw (get_or-append s t 0 (i / 8) (omega arith))

pub bit-take : (n : ℕ) (s : List ℕ) → Same (bit s) (bit (take n s)) (8 * length (take n s))
unfolding bit
bit-take n s i h =
    let l = length-take n s in
    rw (get_or-take n s (i / 8) 0 (omega arith))

-- what the reader of payloads accepted it accepts with more bytes behind it
pub parsed-append : (s t : List ℕ) {q : Payload} {to : ℕ} → parsed s ≡ ok q to → parsed (s ++ t) ≡ ok q to
parsed-append s t h =
    let p = object_audio_metadata_payload in
    let long = length-append s t in
    let end : 0 ≤ 8 * length s = omega arith in
    let in-s = (local p (bit s) 0 (8 * length s) past_payload h end).fits in
    still p (bit s) 0 (8 * length s) past_payload h end (bit (s ++ t)) (8 * length (s ++ t)) past_payload (λ i below. bit-append s t i (omega arith)) (omega arith)

-- and what it refused otherwise than for passing the end it refuses as before
pub parsed-stays : (s t : List ℕ) {r pl m : ℕ} → parsed s ≡ no r pl m → (r ≡ past_payload → ⊥) → parsed (s ++ t) ≡ no r pl m
parsed-stays s t h other =
    let long = length-append s t in
    stays object_audio_metadata_payload (bit s) 0 (8 * length s) past_payload h other (omega arith) (bit (s ++ t)) (8 * length (s ++ t)) past_payload
    (bit-append s t) (omega arith)

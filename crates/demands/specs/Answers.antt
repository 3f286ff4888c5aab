-- Demand 1: what a read answers, for all bytes and all buffers, and when it gives each number.
use Rattle.std.specs.Prelude.{◌≡◌, refl, List, ◌⊎◌, ◌↔◌, ℕ, ◌*◌, ◌≤◌, ◌<◌, length, drop, replicate}
use Rattle.std.proofs.Common.{sym, ap, ap₂, ◌∙◌, subst, subst₂, inl, inr, arith, take_at, drop_at}
use Rattle.std.proofs.lemmas.List.{length-replicate}
use Rattle.bits.specs.declared.Refusal.TheVariants.{TooLong, EndsEarly, Version, Counts, Second, Early, PastElement, Room}
use Rattle.bits.specs.Refusals.{number_of}
use Rattle.bits.specs.Language.{ok, no, bit, past_payload}
use Rattle.bits.specs.Steps.{value}
use Rattle.bits.specs.Laws.{placed}
use Rattle.oamd.specs.Tables.{most_bytes, record_stride}
use Rattle.oamd.specs.Record.{onto}
use Rattle.oamd.specs.Time.{time_of}
use Rattle.oamd.specs.Trim.{trim_bytes_of, trim_needed}
use Rattle.oamd.specs.Lengths.{length-timed, length-trim}
use Rattle.oamd.specs.Payload.{Payload, object_audio_metadata_payload, tables}
use Rattle.oamd.specs.Answer.{Outcome, missing_of, refused, laid_records, accepted, needed, reading}
use Rattle.demands.specs.Terms.{parsed, tables_of}
use Rattle.demands.specs.Conditions.{OtherVersion, CountsDisagree, SecondKnown, EarlyExtended, bytes_needed, trim_bytes_needed, Short, Lacks}
use Rattle.demands.specs.Lemmas.Reading.{Case, long, stopped, full, read, case, read_of, reading_ok, reading_no, reading_long, trim_room, housed_fits, housed-lacks, refusal-of}
use Rattle.demands.specs.Lemmas.Missing.{missing_none}
use Rattle.demands.specs.Lemmas.Narrow.{some-missing}
use Rattle.demands.specs.Lemmas.Records.{length-needed, trim-sized}
use Rattle.demands.specs.Lemmas.Order.{payload_stops, header_stops, in-header, in-version, version_of, version_is, counts_of, counts_is, second_of, second_is, early_of, early_is}
use Rattle.demands.specs.Promises.{Fronts, Accepts, Refuses}

fronts : (n : ℕ) (these buffer : List ℕ) → length these ≡ n → n ≤ length buffer → Fronts n these buffer (onto these buffer)
unfolding onto
fronts n these buffer l f =
    let behind : List ℕ = drop (length these) buffer in
    record {
      long = l;
      fits = f;
      front = take_at these behind n l;
      rest = drop_at these behind n l ∙ ap (λ (k : ℕ). drop k buffer) l;
    }

accepts : (frame : ℕ) (s buffer trim : List ℕ) (q : Payload) (to : ℕ) → parsed s ≡ ok q to → needed (tables_of q) ≤ length buffer → trim_room (tables_of q) ≤ length trim
    → Accepts frame buffer trim (accepted frame buffer trim (tables_of q) q.unknown)
unfolding tables
accepts frame s buffer trim q to h f g =
    let rs = (tables_of q).records in
    let table = (tables_of q).trim in
    let n = length-needed frame (bit s) 0 (8 * length s) past_payload h in
    let l = length-timed (time_of frame (tables_of q).timing) 0 rs in
    let sized = trim-sized (bit s) 0 (8 * length s) past_payload h in
    record {
      refusal = refl;
      place = refl;
      missing = refl;
      records = rs;
      many = omega arith;
      recorded = fronts (record_stride * length rs) (laid_records frame (tables_of q)) buffer l (omega arith);
      table = table;
      configs = sized.0;
      flags = sized.1;
      trimmed = fronts (trim_needed q.programme.objects) (trim_bytes_of table) trim (length-trim q.programme.objects table sized.0 sized.1) g;
    }

-- Every read is the one or the other.
pub answers : (frame : ℕ) (s buffer trim : List ℕ) → Accepts frame buffer trim (reading frame s buffer trim) ⊎ Refuses buffer trim (reading frame s buffer trim)
answers frame s buffer trim = go (case frame s buffer trim)
  where
    go : Case frame s buffer trim → Accepts frame buffer trim (reading frame s buffer trim) ⊎ Refuses buffer trim (reading frame s buffer trim)
    go (long l e) = inr (record { number = 1; low = omega arith; high = omega arith; place = length s; missing = 0; some = λ z. omega arith; none = λ z. refl; outcome = e })
    go (stopped r pl m l h two eight e) = inr (record {
      number = r;
      low = omega arith;
      high = omega arith;
      place = pl;
      missing = missing_of r m;
      some = some-missing s h;
      none = missing_none r m;
      outcome = e;
    })
    go (full q to pl l h x e) = inr (record { number = 9; low = omega arith; high = omega arith; place = pl; missing = 0; some = λ z. omega arith; none = λ z. refl; outcome = e })
    go (read q to l h f g e) = inl (subst (Accepts frame buffer trim) (sym e) (accepts frame s buffer trim q to h f g))

-- ---- when each is given

same-refusal : {buffer trim : List ℕ} {r r' pl pl' m m' : ℕ} → refused buffer trim r pl m ≡ refused buffer trim r' pl' m' → (r ≡ r') × (pl ≡ pl') × (m ≡ m')
same-refusal h =
    (ap (λ (o : Outcome). o.answer.refusal) h, ap (λ (o : Outcome). o.answer.place) h, ap (λ (o : Outcome). o.answer.missing) h)

-- 0: the payload is not too long, its reader meets no refusal, its records fit into the buffer, and its trim table into the trim buffer.
pub accepted_when : (frame : ℕ) (s buffer trim : List ℕ) → ((reading frame s buffer trim).answer.refusal ≡ 0)
    ↔ ((length s ≤ most_bytes) × (q : Payload) × (to : ℕ) × (parsed s ≡ ok q to) × (needed (tables_of q) ≤ length buffer)
    × (trim_needed q.programme.objects ≤ length trim))
unfolding tables
accepted_when frame s buffer trim = (
  (λ z. let r = read_of frame s buffer trim z in (r.short, r.payload, r.to, r.ran, r.fits, r.trim_fits)),
  (λ h.
      ap (λ (o : Outcome). o.answer.refusal)
      (reading_ok frame s buffer trim h.0 h.3 ∙ housed_fits frame buffer trim (tables_of h.1) h.1.unknown h.4 h.5)),
)

-- Its answer and buffers are then those of the tables that its reader gives.
pub accepted_is : (frame : ℕ) (s buffer trim : List ℕ) (q : Payload) (to : ℕ) → (reading frame s buffer trim).answer.refusal ≡ 0 → parsed s ≡ ok q to
    → reading frame s buffer trim ≡ accepted frame buffer trim (tables_of q) q.unknown
accepted_is frame s buffer trim q to z h =
    let r = read_of frame s buffer trim z in
    r.is ∙ ap (λ (x : Payload). accepted frame buffer trim (tables_of x) x.unknown) (value (sym r.ran ∙ h))

-- 1: the payload is longer than 4,096 bytes. The place is its length in bytes.
pub too_long_when : (frame : ℕ) (s buffer trim : List ℕ) (place : ℕ)
    → (reading frame s buffer trim ≡ refused buffer trim (number_of TooLong) place 0) ↔ ((most_bytes < length s) × (place ≡ length s))
too_long_when frame s buffer trim place =
    (go (case frame s buffer trim), λ h. reading_long frame s buffer trim h.0 ∙ ap (λ (pl : ℕ). refused buffer trim (number_of TooLong) pl 0) (sym h.1))
  where
    go : Case frame s buffer trim → reading frame s buffer trim ≡ refused buffer trim (number_of TooLong) place 0 → (most_bytes < length s) × (place ≡ length s)
    go (long l e) h = (l, sym (same-refusal (sym e ∙ h)).1)
    go (stopped r pl m l x two eight e) h = absurd (omega (arith, refusal-of e, refusal-of h))
    go (full q to pl l x y e) h = absurd (omega (arith, refusal-of e, refusal-of h))
    go (read q to l x f g e) h = absurd (omega (arith, ap (λ (o : Outcome). o.answer.refusal) e, refusal-of h))

-- 2 to 8: the payload is not too long, and that is the first refusal that its reader meets, in the order of reading. The place is the reader's, and
-- so are the missing bits, with 2.
pub refused_when : (frame : ℕ) (s buffer trim : List ℕ) (r place missing : ℕ) → number_of EndsEarly ≤ r → r ≤ number_of PastElement
    → (reading frame s buffer trim ≡ refused buffer trim r place missing)
    ↔ ((length s ≤ most_bytes) × (lacked : ℕ) × (parsed s ≡ no r place lacked) × (missing ≡ missing_of r lacked))
refused_when frame s buffer trim r place missing low high =
    (go (case frame s buffer trim), λ h. reading_no frame s buffer trim h.0 h.2 ∙ ap (refused buffer trim r place) (sym h.3))
  where
    go : Case frame s buffer trim → reading frame s buffer trim ≡ refused buffer trim r place missing
        → (length s ≤ most_bytes) × (lacked : ℕ) × (parsed s ≡ no r place lacked) × (missing ≡ missing_of r lacked)
    go (long l e) h = absurd (omega (arith, refusal-of e, refusal-of h))
    go (stopped r' pl m l x two eight e) h =
        let same = same-refusal (sym e ∙ h) in
        (l, m, x ∙ ap₂ (λ (i j : ℕ). no i j m) same.0 same.1, sym same.2 ∙ ap (λ (i : ℕ). missing_of i m) same.0)
    go (full q to pl l x y e) h = absurd (omega (arith, refusal-of e, refusal-of h))
    go (read q to l x f g e) h = absurd (omega (arith, ap (λ (o : Outcome). o.answer.refusal) e, refusal-of h))

-- It lies within the payload, or at its end.
pub place-within : (frame : ℕ) (s buffer trim : List ℕ) (r place missing : ℕ) → number_of EndsEarly ≤ r → r ≤ number_of PastElement
    → reading frame s buffer trim ≡ refused buffer trim r place missing
    → place ≤ 8 * length s
place-within frame s buffer trim r place missing low high h =
    let x = (refused_when frame s buffer trim r place missing low high).0 h in
    let end = placed object_audio_metadata_payload (bit s) 0 (8 * length s) past_payload x.2 (omega arith) in
    omega arith

-- 3: the version, with its extension, is there and is not 0. The place is 0.
pub version_when : (frame : ℕ) (s buffer trim : List ℕ) (place : ℕ)
    → (reading frame s buffer trim ≡ refused buffer trim (number_of Version) place 0) ↔ ((length s ≤ most_bytes) × OtherVersion s × (place ≡ 0))
unfolding missing_of
version_when frame s buffer trim place = (
  (λ h.
      let x = (refused_when frame s buffer trim 3 place 0 (omega arith) (omega arith)).0 h in
      let v = version_of s (in-version s (in-header s x.2 (inl refl))) in
      (x.0, v.0, v.1)),
  (λ h.
      let x = payload_stops s (header_stops s (version_is s h.1)) in
      reading_no frame s buffer trim h.0 x ∙ ap (λ (pl : ℕ). refused buffer trim 3 pl 0) (sym h.2)),
)

-- 4: the object counts disagree. The place is the first bit after the program assignment.
pub counts_when : (frame : ℕ) (s buffer trim : List ℕ) (place : ℕ)
    → (reading frame s buffer trim ≡ refused buffer trim (number_of Counts) place 0) ↔ ((length s ≤ most_bytes) × CountsDisagree s place)
unfolding missing_of
counts_when frame s buffer trim place = (
  (λ h.
      let x = (refused_when frame s buffer trim 4 place 0 (omega arith) (omega arith)).0 h in
      (x.0, counts_of s (in-header s x.2 (inr refl)))),
  (λ h. reading_no frame s buffer trim h.0 (payload_stops s (counts_is s h.1))),
)

-- 6: a second known element of the same kind. The place is the first bit of its id.
pub second_when : (frame : ℕ) (s buffer trim : List ℕ) (place : ℕ)
    → (reading frame s buffer trim ≡ refused buffer trim (number_of Second) place 0) ↔ ((length s ≤ most_bytes) × SecondKnown s place)
unfolding missing_of
second_when frame s buffer trim place = (
  (λ h.
      let x = (refused_when frame s buffer trim 6 place 0 (omega arith) (omega arith)).0 h in
      (x.0, second_of s x.2)),
  (λ h. reading_no frame s buffer trim h.0 (second_is s h.1)),
)

-- 7: an extended object element before any object element. The place is the first bit of its id.
pub early_when : (frame : ℕ) (s buffer trim : List ℕ) (place : ℕ)
    → (reading frame s buffer trim ≡ refused buffer trim (number_of Early) place 0) ↔ ((length s ≤ most_bytes) × EarlyExtended s place)
unfolding missing_of
early_when frame s buffer trim place = (
  (λ h.
      let x = (refused_when frame s buffer trim 7 place 0 (omega arith) (omega arith)).0 h in
      (x.0, early_of s x.2)),
  (λ h. reading_no frame s buffer trim h.0 (early_is s h.1)),
)

-- 9: with some other buffers the payload is accepted, and one of the two lent is too short: the buffer for the records, or, where that is long enough,
-- the trim buffer. The place is the bytes that it would need.
pub room_when : (frame : ℕ) (s buffer trim : List ℕ) (place : ℕ) → (reading frame s buffer trim ≡ refused buffer trim (number_of Room) place 0) ↔ Lacks frame s buffer trim place
room_when frame s buffer trim place = (go (case frame s buffer trim), back)
  where
    back : Lacks frame s buffer trim place → reading frame s buffer trim ≡ refused buffer trim (number_of Room) place 0
    back h =
        let r = read_of frame s h.other h.other-trim h.accepted in
        let t = tables_of r.payload in
        let short = subst₂ (λ (m n : ℕ). Short buffer trim m n place) (ap bytes_needed r.is) (ap trim_bytes_needed r.is) h.short in
        reading_ok frame s buffer trim r.short r.ran ∙ housed-lacks frame buffer trim t r.payload.unknown place short

    go : Case frame s buffer trim → reading frame s buffer trim ≡ refused buffer trim (number_of Room) place 0 → Lacks frame s buffer trim place
    go (long l e) h = absurd (omega (arith, refusal-of e, refusal-of h))
    go (stopped r pl m l x two eight e) h = absurd (omega (arith, refusal-of e, refusal-of h))
    go (read q to l x f g e) h = absurd (omega (arith, ap (λ (o : Outcome). o.answer.refusal) e, refusal-of h))
    go (full q to pl l x y e) h =
        let t = tables_of q in
        let room : List ℕ = replicate (needed t) 0 in
        let room' : List ℕ = replicate (trim_room t) 0 in
        let fits : needed t ≤ length room = omega (arith, length-replicate {A = ℕ} (needed t) 0) in
        let fits' : trim_room t ≤ length room' = omega (arith, length-replicate {A = ℕ} (trim_room t) 0) in
        let is : reading frame s room room' ≡ accepted frame room room' t q.unknown =
        reading_ok frame s room room' l x ∙ housed_fits frame room room' t q.unknown fits fits' in
        let same : pl ≡ place = (same-refusal (sym e ∙ h)).1 in
        record {
          other = room;
          other-trim = room';
          accepted = ap (λ (o : Outcome). o.answer.refusal) is;
          short = subst₂ (λ (m n : ℕ). Short buffer trim m n place) (ap bytes_needed (sym is)) (ap trim_bytes_needed (sym is))
              (subst (λ (n : ℕ). Short buffer trim (needed t) (trim_room t) n) same y);
        }

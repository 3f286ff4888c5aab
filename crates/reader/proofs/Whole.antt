-- The payload, and the five ways out of `read`. Assumes nothing.
use mathlib.Core.Path.{◌≡◌, refl, ap, ◌∙◌, subst₂}
use mathlib.Core.List.{List, ◌++◌}
use Prim.Native.Nat.{ℕ, ◌*◌, ◌≤◌, ◌<◌}
use native.Mathlib.Omega.{arith}
use native.Mathlib.Nat.{mul-le-mul_right}
use lib.ListN.{length, take, drop}
use lib.Seq.{take-length, take_at}
use borrow.Author.Tests.{le-leb, lt-leb, ne_eqb}
use Rattle.bits.specs.declared.Cur.{Cur}
use Rattle.bits.specs.declared.Limit.{Limit}
use Rattle.bits.specs.declared.Refusal.TheVariants.{TooLong, Room}
use Rattle.bits.specs.declared.Step.{Step}
use Rattle.bits.specs.Language.{bit}
use Rattle.bits.specs.Refusals.{number_of}
use Rattle.bits.specs.View.{Reads}
use Rattle.bits.specs.Unique.{clean}
use Rattle.bits.proofs.Sticky.{bind, plain}
use Rattle.oamd.specs.declared.ReadAnswer.{ReadAnswer}
use Rattle.oamd.specs.Tables.{most_bytes, most_objects, most_blocks, record_stride}
use Rattle.oamd.specs.Record.{onto}
use Rattle.oamd.specs.Trim.{trim_of, trim_bytes_of, trim_needed}
use Rattle.oamd.specs.Element.{nothing, scenes}
use Rattle.oamd.specs.Payload.{Payload, oa_element_count, object_audio_metadata_payload, records, tables}
use Rattle.oamd.specs.Answer.{Outcome, missing_of, refused, accepted_with, housed, reading}
use Rattle.reader.specs.declared.Header.{Header}
use Rattle.reader.specs.declared.Parsed.{Parsed}
use Rattle.reader.specs.declared.Scope.{Scope}
use Rattle.reader.specs.declared.State.{State}
use Rattle.reader.specs.Lending.{Lending, Lent}
use Rattle.reader.specs.Layout.{no_trim_bytes}
use Rattle.reader.specs.Steps.{Buffers, lent, nothing_read, Headed, HeaderRead, ElementsRead, PayloadRead, NoRoom, scope_of, whole_of, start_cur}
use Rattle.reader.proofs.ElementLoop.{nothing-held}
use Rattle.reader.proofs.ObjectLoop.{rooms}

-- the header of a payload, read from its first bit up to its last
pub headed : {s : List ℕ} {c : Cur} {l : Limit} {h : Step Header} → length s ≤ most_bytes → l ≡ whole_of s → c ≡ start_cur → HeaderRead (bit s) c l h → Headed s h
headed {s} {h = h} short el ec r = record { short = short; head = subst₂ (λ (l : Limit) (c : Cur). HeaderRead (bit s) c l h) el ec r }

-- the whole payload, by what the calls before the elements promise
pub payload-read : {s out table : List ℕ} {held' : Buffers} {h : Step Header} {c : Cur} {l : Limit} {scope : Scope} {st : State} {n : ℕ} {r : Step State}
    → Headed s h → table ≡ no_trim_bytes → l ≡ whole_of s → scope ≡ scope_of h.value → st ≡ nothing_read → Reads oa_element_count (bit s) h.cur l n c
    → ElementsRead n scope st (bit s) c l (lent out table) r held'
    → PayloadRead s out (record { value = record { programme = h.value.programme; state = r.value }; cur = r.cur }) held'
unfolding object_audio_metadata_payload
payload-read {s} {out} {h = h} {r = r} opened empty el es en count read =
    let elements = rw (es, en) at read in
    let u = elements.went h.value.programme nothing out (refl, refl) (λ z. nothing-held h.value.programme.objects opened.head.few empty) in
    let payload : Payload = record { programme = h.value.programme; known = u.known; unknown = r.value.unknown } in
    let reads : Reads object_audio_metadata_payload (bit s) start_cur (whole_of s) payload r.cur =
    bind opened.head.reads (bind (rw el at count) (bind (rw el at u.reads) plain)) in
    record {
      short = opened.short;
      known = u.known;
      reads = reads;
      clean = λ z. clean reads z refl;
      holding = u.holding;
      sized = elements.sized;
      few = opened.head.few;
      little = elements.few;
    }

-- the front of bytes, copied over others
copied : (front t out other last : List ℕ) (n : ℕ) → length front ≡ n → out ≡ onto front t
    → (let bytes = take n out in last ≡ take (length bytes) bytes ++ drop (length bytes) other) → last ≡ onto front other
unfolding onto
copied front t out other last n e h k = rw (ap (take n) h ∙ take_at front _ n e, take-length front) at k

-- the records of a payload, and the bytes that they take
abbrev count_of : Step Parsed → ℕ
count_of r = r.value.programme.objects * r.value.state.timing.blocks

abbrev need_of : Step Parsed → ℕ
need_of r = record_stride * count_of r

module _ {s out : List ℕ} {r : Step Parsed} {held' : Buffers} (x : PayloadRead s out r held') where
  -- the records are few
  pub few-records : count_of r ≤ most_objects * most_blocks
  few-records = let most = rooms x.few x.little in omega (arith, most.0, most.1)

  -- the trim table stands in its room
  pub trim_fits : trim_needed r.value.programme.objects ≤ length held'.table
  trim_fits = omega (arith, x.sized.table, x.few)

  module _ (z : r.cur.no ≡ 0) where
    -- the records can be laid into a buffer with room for them
    pub lending : {buffer : List ℕ} → need_of r ≤ length buffer → Lending (count_of r) r.value.state.timing held'.out buffer
    lending f = record {
      stand = let most = rooms x.few x.little in record { many = omega (arith, most.0, most.1); fits = omega (arith, most.0, x.sized.out.fits) };
      few = mul-le-mul_right r.value.state.timing.blocks x.few;
      little = x.little;
      room = f;
    }

-- what is answered for want of room, both buffers as they came
pub refusing : {needed : ℕ} {r : ReadAnswer} {records records' trim trim' : List ℕ} {o : Outcome} → NoRoom needed r records records' trim trim'
    → refused records trim (number_of Room) needed 0 ≡ o → record { answer = r; buffer = records'; trim = trim' } ≡ o
refusing e h = rw (e.answer, e.same-records, e.same-trim) h

module _ (frame : ℕ) (s buffer trim : List ℕ) where
  pub too_long : most_bytes < length s → refused buffer trim (number_of TooLong) (length s) 0 ≡ reading frame s buffer trim
  unfolding reading
  too_long h = simp (lt-leb _ _ h)

  module _ {out : List ℕ} {r : Step Parsed} {held' : Buffers} (x : PayloadRead s out r held') where
    pub stopped : (r.cur.no ≡ 0 → ⊥) → refused buffer trim r.cur.no r.cur.at.0 (missing_of r.cur.no r.cur.missing) ≡ reading frame s buffer trim
    unfolding reading
    stopped z = rw (le-leb (length s) most_bytes x.short, ← x.reads.same, ne_eqb r.cur.no 0 z)

    module _ (z : r.cur.no ≡ 0) where
      pub no_room : length buffer < need_of r → refused buffer trim (number_of Room) (need_of r) 0 ≡ reading frame s buffer trim
      unfolding reading housed tables
      no_room f = rw (le-leb (length s) most_bytes x.short, ← x.reads.same, z, ← (x.holding z).records.timed, lt-leb _ _ f)

      module _ (f : need_of r ≤ length buffer) where
        pub no-trim-room : length trim < trim_needed r.value.programme.objects
            → refused buffer trim (number_of Room) (trim_needed r.value.programme.objects) 0 ≡ reading frame s buffer trim
        unfolding reading housed tables
        no-trim-room g = rw (le-leb (length s) most_bytes x.short, ← x.reads.same, z, ← (x.holding z).records.timed, le-leb _ _ f, lt-leb _ _ g)

        pub stored : {first last : List ℕ} → trim_needed r.value.programme.objects ≤ length trim
            → Lent (count_of r) frame r.value.state.timing held'.out buffer first
            → (let bytes = take (trim_needed r.value.programme.objects) held'.table in last ≡ take (length bytes) bytes ++ drop (length bytes) trim)
            → record { answer = accepted_with r.value.programme r.value.state.timing r.value.state.unknown; buffer = first; trim = last } ≡ reading frame s buffer trim
        unfolding reading housed tables
        stored {first} {last} g e k =
            let element = x.known.trim in
            let holds = x.holding z in
            let records-lent = e.front (records (scenes x.known.object) x.known.extended) out (omega (arith, holds.records.full, holds.records.many)) holds.records.stand in
            let trim-copied = copied (trim_bytes_of (trim_of r.value.programme.objects element)) _ held'.table trim last _ holds.trim.long holds.trim.stand k in
            rw (le-leb (length s) most_bytes x.short, ← x.reads.same, z, ← holds.records.timed, le-leb _ _ f, le-leb _ _ g, records-lent, trim-copied)

-- What reading a payload into rooms of its own says of the answer: a refusal is the answer's, and of an accepted payload the records stand in the room. Assumes nothing.
use mathlib.Core.Path.{◌≡◌, refl, sym, ap, ◌∙◌, subst}
use mathlib.Core.List.{List, ◌++◌}
use mathlib.Core.Option.{Option, none, some}
use Prim.Native.Nat.{ℕ, zero, suc, ◌+◌, ◌*◌, ◌≤◌, ◌<◌}
use native.Mathlib.Omega.{arith}
use native.Mathlib.Nat.{mul-le-mul}
use borrow.Author.Tests.{le-leb, lt-leb}
use lib.ListN.{length, get_or, drop, length-append}
use Rattle.bits.specs.declared.Refusal.TheVariants.{NoSuch}
use Rattle.bits.specs.Refusals.{number_of}
use Rattle.bits.specs.Language.{ok, bit, past_payload}
use Rattle.oamd.specs.declared.ReadAnswer.{ReadAnswer}
use Rattle.oamd.specs.Tables.{most_bytes, most_objects, most_blocks, room_bytes, most_trim, record_bytes, record_stride}
use Rattle.oamd.specs.Timing.{timing_of}
use Rattle.oamd.specs.Record.{Record, onto}
use Rattle.oamd.specs.Time.{time_of, timed_bytes_of}
use Rattle.oamd.specs.Lengths.{length-timed}
use Rattle.oamd.specs.ObjectElement.{ObjectElement}
use Rattle.oamd.specs.Payload.{Payload, timing, tables}
use Rattle.oamd.specs.Answer.{Outcome, laid_records, needed, reading}
use Rattle.record.specs.Bytes.{records_at}
use Rattle.record.specs.Laws.{records-again}
use Rattle.demands.specs.Terms.{parsed, tables_of}
use Rattle.demands.specs.Conditions.{Short, records-short, trim-short}
use Rattle.demands.specs.Lemmas.Limits.{Blocked, limits}
use Rattle.demands.specs.Lemmas.Reading.{Case, long, stopped, full, read, case, trim_room}
use Rattle.demands.specs.Lemmas.Records.{length-needed}
use Rattle.sources.specs.Chain.{objects_in, blocks_in, no_record}
use Rattle.sources.specs.Explaining.{unexplained, explained, steps_told, asked, explaining}
use Rattle.sources.specs.Asked.{payload_in, Accepted, Asked, Recorded}

-- ---- the definition, by what is read

pub payload_is : (s : List ℕ) {q : Payload} {to : ℕ} → parsed s ≡ ok q to → payload_in s ≡ q
unfolding payload_in
payload_is s h = rw h

explaining_ok : (s : List ℕ) (object block byte : ℕ) {q : Payload} {to : ℕ} → length s ≤ most_bytes → parsed s ≡ ok q to
    → explaining s object block byte ≡ asked s q object block byte
unfolding explaining
explaining_ok s object block byte l h = rw (le-leb (length s) most_bytes l, h)

-- ---- room

few-blocks : (object : Option ObjectElement) → Blocked object → (timing object).blocks ≤ most_blocks
unfolding timing timing_of
few-blocks none h = omega arith
few-blocks (some e) h = h.few

-- there is room for the records of every payload, and for its trim table
module _ (s : List ℕ) {q : Payload} {to : ℕ} (h : parsed s ≡ ok q to) where
  blocks-few : blocks_in q ≤ most_blocks
  unfolding tables
  blocks-few = few-blocks q.known.object (limits s h).object

  records-few : needed (tables_of q) ≤ room_bytes
  unfolding tables
  records-few =
      let m : q.programme.objects * blocks_in q ≤ most_objects * most_blocks = mul-le-mul (limits s h).few blocks-few in
      omega arith

  trim-few : trim_room (tables_of q) ≤ most_trim
  unfolding tables
  trim-few = omega (arith, (limits s h).few)

-- ---- records with their times, one by one

nth_record : (s : List ℕ) (n at m : ℕ) (blank : Record) → m < n → get_or (records_at s n at) m blank ≡ Rattle.record.specs.Bytes.record_at s (at + record_stride * m)
unfolding records_at
nth_record s zero at m blank l = absurd (omega arith)
nth_record s (suc n) at zero blank l = let e : at ≡ at + record_stride * 0 = omega arith in ap (Rattle.record.specs.Bytes.record_at s) e
nth_record s (suc n) at (suc m) blank l =
    let e : at + record_stride + record_stride * m ≡ at + record_stride * suc m = omega arith in
    nth_record s n (at + record_stride) m blank (omega arith) ∙ ap (Rattle.record.specs.Bytes.record_at s) e

timed_record : (time : ℕ → ℕ) (rs : List Record) (tail : List ℕ) (m : ℕ) → m < length rs
    → Rattle.record.specs.Bytes.record_at (timed_bytes_of time 0 rs ++ tail) (record_stride * m) ≡ get_or rs m no_record
timed_record time rs tail m l =
    let bytes : List ℕ = timed_bytes_of time 0 rs ++ tail in
    let e : record_stride * m ≡ 0 + record_stride * m = omega arith in
    ap (Rattle.record.specs.Bytes.record_at bytes) e ∙ sym (nth_record bytes (length rs) 0 m no_record l)
    ∙ ap (λ (l : List Record). get_or l m no_record) (records-again time 0 rs tail)

-- each record of a payload stands in its place
abbrev Stand : Payload → List ℕ → Type 0
Stand q b = (i : ℕ) → i < objects_in q * blocks_in q → Rattle.record.specs.Bytes.record_at b (record_stride * i) ≡ get_or (tables_of q).records i no_record

laid_out : (s : List ℕ) {q : Payload} {to : ℕ} → parsed s ≡ ok q to → (records b : List ℕ) → b ≡ onto (laid_records 0 (tables_of q)) records
    → (record_stride * (objects_in q * blocks_in q) ≤ length b) × Stand q b
unfolding onto tables
laid_out s {q} p records b h =
    let t = tables_of q in
    let laid : List ℕ = laid_records 0 t in
    let tail : List ℕ = drop (length laid) records in
    let long = length-needed 0 (bit s) 0 (8 * length s) past_payload p in
    let each = length-timed (time_of 0 t.timing) 0 t.records in (
      omega (arith, ap length h ∙ length-append laid tail),
      λ i l. ap (λ (bytes : List ℕ). Rattle.record.specs.Bytes.record_at bytes (record_stride * i)) h ∙ timed_record (time_of 0 t.timing) t.records tail i (omega arith),
    )

-- ---- what was read

pub record Came (s : List ℕ) (a : ReadAnswer) (b : List ℕ) : Type 0 where
  pub accepted : Accepted s
  pub objects : a.programme.objects ≡ objects_in (payload_in s)
  pub blocks : a.timing.blocks ≡ blocks_in (payload_in s)
  pub many : objects_in (payload_in s) ≤ most_objects
  pub few : blocks_in (payload_in s) ≤ most_blocks
  pub recorded : Recorded s b

module _ (s records trim : List ℕ) (a : ReadAnswer) (b t : List ℕ) (room : length records ≡ room_bytes) (trim-room : length trim ≡ most_trim)
    (h : ◌≡◌ {A = Outcome} (record { answer = a; buffer = b; trim = t }) (reading 0 s records trim)) where
  -- it is not for want of room
  fits : {q : Payload} {to pl : ℕ} → parsed s ≡ ok q to → Short records trim (needed (tables_of q)) (trim_room (tables_of q)) pl → ⊥
  fits p (records-short l e) = omega (arith, records-few s p)
  fits p (trim-short l m e) = omega (arith, trim-few s p)

  -- a refusal of the payload is that of the question
  pub came_refused : (object block byte : ℕ) → (a.refusal ≡ 0 → ⊥) → unexplained a.refusal a.place a.missing ≡ explaining s object block byte
  unfolding explaining
  came_refused object block byte z = go (case 0 s records trim)
    where
      told : {o : Outcome} → reading 0 s records trim ≡ o → unexplained a.refusal a.place a.missing ≡ unexplained o.answer.refusal o.answer.place o.answer.missing
      told e = ap (λ (o : Outcome). unexplained o.answer.refusal o.answer.place o.answer.missing) (h ∙ e)

      go : Case 0 s records trim → unexplained a.refusal a.place a.missing ≡ explaining s object block byte
      go (long l e) = told e ∙ sym (rw (lt-leb (length s) most_bytes l) refl)
      go (stopped r pl m l p two eight e) = told e ∙ sym (rw (le-leb (length s) most_bytes l, p) refl)
      go (full q to pl l p x e) = absurd (fits p x)
      go (read q to l p f g e) = absurd (z (ap (λ (o : Outcome). o.answer.refusal) (h ∙ e)))

  pub came-read : a.refusal ≡ 0 → Came s a b
  unfolding tables onto
  came-read z = go (case 0 s records trim)
    where
      refusal : {o : Outcome} → reading 0 s records trim ≡ o → o.answer.refusal ≡ 0
      refusal e = sym (ap (λ (o : Outcome). o.answer.refusal) (h ∙ e)) ∙ z

      go : Case 0 s records trim → Came s a b
      go (long l e) = absurd (omega (arith, refusal e))
      go (stopped r pl m l p two eight e) = absurd (omega (arith, refusal e))
      go (full q to pl l p x e) = absurd (fits p x)
      go (read q to l p f g e) =
          let is = sym (payload_is s p) in
          let answer = ap (λ (o : Outcome). o.answer) (h ∙ e) in
          let laid = laid_out s p records b (ap (λ (o : Outcome). o.buffer) (h ∙ e)) in
          record {
            accepted = record { short = l; to = to; ran = p ∙ ap (λ (x : Payload). ok x to) is };
            objects = ap (λ (x : ReadAnswer). x.programme.objects) answer ∙ ap objects_in is;
            blocks = ap (λ (x : ReadAnswer). x.timing.blocks) answer ∙ ap blocks_in is;
            many = subst (λ (x : Payload). objects_in x ≤ most_objects) is (limits s p).few;
            few = subst (λ (x : Payload). blocks_in x ≤ most_blocks) is (blocks-few s p);
            recorded = record {
              room = subst (λ (x : Payload). record_stride * (objects_in x * blocks_in x) ≤ length b) is laid.0;
              same = subst (λ (x : Payload). Stand x b) is laid.1;
            };
          }

-- ---- what is answered of an accepted payload

module _ {s : List ℕ} {a : ReadAnswer} {b : List ℕ} (x : Came s a b) (object block byte : ℕ) where
  pub no-object : a.programme.objects ≤ object → unexplained (number_of NoSuch) 1 0 ≡ explaining s object block byte
  no-object h = sym (explaining_ok s object block byte x.accepted.short x.accepted.ran ∙ rw (le-leb (objects_in (payload_in s)) object (omega (arith, x.objects))))

  pub no_block : object < a.programme.objects → a.timing.blocks ≤ block → unexplained (number_of NoSuch) 2 0 ≡ explaining s object block byte
  no_block l h =
      sym (explaining_ok s object block byte x.accepted.short x.accepted.ran
      ∙ rw (lt-leb (objects_in (payload_in s)) object (omega (arith, x.objects)), le-leb (blocks_in (payload_in s)) block (omega (arith, x.blocks))))

  pub no_byte : object < a.programme.objects → block < a.timing.blocks → record_bytes ≤ byte
      → unexplained (number_of NoSuch) 3 0 ≡ explaining s object block byte
  no_byte l m h =
      sym (explaining_ok s object block byte x.accepted.short x.accepted.ran
      ∙ rw (
        lt-leb (objects_in (payload_in s)) object (omega (arith, x.objects)),
        lt-leb (blocks_in (payload_in s)) block (omega (arith, x.blocks)),
        le-leb record_bytes byte h,
      ))

  pub there-asked : object < a.programme.objects → block < a.timing.blocks → Asked s a.timing.blocks object block
  there-asked l m = record {
    accepted = x.accepted;
    blocks = x.blocks;
    objects = x.many;
    few = omega (arith, x.blocks, x.few);
    object = omega (arith, x.objects);
    block = m;
  }

  pub all_there : object < a.programme.objects → block < a.timing.blocks → byte < record_bytes
      → explained (steps_told s (payload_in s) object block byte) ≡ explaining s object block byte
  all_there l m h =
      sym (explaining_ok s object block byte x.accepted.short x.accepted.ran
      ∙ rw (
        lt-leb (objects_in (payload_in s)) object (omega (arith, x.objects)),
        lt-leb (blocks_in (payload_in s)) block (omega (arith, x.blocks)),
        lt-leb record_bytes byte h,
      ))

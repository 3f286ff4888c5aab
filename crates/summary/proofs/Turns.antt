-- One turn of a summary: what is counted of the entries so far, and of one more. Assumes nothing.
use mathlib.Core.Path.{◌≡◌, sym, ap, ◌∙◌, subst}
use mathlib.Core.List.{List, [], ◌∷◌, ◌++◌, map}
use Prim.Native.Nat.{ℕ, ◌+◌, ◌*◌, ◌≤◌, ◌<◌}
use native.Mathlib.Numerals.{add-one}
use native.Mathlib.Omega.{arith}
use lib.ListN.{length, get_or, take, length-map, length-append, length-replicate}
use lib.Seq.{length-take-le, take_all}
use Rattle.bits.specs.Language.{from}
use Rattle.oamd.specs.declared.ReadAnswer.{ReadAnswer}
use Rattle.oamd.specs.Tables.{record_bytes, room_bytes, most_trim}
use Rattle.oamd.specs.Answer.{Outcome}
use Rattle.oamd.specs.Batch.{entry}
use Rattle.summary.specs.declared.Summary.{Summary}
use Rattle.summary.specs.Summary.{most_entries, tally, tallies, total, joined, zeros, alone, outcomes, refusal_of, accepted_of, records_in, records_of}
use Rattle.summary.specs.Summary.{bytes_of_records, column, used_updates, updates_of, is_late, ramp_length, summary_of, refused_summary}
use Rattle.summary.specs.Counting.{bumped, all_bumped, Low, counted, Fits}
use Rattle.summary.specs.Laws.{bumped-tallies, all-bumped-tallies, low-tallies, total-append}
use Rattle.roundtrip.specs.Entries.{Alike, entry-alike}
use Rattle.summary.specs.Entries.{Ranged, column-alike, entry-ranged, most_records}
use Rattle.summary.specs.More.{map-append, joined_more, length-column, column_long, Bounded, bounded, alone-ranged, all-ranged, length-outcomes, outcomes_next}

-- ---- one entry more

module _ (os : List Outcome) (o : Outcome) (ranged : Ranged o) where
  no-records : (k : ℕ) → (refusal_of o ≡ 0 → ⊥) → column k o ≡ []
  unfolding from
  no-records k z =
      let e : records_of o ≡ 0 = ap (λ (n : ℕ). n * o.answer.timing.blocks) (ranged.nothing z).0 ∙ omega arith in
      ap (λ (n : ℕ). bytes_of_records k n o.buffer) e

  no-updates : (refusal_of o ≡ 0 → ⊥) → updates_of o ≡ []
  no-updates z = ap (λ (n : ℕ). take n o.answer.timing.updates) (ranged.nothing z).1

  columns_more : (m k : ℕ) → all_bumped (column k o) (tallies m (joined (column k) (accepted_of os))) ≡ tallies m (joined (column k) (accepted_of (os ++ (o ∷ []))))
  columns_more m k = all-bumped-tallies m (joined (column k) (accepted_of os)) (column k o) ∙ ap (tallies m) (sym (joined_more (column k) os o (no-records k)))

  updates_more : (f : _) → total f (joined updates_of (accepted_of os)) + total f (updates_of o) ≡ total f (joined updates_of (accepted_of (os ++ (o ∷ []))))
  updates_more f = sym (total-append f (joined updates_of (accepted_of os)) (updates_of o)) ∙ ap (total f) (sym (joined_more updates_of os o no-updates))

  records_more : total records_of (accepted_of os) + records_of o ≡ total records_of (accepted_of (os ++ (o ∷ [])))
  records_more =
      let before = column_long 0 (accepted_of os) in
      let after = column_long 0 (accepted_of (os ++ (o ∷ []))) in
      let more = ap length (joined_more (column 0) os o (no-records 0)) ∙ length-append (joined (column 0) (accepted_of os)) (column 0 o) in
      omega (arith, length-column 0 o)

  -- the summary with it is that of all
  summary_more : counted (summary_of os) o.answer o.buffer ≡ summary_of (os ++ (o ∷ []))
  unfolding summary_of
  summary_more = λ j. record (summary_of os) {
    gains = columns_more 66 2 j;
    zones = columns_more 6 11 j;
    classes = columns_more 3 1 j;
    activity = columns_more 2 0 j;
    payloads = (bumped-tallies 13 (map refusal_of os) (refusal_of o) ∙ ap (tallies 13) (sym (map-append refusal_of os (o ∷ [])))) j;
    records = records_more j;
    late = updates_more is_late j;
    ramps = updates_more ramp_length j;
  }

-- ---- the loop

-- the sums have room for those of one entry more
pub record Small (s : Summary) : Type 0 where
  pub records : s.records ≤ 4000000000
  pub late : s.late ≤ 4000000000
  pub ramps : s.ramps ≤ 4000000000

summary-small : (os : List Outcome) → length os ≤ most_entries → Bounded os → Small (summary_of os)
unfolding summary_of
summary-small os few b = record { records = omega (arith, b.records); late = omega (arith, b.late); ramps = omega (arith, b.ramps) }

module _ (store starts lengths : List ℕ) where
  -- the entries before i
  abbrev before : ℕ → List Outcome
  before i = outcomes store (take i starts) (take i lengths)

  -- they have been counted
  pub record Done (s : Summary) (i : ℕ) : Type 0 where
    pub within : i ≤ length starts
    pub so_far : s ≡ summary_of (before i)

  pub begun : {s : Summary} → s ≡ refused_summary 0 0 → Done s 0
  unfolding outcomes summary_of accepted_of joined total tallies tally from refused_summary
  begun e = record { within = omega arith; so_far = e }

  pub ended : {s : Summary} {i : ℕ} → length lengths ≡ length starts → length starts ≤ i → Done s i → s ≡ summary_of (outcomes store starts lengths)
  ended {i = i} lists h d =
      let e : length lengths ≤ i = omega arith in
      d.so_far ∙ (λ j. summary_of (outcomes store (take_all i starts h j) (take_all i lengths e j)))

  module _ {s : Summary} {i : ℕ} (lists : length lengths ≡ length starts) (few : length starts ≤ most_entries) (d : Done s i) (h : i < length starts) where
    many-before : length (before i) ≡ i
    many-before =
        let a = length-take-le i starts (omega arith) in
        let b = length-take-le i lengths (omega arith) in
        length-outcomes store (take i starts) (take i lengths) (omega arith) ∙ a

    at_most : Bounded (before i)
    at_most = bounded (before i) (all-ranged store (take i starts) (take i lengths))

    -- the counts have room for the records of one entry more
    room_for : (m k n : ℕ) (counts : List ℕ) → counts ≡ tallies m (joined (column k) (accepted_of (before i))) → n ≤ most_records → Low n counts
    room_for m k n counts e l =
        let b = at_most.records in
        let long = many-before in
        rw e (low-tallies m n (joined (column k) (accepted_of (before i))) (omega (arith, column_long k (accepted_of (before i)))))

    columns-room : (n : ℕ) → n ≤ most_records → Low n s.gains × Low n s.zones × Low n s.classes × Low n s.activity
    unfolding summary_of
    columns-room n l = (
      room_for 66 2 n s.gains (ap (λ x. x.gains) d.so_far) l,
      room_for 6 11 n s.zones (ap (λ x. x.zones) d.so_far) l,
      room_for 3 1 n s.classes (ap (λ x. x.classes) d.so_far) l,
      room_for 2 0 n s.activity (ap (λ x. x.activity) d.so_far) l,
    )

    payloads-room : Low 1 s.payloads
    unfolding summary_of
    payloads-room =
        let long = many-before in
        rw (ap (λ x. x.payloads) d.so_far) (low-tallies 13 1 (map refusal_of (before i)) (omega (arith, length-map (before i) refusal_of)))

    sums-room : Small s
    sums-room = let long = many-before in subst Small (sym d.so_far) (summary-small (before i) (omega arith) at_most)

    module _ (a : ReadAnswer) (room trim room' trim' : List ℕ) (room-long : length room ≡ room_bytes) (trim-long : length trim ≡ most_trim)
        (read : record { answer = a; buffer = room'; trim = trim' } ≡ entry 0 store (get_or starts i 0) (get_or lengths i 0) room trim) where
      abbrev now : Outcome
      now = record { answer = a; buffer = room'; trim = trim' }

      in-range : Ranged now
      in-range = subst Ranged (sym read) (entry-ranged 0 store (get_or starts i 0) (get_or lengths i 0) room trim (omega arith) (omega arith))

      pub fits : length room' ≡ length room → Fits s a room'
      fits kept =
          let small = sums-room in
          let r = in-range in
          let ramps = r.ramps in
          record {
            blocks = r.blocks;
            eight = r.eight;
            bytes = omega (arith, r.many);
            long = kept ∙ room-long;
            low = columns-room (records_in a) r.many;
            payloads = payloads-room;
            records = small.records;
            late = small.late;
            ramps = omega (arith, small.ramps);
          }

      abbrev this : Outcome
      this = alone store (get_or starts i 0) (get_or lengths i 0)

      alike : Alike this now
      unfolding zeros
      alike = subst (Alike this) (sym read)
          (entry-alike 0 0 store (get_or starts i 0) (get_or lengths i 0) (zeros room_bytes) (zeros most_trim) room trim
          (omega (arith, length-replicate {A = ℕ} room_bytes 0)) (omega (arith, length-replicate {A = ℕ} most_trim 0)))

      -- what is counted of an entry goes by its answer and by the columns
      counted-same : (x : Summary) → counted x a room' ≡ counted x this.answer this.buffer
      counted-same x =
          let same : (k : ℕ) → k < record_bytes → column k now ≡ column k this = λ k m. column-alike this now k m alike in
          let answer = alike.answer in
          λ j. record x {
            gains = all_bumped (same 2 (omega arith) j) x.gains;
            zones = all_bumped (same 11 (omega arith) j) x.zones;
            classes = all_bumped (same 1 (omega arith) j) x.classes;
            activity = all_bumped (same 0 (omega arith) j) x.activity;
            payloads = bumped (answer j).refusal x.payloads;
            records = x.records + records_in (answer j);
            late = x.late + total is_late (used_updates (answer j).timing);
            ramps = x.ramps + total ramp_length (used_updates (answer j).timing);
          }

      pub turn : {s' : Summary} → s' ≡ counted s a room' → Done s' (i + 1)
      turn e = record {
        within = omega arith;
        so_far =
            e ∙ ap (λ (x : Summary). counted x a room') d.so_far
            ∙ counted-same (summary_of (before i))
            ∙ summary_more (before i) this (alone-ranged store (get_or starts i 0) (get_or lengths i 0))
            ∙ ap summary_of (sym (outcomes_next store starts lengths i lists h))
            ∙ ap (λ (n : ℕ). summary_of (before n)) (sym (add-one i));
      }

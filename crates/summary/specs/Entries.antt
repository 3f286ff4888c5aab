-- The entries of a summary: each column that is counted goes neither by the frame nor by what stood in the room, and how large all that is counted can be.
use Rattle.std.specs.Prelude.{◌≡◌, refl, List, ◌∷◌, map, ◌⊎◌, ℕ, zero, suc, ◌+◌, ◌*◌, ◌≤◌, ◌<◌, length, get_or}
use Rattle.std.proofs.Common.{ap, ap₂, ◌∙◌, mul-le-mul, arith}
use Rattle.bits.specs.Language.{from}
use Rattle.oamd.specs.Tables.{most_blocks, record_bytes, record_stride, room_bytes, most_trim}
use Rattle.oamd.specs.Timing.{no_update}
use Rattle.oamd.specs.Answer.{Outcome}
use Rattle.oamd.specs.Batch.{entry}
use Rattle.form.specs.Lemmas.Tests.{by_eq}
use Rattle.roundtrip.specs.Promises.{most_byte}
use Rattle.roundtrip.specs.Entries.{Alike, EntryInRange, entry-in_range}
use Rattle.summary.specs.Summary.{total, refusal_of, records_in, records_of, bytes_of_records, column, updates_of, ramp_length}
use Rattle.summary.specs.Laws.{total_most}

map-agree : (f g : ℕ → ℕ) (i n : ℕ) → ((j : ℕ) → j < i + n → f j ≡ g j) → map f (from i n) ≡ map g (from i n)
unfolding from
map-agree f g i zero h = refl
map-agree f g i (suc n) h = ap₂ (λ (x : ℕ) (xs : List ℕ). x ∷ xs) (h i (omega arith)) (map-agree f g (suc i) n (λ j l. h j (omega arith)))

-- so each column that is counted is the same
pub column-alike : (o o' : Outcome) (k : ℕ) → k < record_bytes → Alike o o' → column k o' ≡ column k o
column-alike o o' k m a =
    ap (λ (n : ℕ). bytes_of_records k n o'.buffer) (ap records_in a.answer)
    ∙ map-agree (λ i. get_or o'.buffer (record_stride * i + k) 0) (λ i. get_or o.buffer (record_stride * i + k) 0) 0 (records_of o) (λ j l. a.bytes j k (omega arith) m)

-- ---- ranges

-- the most records of an entry, 159 objects with 8 blocks each, and the most that its ramps add up to, 8 of 2,048
abbrev pub most_records : ℕ
most_records = 1272

abbrev pub most_ramps : ℕ
most_ramps = 16384

-- an entry that is read with room for every payload
pub record Ranged (o : Outcome) : Type 0 where
  pub nothing : (refusal_of o ≡ 0 → ⊥) → (o.answer.programme.objects ≡ 0) × (o.answer.timing.blocks ≡ 0)
  pub number : (refusal_of o ≤ 8) ⊎ (refusal_of o ≡ 12)
  pub blocks : o.answer.timing.blocks ≤ most_blocks
  pub eight : length o.answer.timing.updates ≡ most_blocks
  pub many : records_of o ≤ most_records
  pub bytes : (i k : ℕ) → i < records_of o → k < record_bytes → get_or o.buffer (record_stride * i + k) 0 ≤ get_or most_byte k 0
  pub ramps : total ramp_length (updates_of o) ≤ most_ramps

module _ (frame : ℕ) (store : List ℕ) (start len : ℕ) (records trim : List ℕ) (room : room_bytes ≤ length records) (trim-room : most_trim ≤ length trim) where
  abbrev came : Outcome
  came = entry frame store start len records trim

  in-range : EntryInRange came
  in-range = entry-in_range frame store start len records trim room trim-room

  -- without an accepted payload there is no record and no update
  bytes_most : (i k : ℕ) → i < records_of came → k < record_bytes → get_or came.buffer (record_stride * i + k) 0 ≤ get_or most_byte k 0
  bytes_most i k l m = by_eq (refusal_of came) 0
      (λ z. (in-range.accepted z).bytes i k l m)
      (λ z.
      let e = (in-range.nothing z).0 in
      let none : came.answer.programme.objects ≤ 0 = omega arith in
      let no_record : records_of came ≤ 0 * 8 = mul-le-mul none in-range.blocks in
      absurd (omega arith))

  ramp_most : (i : ℕ) → i < came.answer.timing.blocks → ramp_length (get_or came.answer.timing.updates i no_update) ≤ 2048
  ramp_most i l = by_eq (refusal_of came) 0
      (λ z. (in-range.accepted z).updates.ramps i l)
      (λ z. let none = (in-range.nothing z).1 in absurd (omega arith))

  ramps_most : total ramp_length (updates_of came) ≤ most_ramps
  ramps_most =
      let few = in-range.blocks in
      let sum = total_most ramp_length 2048 no_update came.answer.timing.updates came.answer.timing.blocks ramp_most in
      omega arith

  pub entry-ranged : Ranged came
  entry-ranged =
      let m : records_of came ≤ 159 * 8 = mul-le-mul in-range.objects in-range.blocks in
      record {
        nothing = in-range.nothing;
        number = in-range.number;
        blocks = in-range.blocks;
        eight = in-range.eight;
        many = omega arith;
        bytes = bytes_most;
        ramps = ramps_most;
      }

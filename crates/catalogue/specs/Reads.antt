-- The sheets that reads give: they do not go by what stood in the room, they fit, and their records are those of the reads.
use Rattle.std.specs.Prelude.{◌≡◌, refl, length, get_or, drop}
use Rattle.std.proofs.Math.Path.{sym, ap}
use Rattle.std.proofs.Common.{ap₂, ◌∙◌, mul-le-mul, mul-le-mul_right, arith, length-drop, ext_get_or, get_or-take, get_or-drop, length-take-le}
use mathlib.Core.List.{List, ◌∷◌, ◌++◌, map}
use Prim.Native.Nat.{ℕ, zero, suc, ◌+◌, ◌*◌, ◌≤◌, ◌<◌}
use Rattle.std.proofs.Math.ListN.{take}
use Rattle.std.proofs.lemmas.List.{length-replicate}
use Rattle.bits.specs.Language.{from}
use Rattle.oamd.specs.declared.ReadAnswer.{ReadAnswer}
use Rattle.oamd.specs.declared.Update.{Update}
use Rattle.oamd.specs.Tables.{record_bytes, record_stride, room_bytes, most_trim}
use Rattle.oamd.specs.Timing.{no_update}
use Rattle.oamd.specs.Answer.{Outcome}
use Rattle.oamd.specs.Batch.{entry}
use Rattle.demands.proofs.Lemmas.Shelves.{entry-keeps}
use Rattle.roundtrip.specs.Entries.{entry-alike, records_of, EntryInRange, entry-in_range}
use Rattle.text.specs.Lines.{texts}
use Rattle.catalogue.specs.Sheets.{Change, change_of, sheet_of, sheet_at, zeros}
use Rattle.catalogue.specs.Writes.{change_by, sheet_by}

-- ---- by index

-- entries that agree give the same texts
pub texts-agree : (f g : ℕ → List ℕ) (i n : ℕ) → ((j : ℕ) → i ≤ j → j < i + n → f j ≡ g j) → texts f (from i n) ≡ texts g (from i n)
unfolding texts from
texts-agree f g i zero h = refl
texts-agree f g i (suc n) h =
    ap₂ (λ (x xs : List ℕ). x ++ xs) (h i (omega arith) (omega arith)) (texts-agree f g (suc i) n (λ j l m. h j (omega arith) (omega arith)))

-- and the same list
pub map-agree : {B : Type 0} (f g : ℕ → B) (i n : ℕ) → ((j : ℕ) → i ≤ j → j < i + n → f j ≡ g j) → map f (from i n) ≡ map g (from i n)
unfolding from
map-agree f g i zero h = refl
map-agree {B} f g i (suc n) h =
    ap₂ (λ (x : B) (xs : List B). x ∷ xs) (h i (omega arith) (omega arith)) (map-agree f g (suc i) n (λ j l m. h j (omega arith) (omega arith)))

-- n bytes from a place on, of two lists that agree there
pub part-agree : (n at : ℕ) (s t : List ℕ) → at + n ≤ length s → at + n ≤ length t → ((k : ℕ) → k < n → get_or s (at + k) 0 ≡ get_or t (at + k) 0)
    → take n (drop at s) ≡ take n (drop at t)
part-agree n at s t h j same =
    let a = length-take-le n (drop at s) (omega (arith, length-drop at s)) in
    let b = length-take-le n (drop at t) (omega (arith, length-drop at t)) in
    ext_get_or 0 (take n (drop at s)) (take n (drop at t)) (a ∙ sym b) λ k l.
    get_or-take n (drop at s) k 0 (omega arith) ∙ get_or-drop at s k 0 ∙ same k (omega arith)
    ∙ sym (get_or-take n (drop at t) k 0 (omega arith) ∙ get_or-drop at t k 0)

-- record j × blocks + blk is one of objects × blocks
pub record-within : (objects blocks j blk : ℕ) → j < objects → blk < blocks → j * blocks + blk < objects * blocks
record-within objects blocks j blk h l = let m = mul-le-mul_right blocks h in omega arith

-- ---- the room

-- room for the records and the trim table of every payload
pub zeros_long : (length (zeros room_bytes) ≡ room_bytes) × (length (zeros most_trim) ≡ most_trim)
unfolding zeros
zeros_long = (length-replicate {A = ℕ} room_bytes 0, length-replicate {A = ℕ} most_trim 0)

module _ (frame : ℕ) (store : List ℕ) (start len : ℕ) (records trim : List ℕ) (room : length records ≡ room_bytes) (trim-room : length trim ≡ most_trim) where
  abbrev here : Outcome
  here = entry frame store start len records trim

  abbrev alone : Outcome
  alone = entry frame store start len (zeros room_bytes) (zeros most_trim)

  pub in-range : EntryInRange here
  in-range = entry-in_range frame store start len records trim (omega arith) (omega arith)

  -- the records of an entry lie within the room
  pub records-within : record_stride * records_of here ≤ room_bytes
  records-within = let m : records_of here ≤ 159 * 8 = mul-le-mul in-range.objects in-range.blocks in omega arith

  -- an entry comes to the same sheet, whatever stood in its room
  pub sheet-alike : sheet_of frame here ≡ sheet_at store start len frame
  unfolding sheet_of
  sheet-alike =
      let z = zeros_long in
      let a = entry-alike frame frame store start len (zeros room_bytes) (zeros most_trim) records trim (room ∙ sym z.0) (trim-room ∙ sym z.1) in
      let kept = (entry-keeps frame store start len records trim).records in
      let alone-kept = (entry-keeps frame store start len (zeros room_bytes) (zeros most_trim)).records in
      let objects : ℕ = alone.answer.programme.objects in
      let blocks : ℕ = alone.answer.timing.blocks in
      let long : record_stride * (objects * blocks) ≤ room_bytes = rw (sym a.answer) records-within in
      let rows : (blk j : ℕ) → blk < blocks → j < objects
      → take record_bytes (drop (record_stride * (j * blocks + blk)) here.buffer) ≡ take record_bytes (drop (record_stride * (j * blocks + blk)) alone.buffer) =
      λ blk j l m.
      let within = record-within objects blocks j blk m l in
      part-agree record_bytes (record_stride * (j * blocks + blk)) here.buffer alone.buffer (omega (arith, z.0)) (omega (arith, z.0))
      (λ k n. a.bytes (j * blocks + blk) k within n) in
      let updates : List Update = alone.answer.timing.updates in
      ap (λ (x : ReadAnswer). sheet_by frame x here.buffer) a.answer
      ∙ ap (λ (us : List Change). record { frame = frame; refusal = alone.answer.refusal; objects = objects; updates = us })
      (map-agree (change_of objects blocks here.buffer updates) (change_of objects blocks alone.buffer updates) 0 blocks (λ blk l m.
      ap (λ (rows : List ℕ). change_by (get_or updates blk no_update) rows)
      (texts-agree (λ j. take record_bytes (drop (record_stride * (j * blocks + blk)) here.buffer)) (λ j. take record_bytes (drop (record_stride * (j * blocks + blk)) alone.buffer))
      0 objects (λ j n o. rows blk j (omega arith) (omega arith)))))

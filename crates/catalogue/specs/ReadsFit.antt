-- Every sheet that a read gives fits: each number of it is in its range.
use Rattle.std.specs.Prelude.{◌≡◌, refl, List, [], ◌∷◌, map, ◌⊎◌, ℕ, zero, suc, ◌+◌, ◌*◌, ◌≤◌, ◌<◌, eqb, length, get_or, take, drop}
use Rattle.std.proofs.Common.{sym, ap, ◌∙◌, inl, inr, zero-add, mul-zero, mul-suc, arith, length-drop, length-append, get_or-append-add, get_or-take, get_or-drop, length-take-le}
use borrow.Author.Tests.{eqb-true, ne_eqb}
use Rattle.std.proofs.Math.ListN.{get_or-append}
use Rattle.bits.specs.Language.{from, pick}
use Rattle.bits.specs.Terms.{Every}
use Rattle.oamd.specs.Tables.{record_bytes, record_stride, room_bytes, most_trim}
use Rattle.oamd.specs.Answer.{Outcome}
use Rattle.oamd.specs.Batch.{entry}
use Rattle.demands.proofs.Lemmas.Shelves.{entry-keeps}
use Rattle.record.specs.Bytes.{scene_at}
use Rattle.form.specs.Lemmas.Tests.{by_eq, below}
use Rattle.roundtrip.specs.Promises.{most_byte, ReadInRange}
use Rattle.roundtrip.specs.Entries.{records_of, EntryInRange}
use Rattle.text.specs.Lines.{texts}
use Rattle.catalogue.specs.Fields.{fields, field_of, most_frame}
use Rattle.catalogue.specs.Sheets.{cell, block_rows, change_of, sheet_of, sheet_at, sheets_of, zeros}
use Rattle.catalogue.specs.Fit.{FitRows, FitChange, CanBe, Fit, refused, accepted}
use Rattle.catalogue.specs.Reads.{zeros_long, in-range, records-within, record-within}

-- ---- texts of one length

pub chunks_long : (w : ℕ) (f : ℕ → List ℕ) (i n : ℕ) → ((j : ℕ) → i ≤ j → j < i + n → length (f j) ≡ w) → length (texts f (from i n)) ≡ w * n
unfolding texts from
chunks_long w f i zero h = sym (mul-zero w)
chunks_long w f i (suc n) h =
    let rest = chunks_long w f (suc i) n (λ j l m. h j (omega arith) (omega arith)) in
    let one = h i (omega arith) (omega arith) in
    length-append (f i) (texts f (from (suc i) n)) ∙ omega (arith, rest, one, mul-suc w n)

-- byte k of the text of entry j
pub chunk-byte : (w : ℕ) (f : ℕ → List ℕ) (i n : ℕ) → ((j : ℕ) → i ≤ j → j < i + n → length (f j) ≡ w) → (j k : ℕ) → j < n → k < w
    → get_or (texts f (from i n)) (w * j + k) 0 ≡ get_or (f (i + j)) k 0
unfolding texts from
chunk-byte w f i zero h j k l m = absurd (omega arith)
chunk-byte w f i (suc n) h zero k l m =
    let one = h i (omega arith) (omega arith) in
    let at : w * 0 + k ≡ k = omega (arith, mul-zero w) in
    let here : i + 0 ≡ i = omega arith in
    rw (at, here) (get_or-append (f i) (texts f (from (suc i) n)) 0 k (omega arith))
chunk-byte w f i (suc n) h (suc j) k l m =
    let one = h i (omega arith) (omega arith) in
    let at : w * suc j + k ≡ length (f i) + (w * j + k) = omega (arith, one, mul-suc w j) in
    let there : i + suc j ≡ suc i + j = omega arith in
    rw (at, there)
    (get_or-append-add (f i) (texts f (from (suc i) n)) (w * j + k) 0
    ∙ chunk-byte w f (suc i) n (λ j l m. h j (omega arith) (omega arith)) j k (omega arith) m)

-- ---- the ranges of the fields, held against those of a record's bytes

same_most : (k : ℕ) → k < record_bytes → (field_of k).most ≡ get_or most_byte k 0
unfolding field_of fields
same_most k l = eqb-true (field_of k).most (get_or most_byte k 0) (below record_bytes (λ k. eqb (field_of k).most (get_or most_byte k 0)) refl k l)

-- only the height has a least value that is not 0
same_least : (k : ℕ) → k < record_bytes → (field_of k).least ≡ pick (eqb k 6) 49 0
unfolding field_of fields
same_least k l = eqb-true (field_of k).least (pick (eqb k 6) 49 0) (below record_bytes (λ k. eqb (field_of k).least (pick (eqb k 6) 49 0)) refl k l)

-- byte k of record i of an accepted read
module _ {o : Outcome} (r : ReadInRange o) (i k : ℕ) (l : i < records_of o) (m : k < record_bytes) where
  pub byte_least : (field_of k).least ≤ get_or o.buffer (record_stride * i + k) 0
  unfolding scene_at
  byte_least = by_eq k 6
      (λ six. let high = (r.records i l).z.0 in rw six (rw (same_least 6 (omega arith)) high))
      (λ other. rw (same_least k m, ne_eqb k 6 other) (omega arith))

  pub byte_most : get_or o.buffer (record_stride * i + k) 0 ≤ (field_of k).most
  byte_most = rw (same_most k m) (r.bytes i k l m)

-- ---- an entry

module _ (o : Outcome) (e : EntryInRange o) (long : record_stride * (o.answer.programme.objects * o.answer.timing.blocks) ≤ length o.buffer) where
  abbrev objects : ℕ
  objects = o.answer.programme.objects

  abbrev blocks : ℕ
  blocks = o.answer.timing.blocks

  abbrev row_at : ℕ → ℕ → List ℕ
  row_at blk j = take record_bytes (drop (record_stride * (j * blocks + blk)) o.buffer)

  row_long : (blk j : ℕ) → blk < blocks → j < objects → length (row_at blk j) ≡ record_bytes
  row_long blk j l m =
      let within = record-within objects blocks j blk m l in
      length-take-le record_bytes (drop (record_stride * (j * blocks + blk)) o.buffer) (omega (arith, length-drop (record_stride * (j * blocks + blk)) o.buffer))

  -- byte k of object j in a block
  pub row-byte : (blk j k : ℕ) → blk < blocks → j < objects → k < record_bytes
      → cell (block_rows objects blocks o.buffer blk) j k ≡ get_or o.buffer (record_stride * (j * blocks + blk) + k) 0
  row-byte blk j k l m n =
      chunk-byte record_bytes (row_at blk) 0 objects (λ i a b. row_long blk i l (omega arith)) j k m n
      ∙ ap (λ (i : ℕ). get_or (row_at blk i) k 0) (zero-add j)
      ∙ get_or-take record_bytes (drop (record_stride * (j * blocks + blk)) o.buffer) k 0 n
      ∙ get_or-drop (record_stride * (j * blocks + blk)) o.buffer k 0

  module _ (z : o.answer.refusal ≡ 0) where
    abbrev ranges : ReadInRange o
    ranges = e.accepted z

    rows_fit : (blk : ℕ) → blk < blocks → FitRows objects (block_rows objects blocks o.buffer blk)
    rows_fit blk l = record {
      long = chunks_long record_bytes (row_at blk) 0 objects (λ j a b. row_long blk j l (omega arith));
      least = λ j k m n. rw (row-byte blk j k l m n) (byte_least ranges (j * blocks + blk) k (record-within objects blocks j blk m l) n);
      most = λ j k m n. rw (row-byte blk j k l m n) (byte_most ranges (j * blocks + blk) k (record-within objects blocks j blk m l) n);
    }

    change_fits : (blk : ℕ) → blk < blocks → FitChange objects (change_of objects blocks o.buffer o.answer.timing.updates blk)
    change_fits blk l = record { start = ranges.updates.starts blk l; ramp = ranges.updates.ramps blk l; rows = rows_fit blk l }

-- each of a list by its index
every-from : {A : Type 0} (Q : A → Type 0) (f : ℕ → A) (i n : ℕ) → ((j : ℕ) → i ≤ j → j < i + n → Q (f j)) → Every Q (map f (from i n))
unfolding from
every-from Q f i zero h = tt
every-from Q f i (suc n) h = (h i (omega arith) (omega arith), every-from Q f (suc i) n (λ j l m. h j (omega arith) (omega arith)))

pub map_long : {A : Type 0} (f : ℕ → A) (i n : ℕ) → length (map f (from i n)) ≡ n
unfolding from
map_long f i zero = refl
map_long f i (suc n) = ap suc (map_long f (suc i) n)

pub can-be : (refusal : ℕ) → (refusal ≤ 8) ⊎ (refusal ≡ 12) → (refusal ≡ 0 → ⊥) → CanBe refusal
can-be refusal (inl h) some = inl (omega arith, h)
can-be refusal (inr h) some = inr h

outcome_fits : (frame : ℕ) (o : Outcome) → frame ≤ most_frame → EntryInRange o
    → record_stride * (o.answer.programme.objects * o.answer.timing.blocks) ≤ length o.buffer → Fit (sheet_of frame o)
unfolding sheet_of from
outcome_fits frame o few e long = by_eq o.answer.refusal 0
    (λ z.
    let blocks : ℕ = o.answer.timing.blocks in
    let objects : ℕ = o.answer.programme.objects in
    let count = map_long (change_of objects blocks o.buffer o.answer.timing.updates) 0 blocks in
    let most = e.blocks in
    accepted few z (e.some z) e.objects (omega arith)
    (every-from (FitChange objects) (change_of objects blocks o.buffer o.answer.timing.updates) 0 blocks (λ blk l m. change_fits o e long z blk (omega arith))))
    (λ z.
    let none = e.nothing z in
    refused few (can-be o.answer.refusal e.number z) (rw (none.0, none.1)))

-- an entry by itself
pub sheet_fits : (store : List ℕ) (start len frame : ℕ) → frame ≤ most_frame → Fit (sheet_at store start len frame)
sheet_fits store start len frame few =
    let z = zeros_long in
    let o : Outcome = entry frame store start len (zeros room_bytes) (zeros most_trim) in
    let kept = (entry-keeps frame store start len (zeros room_bytes) (zeros most_trim)).records in
    let within = records-within frame store start len (zeros room_bytes) (zeros most_trim) z.0 z.1 in
    outcome_fits frame o few (in-range frame store start len (zeros room_bytes) (zeros most_trim) z.0 z.1) (omega (arith, z.0))

-- and all of them, of frame numbers of 32 bits
pub sheets-fit : (store starts lengths frames : List ℕ) → Every (λ f. f ≤ most_frame) frames → Every Fit (sheets_of store starts lengths frames)
unfolding sheets_of
sheets-fit store [] lengths frames h = tt
sheets-fit store (start ∷ starts) [] frames h = tt
sheets-fit store (start ∷ starts) (len ∷ lengths) [] h = tt
sheets-fit store (start ∷ starts) (len ∷ lengths) (frame ∷ frames) h = (sheet_fits store start len frame h.0, sheets-fit store starts lengths frames h.1)

-- What is read back of the sheet of a read is what the read gave: its line says what the answer says, and its records are those in the lent buffer, byte for byte.
use Rattle.std.specs.Prelude.{◌≡◌, refl, ℕ, zero, suc, ◌+◌, ◌*◌, ◌/◌, ◌%◌, ◌≤◌, ◌<◌, length, get_or, drop}
use Rattle.std.proofs.Math.Path.{sym, ap, ap₂}
use Rattle.std.proofs.Common.{◌∙◌, zero-add, add-suc, mul-zero, zero-mul, mul-suc, suc-mul, le_refl, mul-le-mul, mod-eq_of_lt, length-drop, ext_get_or, get_or-take, get_or-drop, length-take-le, take-add, drop-drop}
use mathlib.Core.List.{List, [], ◌∷◌, ◌++◌, map}
use Rattle.std.proofs.Math.Nat.{mul_comm, mul_assoc, add-mod_right}
use native.Mathlib.Omega.{arith}
use Rattle.std.proofs.Math.ListN.{take}
use Rattle.bits.specs.Language.{from}
use Rattle.bits.specs.Steps.{by_order}
use Rattle.oamd.specs.declared.Update.{Update}
use Rattle.oamd.specs.Tables.{most_blocks, record_bytes, time_bytes, record_stride, room_bytes, most_trim, frame_samples}
use Rattle.oamd.specs.LeastFirst.{least_first}
use Rattle.oamd.specs.Timing.{no_update, samples}
use Rattle.oamd.specs.Time.{time_bytes_of}
use Rattle.oamd.specs.Answer.{Outcome}
use Rattle.oamd.specs.Batch.{each_bytes, update_bytes_of, entry}
use Rattle.demands.specs.Promises.{Timed}
use Rattle.demands.specs.Time.{time_when}
use Rattle.demands.proofs.Lemmas.Shelves.{entry-keeps, inside_is, outside_is}
use Rattle.form.specs.Lemmas.Tests.{by_eq}
use Rattle.roundtrip.specs.Entries.{records_of, EntryInRange}
use Rattle.text.specs.Lines.{texts}
use Rattle.catalogue.specs.Sheets.{Change, row_of, block_rows, change_of, sheet_of, sheet_at, zeros}
use Rattle.catalogue.specs.Answer.{no_change, line_bytes, records_bytes}
use Rattle.catalogue.specs.Reads.{texts-agree, record-within, zeros_long, in-range, records-within}
use Rattle.catalogue.specs.ReadsFit.{chunks_long, chunk-byte, map_long}

-- ---- parts of a list put together

-- n parts of w bytes each, from the part a + i on
pub parts_join : (w : ℕ) (s : List ℕ) (a i n : ℕ) → texts (λ j. take w (drop (w * (a + j)) s)) (from i n) ≡ take (w * n) (drop (w * (a + i)) s)
unfolding texts from
parts_join w s a i zero = rw (mul-zero w)
parts_join w s a i (suc n) =
    let at : w * (a + i) + w ≡ w * (a + suc i) = omega (arith, mul-suc w (a + i), add-suc a i) in
    let long : w * suc n ≡ w + w * n = omega (arith, mul-suc w n) in
    ap (λ (rest : List ℕ). take w (drop (w * (a + i)) s) ++ rest)
    (parts_join w s a (suc i) n ∙ ap (λ (p : ℕ). take (w * n) (drop p s)) (sym at) ∙ ap (take (w * n)) (sym (drop-drop w (w * (a + i)) s)))
    ∙ sym (ap (λ (m : ℕ). take m (drop (w * (a + i)) s)) long ∙ take-add w (w * n) (drop (w * (a + i)) s))

-- the text of entry j stands at its place
pub chunk_is : (w : ℕ) (f : ℕ → List ℕ) (n : ℕ) → ((j : ℕ) → j < n → length (f j) ≡ w) → (j : ℕ) → j < n → take w (drop (w * j) (texts f (from 0 n))) ≡ f j
chunk_is w f n h j l =
    let whole = chunks_long w f 0 n (λ i a b. h i (omega arith)) in
    let one = h j l in
    let end : w * suc j ≤ w * n = mul-le-mul (le_refl w) l in
    let part = length-take-le w (drop (w * j) (texts f (from 0 n))) (omega (arith, whole, length-drop (w * j) (texts f (from 0 n)), mul-suc w j)) in
    ext_get_or 0 (take w (drop (w * j) (texts f (from 0 n)))) (f j) (part ∙ sym one) λ k m.
    get_or-take w (drop (w * j) (texts f (from 0 n))) k 0 (omega arith)
    ∙ get_or-drop (w * j) (texts f (from 0 n)) k 0
    ∙ chunk-byte w f 0 n (λ i a b. h i (omega arith)) j k l (omega arith)
    ∙ ap (λ (i : ℕ). get_or (f i) k 0) (zero-add j)

pub texts-map : {A : Type 0} (g : A → List ℕ) (c : ℕ → A) (i n : ℕ) → texts g (map c (from i n)) ≡ texts (λ j. g (c j)) (from i n)
unfolding texts from
texts-map g c i zero = refl
texts-map g c i (suc n) = ap (λ (rest : List ℕ). g (c i) ++ rest) (texts-map g c (suc i) n)

block_of : (blocks j blk : ℕ) → blk < blocks → (j * blocks + blk) % blocks ≡ blk
block_of blocks zero blk h = ap (λ (n : ℕ). n % blocks) (let e = zero-mul blocks in omega arith) ∙ mod-eq_of_lt h
block_of blocks (suc j) blk h =
    ap (λ (n : ℕ). n % blocks) (let e = suc-mul j blocks in omega arith) ∙ add-mod_right (j * blocks + blk) blocks ∙ block_of blocks j blk h

pub least_long : (n v : ℕ) → length (least_first n v) ≡ n
unfolding least_first
least_long zero v = refl
least_long (suc n) v = ap suc (least_long n (v / 256))

-- ---- an entry

-- the times of an entry that is accepted
entry-timed : (frame : ℕ) (store : List ℕ) (start len : ℕ) (records trim : List ℕ) → (entry frame store start len records trim).answer.refusal ≡ 0
    → Timed frame (entry frame store start len records trim)
entry-timed frame store start len records trim z = by_order (start + len) (length store)
    (λ h.
    let is = inside_is frame store start len records trim h in
    rw is (time_when frame (take len (drop start store)) records trim (rw is at z)))
    (λ h. let is = outside_is frame store start len records trim h in let twelve : ◌≡◌ {A = ℕ} 12 0 = rw is at z in absurd (omega arith))

module _ (frame : ℕ) (o : Outcome) (t : Timed frame o) (long : record_stride * (o.answer.programme.objects * o.answer.timing.blocks) ≤ length o.buffer) where
  abbrev objects : ℕ
  objects = o.answer.programme.objects

  abbrev blocks : ℕ
  blocks = o.answer.timing.blocks

  abbrev place_of : ℕ → ℕ → ℕ
  place_of j blk = record_stride * (j * blocks + blk)

  abbrev start_of : ℕ → ℕ
  start_of blk = (get_or o.answer.timing.updates blk no_update).start.0

  -- the bytes behind a record are its time
  time_is : (j blk : ℕ) → j < objects → blk < blocks
      → take time_bytes (drop (place_of j blk + record_bytes) o.buffer) ≡ time_bytes_of (frame * frame_samples + start_of blk)
  time_is j blk l m =
      let within = record-within objects blocks j blk l m in
      let part = length-take-le time_bytes (drop (place_of j blk + record_bytes) o.buffer) (omega (arith, length-drop (place_of j blk + record_bytes) o.buffer)) in
      ext_get_or 0 (take time_bytes (drop (place_of j blk + record_bytes) o.buffer)) (time_bytes_of (frame * frame_samples + start_of blk))
      (part ∙ sym (least_long time_bytes (frame * frame_samples + start_of blk))) λ k n.
      get_or-take time_bytes (drop (place_of j blk + record_bytes) o.buffer) k 0 (omega arith)
      ∙ get_or-drop (place_of j blk + record_bytes) o.buffer k 0
      ∙ t.bytes (j * blocks + blk) k within (omega arith)
      ∙ ap (λ (b : ℕ). get_or (least_first time_bytes (frame * frame_samples + start_of b)) k 0) (block_of blocks j blk m)

  -- a record as it is read back: its row, and its time
  record_is : (j blk : ℕ) → j < objects → blk < blocks
      → row_of (block_rows objects blocks o.buffer blk) j ++ time_bytes_of (frame * frame_samples + start_of blk) ≡ take record_stride (drop (place_of j blk) o.buffer)
  record_is j blk l m =
      ap₂ (λ (r b : List ℕ). r ++ b)
      (chunk_is record_bytes (λ i. take record_bytes (drop (place_of i blk) o.buffer)) objects (λ i n. row-length i n) j l)
      (sym (time_is j blk l m) ∙ ap (take time_bytes) (sym (drop-drop record_bytes (place_of j blk) o.buffer)))
      ∙ sym (take-add record_bytes time_bytes (drop (place_of j blk) o.buffer))
    where
      row-length : (i : ℕ) → i < objects → length (take record_bytes (drop (place_of i blk) o.buffer)) ≡ record_bytes
      row-length i n =
          let within = record-within objects blocks i blk n m in
          length-take-le record_bytes (drop (place_of i blk) o.buffer) (omega (arith, length-drop (place_of i blk) o.buffer))

  records-are : records_bytes (sheet_of frame o) ≡ take (record_stride * (objects * blocks)) o.buffer
  unfolding records_bytes sheet_of
  records-are =
      texts-agree _ (λ j. take (record_stride * blocks) (drop (record_stride * blocks * (0 + j)) o.buffer)) 0 objects (λ j l m.
      texts-map _ (change_of objects blocks o.buffer o.answer.timing.updates) 0 blocks
      ∙ texts-agree _ (λ blk. take record_stride (drop (record_stride * (j * blocks + blk)) o.buffer)) 0 blocks (λ blk n k. record_is j blk (omega arith) (omega arith))
      ∙ parts_join record_stride o.buffer (j * blocks) 0 blocks
      ∙ ap (λ (p : ℕ). take (record_stride * blocks) (drop p o.buffer)) (place_of-object j))
      ∙ parts_join (record_stride * blocks) o.buffer 0 0 objects
      ∙ ap₂ (λ (n p : ℕ). take n (drop p o.buffer)) all-bytes from_start
    where
      place_of-object : (j : ℕ) → record_stride * (j * blocks + 0) ≡ record_stride * blocks * (0 + j)
      place_of-object j =
          let a = mul_assoc record_stride blocks j in
          let b = mul_comm j blocks in
          ap (λ (n : ℕ). record_stride * n) (let e : j * blocks + 0 ≡ blocks * j = omega arith in e) ∙ sym a ∙ ap (λ (n : ℕ). record_stride * blocks * n) (sym (zero-add j))

      all-bytes : record_stride * blocks * objects ≡ record_stride * (objects * blocks)
      all-bytes = mul_assoc record_stride blocks objects ∙ ap (λ (n : ℕ). record_stride * n) (mul_comm blocks objects)

      from_start : record_stride * blocks * (0 + 0) ≡ 0
      from_start = mul-zero (record_stride * blocks)

-- ---- what is read back

-- of each entry of a list by its index, as of the list itself
indexed : {A : Type 0} (f : A → List ℕ) (xs : List A) (d : A) (g : ℕ → A) (i : ℕ) → ((j : ℕ) → j < length xs → g (i + j) ≡ get_or xs j d)
    → texts (λ j. f (g j)) (from i (length xs)) ≡ each_bytes f xs
unfolding texts from each_bytes
indexed f [] d g i h = refl
indexed f (x ∷ xs) d g i h =
    ap₂ (λ (a b : List ℕ). a ++ b) (ap f (ap g (let e : i ≡ i + 0 = omega arith in e) ∙ h 0 (omega arith)))
    (indexed f xs d g (suc i) (λ j l. ap g (let e : suc i + j ≡ i + suc j = omega arith in e) ∙ h (suc j) (omega arith)))

-- an entry of a list that was made by counting, and what stands for those that there are not
counted : {A : Type 0} (c : ℕ → A) (d : A) (i n j : ℕ) → j < n → get_or (map c (from i n)) j d ≡ c (i + j)
unfolding from
counted c d i zero j l = absurd (omega arith)
counted c d i (suc n) zero l = ap c (let e : i ≡ i + 0 = omega arith in e)
counted c d i (suc n) (suc j) l = counted c d (suc i) n j (omega arith) ∙ ap c (let e : suc i + j ≡ i + suc j = omega arith in e)

uncounted : {A : Type 0} (c : ℕ → A) (d : A) (i n j : ℕ) → n ≤ j → get_or (map c (from i n)) j d ≡ d
unfolding from
uncounted c d i zero j l = refl
uncounted c d i (suc n) zero l = absurd (omega arith)
uncounted c d i (suc n) (suc j) l = uncounted c d (suc i) n j (omega arith)

-- start and ramp of an update, in the units of a timing
abbrev update_of : Change → Update
update_of u = record { start = samples u.start; ramp = samples u.ramp }

module _ (store : List ℕ) (start len frame : ℕ) where
  abbrev alone : Outcome
  alone = entry frame store start len (zeros room_bytes) (zeros most_trim)

  ranged : EntryInRange alone
  ranged = in-range frame store start len (zeros room_bytes) (zeros most_trim) zeros_long.0 zeros_long.1

  -- the records of an entry, byte for byte as a read of it leaves them; a refused one has none
  pub records_same : records_bytes (sheet_at store start len frame) ≡ take (record_stride * records_of alone) alone.buffer
  unfolding records_bytes sheet_of texts from
  records_same = by_eq alone.answer.refusal 0
      (λ z.
      let kept = (entry-keeps frame store start len (zeros room_bytes) (zeros most_trim)).records in
      let within = records-within frame store start len (zeros room_bytes) (zeros most_trim) zeros_long.0 zeros_long.1 in
      records-are frame alone (entry-timed frame store start len (zeros room_bytes) (zeros most_trim) z) (omega (arith, zeros_long.0)))
      (λ z.
      let none = (ranged.nothing z).0 in
      let no_bytes : record_stride * (0 * alone.answer.timing.blocks) ≡ 0 = ap (λ (n : ℕ). record_stride * n) (zero-mul alone.answer.timing.blocks) in
      rw none (rw no_bytes))

  -- the update of a block, as the line holds it
  update_same : (blk : ℕ) → blk < most_blocks
      → update_of (get_or (sheet_at store start len frame).updates blk no_change) ≡ get_or alone.answer.timing.updates blk no_update
  unfolding sheet_of
  update_same blk l = by_order alone.answer.timing.blocks blk
      (λ m. ap update_of (uncounted _ no_change 0 alone.answer.timing.blocks blk m) ∙ sym (ranged.unused blk m l))
      (λ m.
      let made = change_of alone.answer.programme.objects alone.answer.timing.blocks alone.buffer alone.answer.timing.updates in
      ap update_of (counted made no_change 0 alone.answer.timing.blocks blk m ∙ ap made (zero-add blk)))

  -- its line says what the answer says: the refusal, or the objects and the blocks with the start and the ramp of each
  pub line_same : line_bytes (sheet_at store start len frame)
      ≡ least_first 4 frame
      ++ ((alone.answer.refusal ∷ alone.answer.programme.objects ∷ alone.answer.timing.blocks ∷ 0 ∷ [])
      ++ each_bytes update_bytes_of alone.answer.timing.updates)
  unfolding line_bytes sheet_of update_bytes_of
  line_same =
      let eight = ranged.eight in
      ap₂ (λ (n : ℕ) (us : List ℕ). least_first 4 frame ++ ((alone.answer.refusal ∷ alone.answer.programme.objects ∷ n ∷ 0 ∷ []) ++ us))
      (map_long _ 0 alone.answer.timing.blocks)
      (ap (λ (n : ℕ). texts (λ blk. update_bytes_of (update_of (get_or (sheet_at store start len frame).updates blk no_change))) (from 0 n)) (sym eight)
      ∙ indexed update_bytes_of alone.answer.timing.updates no_update (λ blk. update_of (get_or (sheet_at store start len frame).updates blk no_change)) 0
      (λ j l. ap (λ (n : ℕ). update_of (get_or (sheet_at store start len frame).updates n no_change)) (zero-add j) ∙ update_same j (omega arith)))

-- The longest listing: how many bytes suffice for every payload.
use Rattle.std.specs.Prelude.{◌≡◌, refl, Bool, true, false, List, [], ◌∷◌, ◌++◌, ℕ, zero, suc, ◌+◌, ◌*◌, ◌^◌, ◌≤◌, ◌<◌, eqb, length, get_or, drop}
use Rattle.std.proofs.Common.{append-nil, arith, eqb-true, ne_eqb, length-append, length-take}
use Rattle.std.proofs.lemmas.List.{length-replicate}
use Rattle.bits.specs.Language.{from}
use Rattle.bits.specs.Writes.{only}
use Rattle.oamd.specs.declared.ReadAnswer.{ReadAnswer}
use Rattle.oamd.specs.declared.Programme.{Programme}
use Rattle.oamd.specs.declared.Update.{Update}
use Rattle.oamd.specs.Tables.{most_objects, most_blocks, room_bytes, most_trim, record_stride}
use Rattle.oamd.specs.Programme.{shares}
use Rattle.oamd.specs.Timing.{no_update}
use Rattle.form.specs.Lemmas.Tests.{by-test}
use Rattle.keys.specs.Names.{refusal_key, place_key, missing_key, objects_key, bed_key, isf_key, dynamic_key, blocks_key, unknown_key, block_key, record_key}
use Rattle.text.specs.Numerals.{decimal, hex_byte}
use Rattle.text.specs.NumeralLaws.{decimal-length}
use Rattle.text.specs.Lines.{texts, hex, comma, newline, line, number_line}
use Rattle.text.specs.Listing.{block_line, block_lines, record_at, record_line, object_lines, record_lines, share_lines, table_lines, listing_of, zeros, read, listing}
use Rattle.text.specs.Ranges.{Small, accepted-small, answer-marked}

-- room for the listing of every payload, and to spare
abbrev pub most_text : ℕ
most_text = 100000

-- ---- lines

number_most : (key : List ℕ) (k n : ℕ) → 1 ≤ k → n < 10 ^ k → length (number_line key n) ≤ length key + k + 1
unfolding line
number_most key k n h l =
    let digits = decimal-length k n h l in
    omega (arith, length-append key (decimal n ++ (newline ∷ [])), length-append (decimal n) (newline ∷ []))

three_long : (key a b c : List ℕ) → length (line key (a ∷ b ∷ c ∷ [])) ≡ length key + length a + length b + length c + 3
unfolding line
three_long key a b c =
    let end : List ℕ = newline ∷ [] in
    let rest : List ℕ = b ++ (comma ∷ c) in
    omega (arith, length-append key ((a ++ (comma ∷ rest)) ++ end), length-append (a ++ (comma ∷ rest)) end, length-append a (comma ∷ rest), length-append b (comma ∷ c))

-- ---- one after the other

-- n texts of m bytes at the most
counted_most : (f : ℕ → List ℕ) (m i n : ℕ) → ((j : ℕ) → j < i + n → length (f j) ≤ m) → length (texts f (from i n)) ≤ n * m
unfolding texts from
counted_most f m i zero h = omega arith
counted_most f m i (suc n) h =
    let one = h i (omega arith) in
    let more = counted_most f m (suc i) n (λ j l. h j (omega arith)) in
    omega (arith, length-append (f i) (texts f (from (suc i) n)))

hex_long : (bytes : List ℕ) → length (hex bytes) ≡ 2 * length bytes
unfolding texts
hex_long [] = refl
hex_long (b ∷ bytes) = let n = hex_long bytes in omega (arith, length-append (hex_byte b) (hex bytes))

block_most : (blk : ℕ) (u : Update) → blk < 10 → u.start.0 < 10000 → u.ramp.0 < 10000 → length (block_line blk u) ≤ 18
block_most blk u h s r =
    let a = decimal-length 1 blk (omega arith) (omega arith) in
    let b = decimal-length 4 u.start.0 (omega arith) s in
    let c = decimal-length 4 u.ramp.0 (omega arith) r in
    omega (arith, three_long block_key (decimal blk) (decimal u.start.0) (decimal u.ramp.0))

-- a key of 7 bytes, a number of 3, one of 1, 64 digits, two commas and the line's end
record_most : (object blk : ℕ) (records : List ℕ) (i : ℕ) → object < 1000 → blk < 10 → length (record_line object blk (record_at records i)) ≤ 78
record_most object blk records i h l =
    let a = decimal-length 3 object (omega arith) (omega arith) in
    let b = decimal-length 1 blk (omega arith) (omega arith) in
    let bytes = record_at records i in
    let few = length-take record_stride (drop (record_stride * i) records) in
    omega (arith, three_long record_key (decimal object) (decimal blk) (hex bytes), hex_long bytes)

-- ---- the whole

blocks_most : (a : ReadAnswer) → Small a → length (block_lines a.timing) ≤ 144
unfolding block_lines
blocks_most a h =
    let few = h.blocks in
    let n = counted_most (λ blk. block_line blk (get_or a.timing.updates blk no_update)) 18 0 a.timing.blocks
    (λ blk l.
    let start = h.updates.starts blk (omega arith) in
    let ramp = h.updates.ramps blk (omega arith) in
    block_most blk (get_or a.timing.updates blk no_update) (omega arith) (omega arith) (omega arith)) in
    omega arith

-- the eight records of an object take 624
records_most : (objects blocks : ℕ) (records : List ℕ) → objects ≤ most_objects → blocks ≤ most_blocks → length (record_lines objects blocks records) ≤ 99216
unfolding record_lines
records_most objects blocks records h l =
    let n = counted_most (object_lines blocks records) 624 0 objects (λ object i.
    let m = counted_most (λ blk. record_line object blk (record_at records (object * blocks + blk))) 78 0 blocks
    (λ blk k. record_most object blk records (object * blocks + blk) (omega arith) (omega arith)) in
    omega arith) in
    omega arith

shares_most : (a : ReadAnswer) → Small a → length (share_lines a.programme) ≤ 40
unfolding share_lines
shares_most a h =
    let p : Programme = a.programme in
    let b : List ℕ = number_line bed_key (shares p).bed in
    let i : List ℕ = number_line isf_key (shares p).isf in
    let d : List ℕ = number_line dynamic_key (shares p).dynamic in
    let objects = h.objects in
    let bed = h.bed in
    let isf = h.isf in
    let dynamic = h.dynamic in
    let w = number_most objects_key 3 p.objects (omega arith) (omega arith) in
    let x = number_most bed_key 3 (shares p).bed (omega arith) (omega arith) in
    let y = number_most isf_key 3 (shares p).isf (omega arith) (omega arith) in
    let z = number_most dynamic_key 3 (shares p).dynamic (omega arith) (omega arith) in
    omega (arith, length-append (number_line objects_key p.objects) (b ++ (i ++ d)), length-append b (i ++ d), length-append i d)

tables_most : (a : ReadAnswer) (records : List ℕ) → Small a → length (table_lines a records) ≤ 99420
unfolding table_lines
tables_most a records h =
    let few = h.blocks in
    let unknown = h.unknown in
    let n : List ℕ = number_line blocks_key a.timing.blocks in
    let u : List ℕ = number_line unknown_key a.unknown in
    let bs : List ℕ = block_lines a.timing in
    let rs : List ℕ = record_lines a.programme.objects a.timing.blocks records in
    let v = shares_most a h in
    let w = number_most blocks_key 1 a.timing.blocks (omega arith) (omega arith) in
    let x = number_most unknown_key 2 a.unknown (omega arith) (omega arith) in
    let y = blocks_most a h in
    let z = records_most a.programme.objects a.timing.blocks records h.objects few in
    omega (arith, length-append (share_lines a.programme) (n ++ (u ++ (bs ++ rs))), length-append n (u ++ (bs ++ rs)), length-append u (bs ++ rs), length-append bs rs)

-- a part that may be absent, with nothing behind it
either_most : (t : Bool) (m : List ℕ) (n : ℕ) → length m ≤ n → length (only t m ++ []) ≤ n
either_most true m n h = rw (append-nil m) h
either_most false m n h = omega arith

listing_most : (a : ReadAnswer) (records : List ℕ) → a.refusal ≤ 9 → a.place < 10 ^ 20 → a.missing < 10 ^ 7 → (a.refusal ≡ 0 → Small a)
    → length (listing_of a records) ≤ 99457
unfolding listing_of
listing_most a records h l few small =
    let p : List ℕ = number_line place_key a.place in
    let m : List ℕ = number_line missing_key a.missing in
    let t : List ℕ = only (eqb a.refusal 2) m ++ only (eqb a.refusal 0) (table_lines a records) in
    let x = number_most refusal_key 1 a.refusal (omega arith) (omega arith) in
    let y = number_most place_key 20 a.place (omega arith) l in
    let w = number_most missing_key 7 a.missing (omega arith) few in
    let z : length t ≤ 99420 =
    by-test (eqb a.refusal 0)
    (λ e.
    let zero = eqb-true a.refusal 0 e in
    rw (e, ne_eqb a.refusal 2 (λ z. omega arith)) (tables_most a records (small zero)))
    (λ e. rw e (either_most (eqb a.refusal 2) m 99420 (omega arith))) in
    omega (arith, length-append (number_line refusal_key a.refusal) (p ++ t), length-append p t)

pub zeros_long : (n : ℕ) → length (zeros n) ≡ n
unfolding zeros
zeros_long n = length-replicate {A = ℕ} n 0

-- no listing is longer, of a payload that a slice can hold
pub most-text : (s : List ℕ) → length s < 2 ^ 64 → length (listing s) ≤ most_text
unfolding listing
most-text s h =
    let room = zeros_long room_bytes in
    let trim = zeros_long most_trim in
    let m = answer-marked 0 s (zeros room_bytes) (zeros most_trim) (omega arith) (omega arith) (omega arith) in
    let n = listing_most (read s).answer (read s).buffer m.refusal m.place m.missing (accepted-small 0 s (zeros room_bytes) (zeros most_trim)) in
    omega arith

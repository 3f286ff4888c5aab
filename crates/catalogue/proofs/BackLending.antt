-- What is laid of a frame that was read back: numbers by their bytes, and its line and its records as those of its sheet. Assumes nothing.
use mathlib.Core.Path.{◌≡◌, refl, sym, ap, ap₂, ◌∙◌}
use mathlib.Core.Bool.{Bool, true, false}
use mathlib.Core.List.{List, [], ◌∷◌, ◌++◌, map}
use Prim.Native.Nat.{ℕ, zero, suc, ◌+◌, ◌-◌, ◌*◌, ◌/◌, ◌%◌, ◌<◌, ◌≤◌}
use native.Mathlib.Nat.{mul-le-mul, div-one, pow-suc, div-div-eq-div-mul}
use native.Mathlib.Omega.{arith}
use borrow.Author.Tests.{lt-ltb, le-ltb}
use lib.Dec.{ltb}
use Rattle.std.specs.Prelude.{◌^◌}
use Rattle.std.specs.Int.{bytes_low_first, byte_at, to_le_bytes, w64}
use lib.ListN.{length, get_or, take, drop, length-map}
use lib.Seq.{take-take, drop-drop}
use Rattle.bits.specs.Language.{pick, from}
use Rattle.bits.specs.Laws.{length_from}
use Rattle.bits.specs.Steps.{by_order}
use Rattle.oamd.specs.Tables.{most_objects, most_blocks, record_bytes, frame_samples, scratch_bytes}
use Rattle.oamd.specs.LeastFirst.{least_first}
use Rattle.oamd.specs.Time.{time_bytes_of}
use Rattle.oamd.specs.Timing.{no_update}
use Rattle.text.specs.Laying.{Laid}
use Rattle.text.proofs.LayLaws.{laid-bind, laid_is}
use Rattle.catalogue.specs.declared.Page.{Page}
use Rattle.catalogue.specs.Sheets.{Change, rows_bytes, row_of}
use Rattle.catalogue.specs.Answer.{update_bytes, no_change, line_bytes, records_bytes}
use Rattle.catalogue.specs.Reads.{texts-agree}
use Rattle.catalogue.specs.Records.{texts-map}
use Rattle.catalogue.specs.BackCalls.{change_in, sheet_in, update_of, line_of, record_in, object_of, records_of}

-- ---- the bytes of a number, one by one

low-bytes : (m k i n : ℕ) → m ≤ k → take m (bytes_low_first i k n) ≡ least_first m (n / 256 ^ i)
unfolding least_first
low-bytes zero k i n h = refl
low-bytes (suc m) zero i n h = absurd (omega arith)
low-bytes (suc m) (suc k) i n h =
    ap₂ (λ (x : ℕ) (xs : List ℕ). x ∷ xs) (byte i) (low-bytes m k (suc i) n (omega arith) ∙ ap (least_first m) higher)
  where
    byte : (i : ℕ) → byte_at i n ≡ n / 256 ^ i % 256
    byte zero = ap (λ (x : ℕ). x % 256) (sym (div-one n))
    byte (suc i) = refl

    higher : n / 256 ^ suc i ≡ n / 256 ^ i / 256
    higher = ap (λ (x : ℕ). n / x) (pow-suc 256 i) ∙ sym (div-div-eq-div-mul n (256 ^ i) 256)

pub least-bytes : (m v : ℕ) → m ≤ 8 → take m (to_le_bytes w64 v) ≡ least_first m v
least-bytes m v h = low-bytes m 8 0 v h ∙ ap (least_first m) (div-one v)

-- ---- a record

-- the rows of an update lie before the end of all
pub rows-within : (objects blocks blk : ℕ) → objects ≤ most_objects → blocks ≤ most_blocks → blk < blocks → rows_bytes objects * blk + rows_bytes objects ≤ scratch_bytes
rows-within objects blocks blk h i j = omega (arith, mul-le-mul h (let k : blk + 1 ≤ most_blocks = omega arith in k))

pub record-laid : {s t u : List ℕ} {at q r : ℕ} (p : Page) (store : List ℕ) (j blk place time : ℕ) → place ≡ rows_bytes p.objects * blk + record_bytes * j
    → time ≡ p.frame * frame_samples + (get_or p.timing.updates blk no_update).start.0
    → Laid s t at q (take (place + record_bytes - place) (drop place store)) → Laid t u q r (time_bytes_of time)
    → Laid s u at r (record_in p store j blk)
record-laid p store j blk place time e f g h =
    let long : place + record_bytes - place ≡ record_bytes = omega arith in
    laid-bind (laid_is (ap₂ (λ (n i : ℕ). take n (drop i store)) long e) g) (laid_is (ap time_bytes_of f) h)

-- ---- the sheet that it is

-- entry blk of what is made of each number below n, or what stands for none
get_or-made : {A : Type 0} (f : ℕ → A) (i n k : ℕ) (d : A) → get_or (map f (from i n)) k d ≡ pick (ltb k n) (f (i + k)) d
unfolding from
get_or-made f i zero k d = rw (le-ltb k 0 (omega arith))
get_or-made f i (suc n) zero d = rw (lt-ltb 0 (suc n) (omega arith)) (ap f (omega arith))
get_or-made f i (suc n) (suc k) d =
    let e : suc i + k ≡ i + suc k = omega arith in
    get_or-made f (suc i) n k d ∙ rw e (ap (λ (t : Bool). pick t (f (i + suc k)) d) (same-ltb k n))
  where
    same-ltb : (k n : ℕ) → ltb k n ≡ ltb (suc k) (suc n)
    same-ltb k n = by_order n k (λ h. le-ltb k n h ∙ sym (le-ltb (suc k) (suc n) (omega arith))) (λ h. lt-ltb k n h ∙ sym (lt-ltb (suc k) (suc n) (omega arith)))

-- a part of what stands in front
pub part-front : {A : Type 0} (k m n : ℕ) (l : List A) → k + m ≤ n → take m (drop k (take n l)) ≡ take m (drop k l)
part-front zero m n l h = take-take m n l (omega arith)
part-front (suc k) m zero l h = absurd (omega arith)
part-front (suc k) m (suc n) [] h = refl
part-front (suc k) m (suc n) (x ∷ l) h = part-front k m n l (omega arith)

module _ (p : Page) (store : List ℕ) where
  abbrev change : ℕ → Change
  change = change_in p.objects p.timing.updates store

  update_is : (blk : ℕ) → update_bytes (get_or (map change (from 0 p.timing.blocks)) blk no_change) ≡ update_of p blk
  update_is blk =
      let z : 0 + blk ≡ blk = omega arith in
      ap update_bytes (get_or-made change 0 p.timing.blocks blk no_change) ∙ rw z (go (ltb blk p.timing.blocks))
    where
      go : (t : Bool) → update_bytes (pick t (change blk) no_change)
          ≡ least_first 2 (pick t (get_or p.timing.updates blk no_update) no_update).start.0 ++ least_first 2 (pick t (get_or p.timing.updates blk no_update) no_update).ramp.0
      go true = refl
      go false = refl

  pub line_is : line_bytes (sheet_in p store) ≡ line_of p
  unfolding line_bytes line_of
  line_is =
      let many : length (map change (from 0 p.timing.blocks)) ≡ p.timing.blocks = length-map (from 0 p.timing.blocks) change ∙ length_from 0 p.timing.blocks in
      ap₂ (λ (n : ℕ) (l : List ℕ). least_first 4 p.frame ++ ((p.refusal ∷ p.objects ∷ n ∷ 0 ∷ []) ++ l)) many
      (texts-agree _ (update_of p) 0 most_blocks (λ blk i h. update_is blk))

  -- the row of object j, of the rows of all updates
  row_is_lem : (j blk : ℕ) → j < p.objects → row_of (change blk).rows j ≡ take record_bytes (drop (rows_bytes p.objects * blk + record_bytes * j) store)
  row_is_lem j blk h =
      part-front (record_bytes * j) record_bytes (rows_bytes p.objects) (drop (rows_bytes p.objects * blk) store) (omega arith)
      ∙ ap (take record_bytes) (drop-drop (record_bytes * j) (rows_bytes p.objects * blk) store)

  pub records-are : records_bytes (sheet_in p store) ≡ records_of p store
  unfolding records_bytes records_of object_of
  records-are =
      texts-agree _ (object_of p store) 0 p.objects
      (λ j g h. texts-map _ change 0 p.timing.blocks
      ∙ texts-agree _ (record_in p store j) 0 p.timing.blocks
      (λ blk i k. ap (λ (l : List ℕ). l ++ time_bytes_of (p.frame * frame_samples + (get_or p.timing.updates blk no_update).start.0)) (row_is_lem j blk (omega arith))))

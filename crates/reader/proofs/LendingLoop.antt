-- Records laid into a lent buffer, each with its time. Assumes nothing.
use mathlib.Core.Path.{◌≡◌, refl, sym, ap, ap₂, ◌∙◌}
use mathlib.Core.List.{List, [], ◌∷◌, ◌++◌, append_assoc, append-nil}
use Prim.Native.Nat.{ℕ, suc, ◌+◌, ◌*◌, ◌%◌, ◌≤◌, ◌<◌}
use native.Mathlib.Omega.{arith}
use native.Mathlib.Nat.{add_assoc, zero-mod, mod-lt}
use lib.Dec.{ltb}
use lib.ListN.{length, get_or, take, drop, length-append, drop_of_length-le}
use lib.Seq.{drop_at, take_at}
use Rattle.bits.specs.Language.{pick}
use Rattle.oamd.specs.declared.Timing.{Timing}
use Rattle.oamd.specs.Tables.{most_objects, record_bytes, time_bytes, record_stride, frame_samples}
use Rattle.oamd.specs.LeastFirst.{least_first}
use Rattle.oamd.specs.Timing.{no_update}
use Rattle.oamd.specs.Record.{Record, record_bytes_of, bytes_of, onto}
use Rattle.oamd.specs.Time.{block_time, time_of, time_bytes_of, timed_bytes_of}
use Rattle.oamd.specs.Lengths.{length_record, length-bytes, length-timed}
use Rattle.record.specs.Bytes.{set_from, bytes_at}
use Rattle.record.specs.Stored.{seam, length-set_from}
use Rattle.record.specs.Entries.{from_first, bytes-are}
use Rattle.record.specs.Laws.{next-block}
use Rattle.record.specs.Numbers.{Number}
use Rattle.record.proofs.Times.{as_bytes}
use Rattle.reader.specs.Lending.{Lent}
use Rattle.reader.proofs.Bytes.{around}

-- ---- one record, by words of eight bytes

pub copied : {s out₁ out₂ out₃ : List ℕ} {v₁ v₂ v₃ : ℕ} (from at : ℕ) (out : List ℕ) → Number 8 s from v₁ → out₁ ≡ set_from at 0 (least_first 8 v₁) out
    → Number 8 s (from + 8) v₂ → out₂ ≡ set_from (at + 8) 0 (least_first 8 v₂) out₁
    → Number 8 s (from + 16) v₃ → out₃ ≡ set_from (at + 16) 0 (least_first 8 v₃) out₂ → out₃ ≡ set_from at 0 (bytes_at s record_bytes from) out
unfolding bytes_at
copied from at out n₁ e₁ n₂ e₂ n₃ e₃ = rw (e₃, e₂, e₁, as_bytes n₁, as_bytes n₂, as_bytes n₃) (simp add_assoc)

-- ---- all records

-- one more record behind those that have their times
timed_more : (time : ℕ → ℕ) (i : ℕ) (us : List Record) (r : Record)
    → timed_bytes_of time i (us ++ (r ∷ [])) ≡ timed_bytes_of time i us ++ (record_bytes_of r ++ time_bytes_of (time (i + length us)))
unfolding timed_bytes_of
timed_more time i [] r = append-nil (record_bytes_of r ++ time_bytes_of (time i)) ∙ ap (λ (n : ℕ). record_bytes_of r ++ time_bytes_of (time n)) (let e : i ≡ i + 0 = omega arith in e)
timed_more time i (u ∷ us) r =
    let one : List ℕ = record_bytes_of u ++ time_bytes_of (time i) in
    let e : suc i + length us ≡ i + suc (length us) = omega arith in
    ap (λ (l : List ℕ). one ++ l) (timed_more time (suc i) us r ∙ ap (λ (n : ℕ). timed_bytes_of time (suc i) us ++ (record_bytes_of r ++ time_bytes_of (time n))) e)
    ∙ sym (append_assoc one (timed_bytes_of time (suc i) us) (record_bytes_of r ++ time_bytes_of (time (i + suc (length us)))))

length-time : (time : ℕ) → length (time_bytes_of time) ≡ time_bytes
unfolding least_first
length-time time = refl

-- the records that are laid, and those that are left
pub record Laid-so-far (time : ℕ → ℕ) (i : ℕ) (rs : List Record) (out₀ out : List ℕ) : Type 0 where
  pub done : List Record
  pub left : List Record
  pub all : rs ≡ done ++ left
  pub far : length done ≡ i
  pub stand : out ≡ onto (timed_bytes_of time 0 done) out₀

-- the bytes of a record in the scratch
bytes_there : (done left : List Record) (r : Record) (t : List ℕ) (from : ℕ) → from ≡ record_bytes * length done
    → from + record_bytes ≤ length (onto (bytes_of (done ++ (r ∷ left))) t) → bytes_at (onto (bytes_of (done ++ (r ∷ left))) t) record_bytes from ≡ record_bytes_of r
bytes_there done left r t from e h =
    let s : List ℕ = onto (bytes_of (done ++ (r ∷ left))) t in
    let tail : List ℕ = bytes_of left ++ drop (record_bytes * (length done + suc (length left))) t in
    bytes-are s record_bytes from h
    ∙ ap (λ (l : List ℕ). take record_bytes (drop from l)) (around done left r t)
    ∙ ap (take record_bytes) (drop_at (bytes_of done) (record_bytes_of r ++ tail) from (omega (arith, length-bytes done)))
    ∙ take_at (record_bytes_of r) tail record_bytes (length_record r)

module _ (count frame : ℕ) (timing : Timing) (scratch out₀ : List ℕ) where
  -- before record i
  pub record Going (blk i : ℕ) (out : List ℕ) : Type 0 where
    pub within : i ≤ count
    pub block : 0 < timing.blocks → blk ≡ i % timing.blocks
    pub same : length out ≡ length out₀
    pub stands : (rs : List Record) (t : List ℕ) → length rs ≡ count → scratch ≡ onto (bytes_of rs) t → Laid-so-far (time_of frame timing) i rs out₀ out

module _ {count frame : ℕ} {timing : Timing} {scratch out₀ : List ℕ} where
  pub set_out : Going count frame timing scratch out₀ 0 0 out₀
  unfolding timed_bytes_of onto
  set_out = record {
    within = omega arith;
    block = λ some. sym (zero-mod timing.blocks);
    same = refl;
    stands = λ rs t long stand. record { done = []; left = rs; all = refl; far = refl; stand = sym (from_first out₀) };
  }

  -- its block is one of the timing
  pub block_there : {blk i : ℕ} {out : List ℕ} → Going count frame timing scratch out₀ blk i out → i < count → count ≤ most_objects * timing.blocks
      → blk < timing.blocks
  block_there {i = i} x h few = let some : 0 < timing.blocks = omega arith in omega (arith, x.block some, mod-lt i some)

  pub go_on_lem : {blk i next time : ℕ} {out out₁ out₂ : List ℕ} → Going count frame timing scratch out₀ blk i out → i < count → count ≤ most_objects * timing.blocks
      → record_bytes * count ≤ length scratch → record_stride * count ≤ length out₀
      → out₁ ≡ set_from (record_stride * i) 0 (bytes_at scratch record_bytes (record_bytes * i)) out → time ≡ frame * frame_samples + (get_or timing.updates blk no_update).start.0 → out₂ ≡ set_from (record_stride * i) record_bytes (time_bytes_of time) out₁
      → next ≡ pick (ltb (blk + 1) timing.blocks) (blk + 1) 0 → Going count frame timing scratch out₀ next (i + 1) out₂
  unfolding block_time
  go_on_lem {blk} {i} {next} {time} {out} {out₁} {out₂} x h few room fits first e second n =
      let some : 0 < timing.blocks = omega arith in
      let b = x.block some in
      record {
        within = omega arith;
        block = λ z. n ∙ next-block i timing.blocks blk some b ∙ ap (λ (k : ℕ). k % timing.blocks) (let s : suc i ≡ i + 1 = omega arith in s);
        same = ap length second ∙ length-set_from (record_stride * i) record_bytes (time_bytes_of time) out₁ ∙ ap length first
            ∙ length-set_from (record_stride * i) 0 (bytes_at scratch record_bytes (record_bytes * i)) out ∙ x.same;
        stands = λ rs t long stand. more rs t stand (x.stands rs t long stand) long b _ refl;
      }
    where
      more : (rs : List Record) (t : List ℕ) → scratch ≡ onto (bytes_of rs) t → (y : Laid-so-far (time_of frame timing) i rs out₀ out) → length rs ≡ count
          → blk ≡ i % timing.blocks → (left : List Record) → y.left ≡ left → Laid-so-far (time_of frame timing) (i + 1) rs out₀ out₂
      more rs t stand y long b [] none =
          let z : length rs ≡ i = ap length (y.all ∙ ap (λ (l : List Record). y.done ++ l) none ∙ append-nil y.done) ∙ y.far in
          absurd (omega arith)
      more rs t stand y long b (r ∷ left) some =
          let from : ℕ = record_bytes * i in
          let at : ℕ = record_stride * i in
          let f : ℕ → ℕ = time_of frame timing in
          let front : List ℕ = timed_bytes_of f 0 y.done in
          let whole : rs ≡ y.done ++ (r ∷ left) = y.all ∙ ap (λ (l : List Record). y.done ++ l) some in
          let stood : scratch ≡ onto (bytes_of (y.done ++ (r ∷ left))) t = stand ∙ ap (λ (l : List Record). onto (bytes_of l) t) whole in
          let there : bytes_at scratch record_bytes from ≡ record_bytes_of r =
          ap (λ (l : List ℕ). bytes_at l record_bytes from) stood
          ∙ bytes_there y.done left r t from (omega (arith, y.far)) (omega (arith, ap length (sym stood))) in
          let when : time ≡ f (0 + length y.done) =
          e ∙ ap (block_time frame timing) (b ∙ ap (λ (k : ℕ). k % timing.blocks) (let s : i ≡ 0 + length y.done = omega (arith, y.far) in s)) in
          let far : length front ≡ record_stride * i = length-timed f 0 y.done ∙ ap (λ (k : ℕ). record_stride * k) y.far in
          let bytes : List ℕ = record_bytes_of r in
          let one : out₁ ≡ onto (front ++ bytes) out₀ =
          first ∙ ap₂ (λ (xs o : List ℕ). set_from at 0 xs o) there y.stand
          ∙ seam bytes front out₀ at 0 (omega (arith, far)) (omega (arith, length_record r)) in
          let two : out₂ ≡ onto ((front ++ bytes) ++ time_bytes_of time) out₀ =
          second ∙ ap (set_from at record_bytes (time_bytes_of time)) one
          ∙ seam (time_bytes_of time) (front ++ bytes) out₀ at record_bytes (omega (arith, far, length_record r, length-append front bytes))
          (omega (arith, length-time time)) in
          record {
            done = y.done ++ (r ∷ []);
            left = left;
            all = whole ∙ sym (append_assoc y.done (r ∷ []) left);
            far = length-append y.done (r ∷ []) ∙ omega (arith, y.far);
            stand = two ∙ ap (λ (l : List ℕ). onto l out₀)
                (append_assoc front bytes (time_bytes_of time) ∙ ap (λ (k : ℕ). front ++ (bytes ++ time_bytes_of k)) when ∙ sym (timed_more f 0 y.done r));
          }

  pub arrive : {blk i : ℕ} {out : List ℕ} → Going count frame timing scratch out₀ blk i out → count ≤ i → Lent count frame timing scratch out₀ out
  arrive {i = i} x h = record {
    same = x.same;
    front = λ rs t long stand.
        let y = x.stands rs t long stand in
        let none : length y.left ≤ 0 = omega (arith, ap length y.all ∙ length-append y.done y.left, x.within, y.far) in
        y.stand ∙ ap (λ (l : List Record). onto (timed_bytes_of (time_of frame timing) 0 l) out₀)
        (sym (y.all ∙ ap (λ (l : List Record). y.done ++ l) (drop_of_length-le y.left {i = 0} none) ∙ append-nil y.done));
  }

-- A record's bytes give the record again, and what is made of bytes has these bytes: of one record, and of many.
use Rattle.std.specs.Prelude.{◌≡◌, refl, Bool, true, false, List, [], ◌∷◌, ◌++◌, ℕ, zero, suc, ◌+◌, ◌*◌, ◌%◌, ◌≤◌, ◌<◌, ltb, length, get_or, take, drop}
use Rattle.std.proofs.Common.{sym, ap, ap₂, ◌∙◌, append_assoc, arith, add_assoc, mod-lt, mod-eq_of_lt, ltb-true, ltb-false, take-append-drop, get_or-drop, drop_at, length-take-le}
use Rattle.std.proofs.Math.Nat.{mod_self, mod-add-mod}
use Rattle.bits.specs.Language.{pick}
use Rattle.oamd.specs.Tables.{record_bytes, time_bytes, record_stride}
use Rattle.oamd.specs.declared.Divergence.{Divergence}
use Rattle.oamd.specs.declared.Precise.{Precise}
use Rattle.oamd.specs.Record.{Record, record_of, divergence_bytes, precise_bytes, record_bytes_of, bytes_of, onto}
use Rattle.oamd.specs.LeastFirst.{least_first}
use Rattle.oamd.specs.Time.{time_bytes_of, timed_bytes_of}
use Rattle.oamd.specs.Lengths.{length_record}
use Rattle.record.specs.Bytes.{divergence_byte, precise_byte, set_from, bytes_at, scene_at, divergence_at, precise_at, record_at, time_at, records_at}
use Rattle.record.specs.Stored.{seam}
use Rattle.record.specs.Entries.{from_first, bytes-are, joined, count, entries-bytes, entries-again}

pub record-bytes : (s : List ℕ) (at : ℕ) → at + record_bytes ≤ length s → record_bytes_of (record_at s at) ≡ take record_bytes (drop at s)
unfolding record_bytes_of scene_at divergence_at precise_at bytes_at
record-bytes s at h = simp add_assoc at (bytes-are s record_bytes at h)

pub record-shifted : (s : List ℕ) (a at : ℕ) → record_at s (a + at) ≡ record_at (drop a s) at
unfolding scene_at divergence_at precise_at
record-shifted s a at = simp (get_or-drop, add_assoc)

pub record-again : (r : Record) (tail : List ℕ) → record_at (record_bytes_of r ++ tail) 0 ≡ r
unfolding record_bytes_of scene_at divergence_at precise_at
record-again r tail = refl

behind_record : (r : Record) (tail : List ℕ) → drop record_bytes (record_bytes_of r ++ tail) ≡ tail
unfolding record_bytes_of
behind_record r tail = from_first tail

-- a record with its time
abbrev timed_bytes : (ℕ → ℕ) → ℕ → Record → List ℕ
timed_bytes time i r = record_bytes_of r ++ time_bytes_of (time i)

timed-bytes : (s : List ℕ) (at : ℕ) → at + record_stride ≤ length s → record_bytes_of (record_at s at) ++ time_at s at ≡ take record_stride (drop at s)
timed-bytes s at h = joined s at record_bytes time_bytes _ _ (record-bytes s at (omega arith)) (bytes-are s time_bytes (at + record_bytes) (omega arith))

timed-again : (time : ℕ → ℕ) (i : ℕ) (r : Record) (tail : List ℕ) → record_at (timed_bytes time i r ++ tail) 0 ≡ r
timed-again time i r tail = ap (λ (l : List ℕ). record_at l 0) (append_assoc (record_bytes_of r) (time_bytes_of (time i)) tail) ∙ record-again r _

behind-timed : (time : ℕ → ℕ) (i : ℕ) (r : Record) (tail : List ℕ) → drop record_stride (timed_bytes time i r ++ tail) ≡ tail
unfolding record_bytes_of least_first
behind-timed time i r tail = from_first tail

-- Records out of a lent buffer, whose times are these: their bytes are what stands there
pub records-bytes : (time : ℕ → ℕ) (s : List ℕ) (n at i : ℕ) → ((k : ℕ) → k < n → time_at s (at + record_stride * k) ≡ time_bytes_of (time (i + k)))
    → at + record_stride * n ≤ length s → timed_bytes_of time i (records_at s n at) ≡ take (record_stride * n) (drop at s)
unfolding timed_bytes_of records_at
records-bytes time s n at i times =
    entries-bytes record_stride record_at records_at (λ s at. refl) (λ s n at. refl) (timed_bytes time) (timed_bytes_of time) (λ i. refl) (λ i x xs. refl) s n at i
    (λ k l h.
    ap (λ (t : List ℕ). record_bytes_of (record_at s (at + record_stride * k)) ++ t) (sym (times k l)) ∙ timed-bytes s (at + record_stride * k) h)

pub records-count : (s : List ℕ) (n at : ℕ) → length (records_at s n at) ≡ n
unfolding records_at
records-count = count record_stride record_at records_at (λ s at. refl) (λ s n at. refl)

pub records-again : (time : ℕ → ℕ) (i : ℕ) (rs : List Record) (tail : List ℕ) → records_at (timed_bytes_of time i rs ++ tail) (length rs) 0 ≡ rs
unfolding timed_bytes_of records_at
records-again time =
    entries-again record_stride record_at records_at (λ s at. refl) (λ s n at. refl) (timed_bytes time) (timed_bytes_of time) (λ i. refl) (λ i x xs. refl)
    record-shifted (timed-again time) (behind-timed time)

bytes_shifted : (s : List ℕ) (n a at : ℕ) → bytes_at s n (a + at) ≡ bytes_at (drop a s) n at
unfolding bytes_at
bytes_shifted s zero a at = refl
bytes_shifted s (suc n) a at =
    ap₂ (λ (x : ℕ) (xs : List ℕ). x ∷ xs) (sym (get_or-drop a s at 0)) (ap (bytes_at s n) (let e : a + at + 1 ≡ a + (at + 1) = omega arith in e) ∙ bytes_shifted s n a (at + 1))

time-again : (time : ℕ → ℕ) (i : ℕ) (r : Record) (tail : List ℕ) → time_at (timed_bytes time i r ++ tail) 0 ≡ time_bytes_of (time i)
unfolding record_bytes_of bytes_at least_first
time-again time i r tail = refl

-- the time of record m of those that stand at the front
pub time-of : (time : ℕ → ℕ) (i : ℕ) (rs : List Record) (tail : List ℕ) (m : ℕ) → m < length rs
    → time_at (timed_bytes_of time i rs ++ tail) (record_stride * m) ≡ time_bytes_of (time (i + m))
unfolding timed_bytes_of
time-of time i [] tail m h = absurd (omega arith)
time-of time i (r ∷ rs) tail zero h =
    ap (λ (l : List ℕ). time_at l 0) (append_assoc (timed_bytes time i r) (timed_bytes_of time (suc i) rs) tail) ∙ time-again time i r (timed_bytes_of time (suc i) rs ++ tail)
    ∙ ap (λ (k : ℕ). time_bytes_of (time k)) (let e : i ≡ i + 0 = omega arith in e)
time-of time i (r ∷ rs) tail (suc m) h =
    let behind : List ℕ = timed_bytes_of time (suc i) rs ++ tail in
    let s : List ℕ = timed_bytes time i r ++ behind in
    let q : record_stride * suc m + record_bytes ≡ record_stride + (record_stride * m + record_bytes) = omega arith in
    ap (λ (l : List ℕ). time_at l (record_stride * suc m)) (append_assoc (timed_bytes time i r) (timed_bytes_of time (suc i) rs) tail) ∙ ap (bytes_at s time_bytes) q
    ∙ bytes_shifted s time_bytes record_stride (record_stride * m + record_bytes) ∙ ap (λ (l : List ℕ). time_at l (record_stride * m)) (behind-timed time i r behind)
    ∙ time-of time (suc i) rs tail m (omega arith) ∙ ap (λ (k : ℕ). time_bytes_of (time k)) (let e : suc i + m ≡ i + suc m = omega arith in e)

-- the block of record i, counted on
pub next-block : (i blocks blk : ℕ) → 0 < blocks → blk ≡ i % blocks → pick (ltb (blk + 1) blocks) (blk + 1) 0 ≡ suc i % blocks
next-block i blocks blk some e =
    let within : blk < blocks = (let l = mod-lt i some in omega arith) in
    let on : suc i % blocks ≡ (blk + 1) % blocks =
    ap (λ (n : ℕ). n % blocks) (let s : suc i ≡ i + 1 = omega arith in s) ∙ sym (mod-add-mod i blocks 1) ∙ ap (λ (n : ℕ). (n + 1) % blocks) (sym e) in
    go (ltb (blk + 1) blocks) refl ∙ sym on
  where
    go : (t : Bool) → ltb (blk + 1) blocks ≡ t → pick t (blk + 1) 0 ≡ (blk + 1) % blocks
    go true t = sym (mod-eq_of_lt (ltb-true (blk + 1) blocks t))
    go false t =
        let l = mod-lt i some in
        let last : blk + 1 ≡ blocks = (let z = ltb-false (blk + 1) blocks t in omega arith) in
        rw last (sym (mod_self blocks))

-- ---- among other bytes

-- the record whose bytes stand behind some others
pub record-among : (front : List ℕ) (r : Record) (tail : List ℕ) (at : ℕ) → at ≡ length front → record_at (front ++ (record_bytes_of r ++ tail)) at ≡ r
record-among front r tail at e =
    let s : List ℕ = front ++ (record_bytes_of r ++ tail) in
    let q : at ≡ length front + 0 = omega arith in
    ap (record_at s) q ∙ record-shifted s (length front) 0 ∙ ap (λ (l : List ℕ). record_at l 0) (drop_at front (record_bytes_of r ++ tail) (length front) refl)
    ∙ record-again r tail

-- record m of those whose bytes stand at the front
pub record_of_lem : (rs : List Record) (tail : List ℕ) (m : ℕ) (none : Record) → m < length rs → record_at (bytes_of rs ++ tail) (record_bytes * m) ≡ get_or rs m none
unfolding bytes_of
record_of_lem [] tail m none h = absurd (omega arith)
record_of_lem (r ∷ rs) tail zero none h = ap (λ (l : List ℕ). record_at l 0) (append_assoc (record_bytes_of r) (bytes_of rs) tail) ∙ record-again r (bytes_of rs ++ tail)
record_of_lem (r ∷ rs) tail (suc m) none h =
    let s : List ℕ = record_bytes_of r ++ (bytes_of rs ++ tail) in
    let q : record_bytes * suc m ≡ record_bytes + record_bytes * m = omega arith in
    ap₂ record_at (append_assoc (record_bytes_of r) (bytes_of rs) tail) q ∙ record-shifted s record_bytes (record_bytes * m)
    ∙ ap (λ (l : List ℕ). record_at l (record_bytes * m)) (behind_record r (bytes_of rs ++ tail)) ∙ record_of_lem rs tail m none (omega arith)

-- ---- stored

-- a record that was stored is taken out again
pub stored-again : (r : Record) (s : List ℕ) (at : ℕ) → at + record_bytes ≤ length s → record_at (set_from at 0 (record_bytes_of r) s) at ≡ r
unfolding onto
stored-again r s at h =
    let front : List ℕ = take at s in
    let long : length front ≡ at = length-take-le at s (omega arith) in
    let parts : front ++ drop (length front) s ≡ s = ap (λ (n : ℕ). front ++ drop n s) long ∙ take-append-drop at s in
    let tail : List ℕ = drop (length (front ++ record_bytes_of r)) s in
    let stored : set_from at 0 (record_bytes_of r) s ≡ front ++ (record_bytes_of r ++ tail) =
    ap (set_from at 0 (record_bytes_of r)) (sym parts) ∙ seam (record_bytes_of r) front s at 0 (omega arith) (omega (arith, length_record r))
    ∙ append_assoc front (record_bytes_of r) tail in
    ap (λ (l : List ℕ). record_at l at) stored ∙ record-among front r tail at (sym long)

-- and a part stored over what stands makes another record of it
pub divergence-stored : (r : Record) (d : Divergence) (tail : List ℕ)
    → set_from 0 divergence_byte (divergence_bytes d) (record_bytes_of r ++ tail) ≡ record_bytes_of (record_of r.scene d r.precise) ++ tail
unfolding record_bytes_of
divergence-stored r d tail = refl

pub precise-stored : (r : Record) (p : Precise) (tail : List ℕ)
    → set_from 0 precise_byte (precise_bytes p) (record_bytes_of r ++ tail) ≡ record_bytes_of (record_of r.scene r.divergence p) ++ tail
unfolding record_bytes_of
precise-stored r p tail = refl

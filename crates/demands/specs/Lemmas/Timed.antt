-- Records with their times behind them, byte by byte.
use Rattle.std.specs.Prelude.{◌≡◌, refl, ℕ, zero, suc, ◌+◌, ◌-◌, ◌*◌, ◌%◌, ◌<◌, length, get_or}
use Rattle.std.proofs.Common.{sym, ap, ◌∙◌, arith, length-append, get_or-append-add}
use mathlib.Core.List.{List, [], ◌∷◌, ◌++◌, append_assoc}
use Rattle.std.proofs.Math.ListN.{get_or-append}
use Rattle.bits.specs.Steps.{by_order}
use Rattle.oamd.specs.Tables.{record_bytes, time_bytes, record_stride}
use Rattle.oamd.specs.Record.{Record, record_bytes_of}
use Rattle.oamd.specs.LeastFirst.{least_first}
use Rattle.oamd.specs.Time.{time_bytes_of, timed_bytes_of}
use Rattle.oamd.specs.Lengths.{length_record}

pub time_long : (v : ℕ) → length (time_bytes_of v) ≡ time_bytes
unfolding least_first
time_long v = refl

-- one record and its time
abbrev one : Record → ℕ → List ℕ
one r v = record_bytes_of r ++ time_bytes_of v

one_long : (r : Record) (v : ℕ) → length (one r v) ≡ record_stride
one_long r v = omega (arith, length-append (record_bytes_of r) (time_bytes_of v), length_record r, time_long v)

-- these bytes, cut around the time of record k
pub record Parted (v k : ℕ) (bytes : List ℕ) : Type 0 where
  pub before : List ℕ
  pub behind : List ℕ
  pub long : length before ≡ record_stride * k + record_bytes
  pub is : bytes ≡ before ++ (time_bytes_of v ++ behind)

pub parted : (time : ℕ → ℕ) (i : ℕ) (rs : List Record) (tail : List ℕ) (k : ℕ) → k < length rs → Parted (time (i + k)) k (timed_bytes_of time i rs ++ tail)
unfolding timed_bytes_of
parted time i [] tail k h = absurd (omega arith)
parted time i (r ∷ rs) tail zero h =
    let rest : List ℕ = timed_bytes_of time (suc i) rs in
    let e : i ≡ i + 0 = omega arith in
    record {
      before = record_bytes_of r;
      behind = rest ++ tail;
      long = length_record r;
      is = append_assoc (one r (time i)) rest tail ∙ append_assoc (record_bytes_of r) (time_bytes_of (time i)) (rest ++ tail)
          ∙ ap (λ (j : ℕ). record_bytes_of r ++ (time_bytes_of (time j) ++ (rest ++ tail))) e;
    }
parted time i (r ∷ rs) tail (suc k) h =
    let rest : List ℕ = timed_bytes_of time (suc i) rs in
    let x = parted time (suc i) rs tail k (omega arith) in
    let e : suc i + k ≡ i + suc k = omega arith in
    record {
      before = one r (time i) ++ x.before;
      behind = x.behind;
      long = omega (arith, length-append (one r (time i)) x.before, one_long r (time i), x.long);
      is = append_assoc (one r (time i)) rest tail ∙ ap (λ (l : List ℕ). one r (time i) ++ l) x.is
          ∙ sym (append_assoc (one r (time i)) x.before (time_bytes_of (time (suc i + k)) ++ x.behind))
          ∙ ap (λ (j : ℕ). (one r (time i) ++ x.before) ++ (time_bytes_of (time j) ++ x.behind)) e;
    }

-- ---- byte by byte: those of the first record and its time, and those behind them

module _ (time : ℕ → ℕ) (i : ℕ) (r : Record) (rs : List Record) (tail : List ℕ) where
  cut : timed_bytes_of time i (r ∷ rs) ++ tail ≡ one r (time i) ++ (timed_bytes_of time (suc i) rs ++ tail)
  unfolding timed_bytes_of
  cut = append_assoc (one r (time i)) (timed_bytes_of time (suc i) rs) tail

  first : (n : ℕ) → n < record_stride → get_or (timed_bytes_of time i (r ∷ rs) ++ tail) n 0 ≡ get_or (one r (time i)) n 0
  first n l = ap (λ (x : List ℕ). get_or x n 0) cut ∙ get_or-append (one r (time i)) _ 0 n (omega (arith, one_long r (time i)))

  later : (n : ℕ) → get_or (timed_bytes_of time i (r ∷ rs) ++ tail) (record_stride + n) 0 ≡ get_or (timed_bytes_of time (suc i) rs ++ tail) n 0
  later n =
      let e : record_stride + n ≡ length (one r (time i)) + n = omega (arith, one_long r (time i)) in
      ap (λ (x : List ℕ). get_or x (record_stride + n) 0) cut ∙ ap (λ (k : ℕ). get_or (one r (time i) ++ (timed_bytes_of time (suc i) rs ++ tail)) k 0) e
      ∙ get_or-append-add (one r (time i)) _ n 0

-- byte k of record m and its time
pub byte_at : (time : ℕ → ℕ) (i : ℕ) (rs : List Record) (tail : List ℕ) (m k : ℕ) (none : Record) → m < length rs → k < record_stride
    → get_or (timed_bytes_of time i rs ++ tail) (record_stride * m + k) 0 ≡ get_or (record_bytes_of (get_or rs m none) ++ time_bytes_of (time (i + m))) k 0
byte_at time i [] tail m k none l h = absurd (omega arith)
byte_at time i (r ∷ rs) tail zero k none l h =
    let e : record_stride * 0 + k ≡ k = omega arith in
    let d : i + 0 ≡ i = omega arith in
    rw (e, d) (first time i r rs tail k h)
byte_at time i (r ∷ rs) tail (suc m) k none l h =
    let e : record_stride * suc m + k ≡ record_stride + (record_stride * m + k) = omega arith in
    let d : i + suc m ≡ suc i + m = omega arith in
    rw (e, d) (later time i r rs tail (record_stride * m + k) ∙ byte_at time (suc i) rs tail m k none (omega arith) h)

-- a byte of a record that is none of its time is the same with all times
pub other-bytes : (f g : ℕ → ℕ) (i : ℕ) (rs : List Record) (tail : List ℕ) (n : ℕ) → n % record_stride < record_bytes
    → get_or (timed_bytes_of g i rs ++ tail) n 0 ≡ get_or (timed_bytes_of f i rs ++ tail) n 0
unfolding timed_bytes_of
other-bytes f g i [] tail n h = refl
other-bytes f g i (r ∷ rs) tail n h = by_order record_stride n
    (λ l.
    let e : n ≡ record_stride + (n - record_stride) = omega arith in
    rw e (later g i r rs tail (n - record_stride) ∙ other-bytes f g (suc i) rs tail (n - record_stride) (omega arith)
    ∙ sym (later f i r rs tail (n - record_stride))))
    (λ l. own g l ∙ sym (own f l))
  where
    own : (time : ℕ → ℕ) → n < record_stride → get_or (timed_bytes_of time i (r ∷ rs) ++ tail) n 0 ≡ get_or (record_bytes_of r) n 0
    own time l = first time i r rs tail n l ∙ get_or-append (record_bytes_of r) (time_bytes_of (time i)) 0 n (omega (arith, length_record r))

-- The first record whose time bytes are not those of its time: whether there is one, and which.
use Rattle.std.specs.Prelude.{◌≡◌, refl, true, List, [], ◌∷◌, eqb}
use Rattle.std.proofs.Common.{sym, ap₂, ◌∙◌, subst, eqb-true, eq-eqb}
use Rattle.std.proofs.lemmas.Bool.{false≢true}
use Prim.Native.Nat.{ℕ, zero, suc, ◌+◌, ◌*◌, ◌≤◌, ◌<◌}
use native.Mathlib.Omega.{arith}
use Rattle.oamd.specs.Tables.{record_stride}
use Rattle.oamd.specs.Time.{time_bytes_of}
use Rattle.record.specs.Bytes.{time_at, same_bytes, times_at}
use Rattle.form.specs.Valid.{first_mistimed}
use Rattle.form.specs.Lemmas.Tests.{halves, whole, by-test}

-- ---- bytes that are the same

pub bytes_same : (xs : List ℕ) → same_bytes xs xs ≡ true
bytes_same [] = refl
bytes_same (x ∷ xs) = whole (eqb x x) _ (eq-eqb x x refl) (bytes_same xs)

pub same_bytes_lem : (xs ys : List ℕ) → same_bytes xs ys ≡ true → xs ≡ ys
same_bytes_lem [] [] h = refl
same_bytes_lem [] (y ∷ ys) h = absurd (false≢true h)
same_bytes_lem (x ∷ xs) [] h = absurd (false≢true h)
same_bytes_lem (x ∷ xs) (y ∷ ys) h =
    let a = halves (eqb x y) _ h in
    ap₂ (λ (z : ℕ) (zs : List ℕ). z ∷ zs) (eqb-true x y a.0) (same_bytes_lem xs ys a.1)

-- ---- n records, the first of which begins at a byte, their indices counted from i

module _ (time : ℕ → ℕ) (s : List ℕ) where
  -- record k of them has the bytes of its time
  abbrev pub Right : ℕ → ℕ → ℕ → Type 0
  Right at i k = time_at s (at + record_stride * k) ≡ time_bytes_of (time (i + k))

  -- the first, and the one behind it
  first_right : (at i : ℕ) → Right at i 0 → time_at s at ≡ time_bytes_of (time i)
  first_right at i h =
      let e : at + record_stride * 0 ≡ at = omega arith in
      let f : i + 0 ≡ i = omega arith in
      rw (e, f) at h

  right_first : (at i : ℕ) → time_at s at ≡ time_bytes_of (time i) → Right at i 0
  right_first at i h =
      let e : at + record_stride * 0 ≡ at = omega arith in
      let f : i + 0 ≡ i = omega arith in
      rw (e, f) h

  next_right : (at i k : ℕ) → Right at i (suc k) → Right (at + record_stride) (suc i) k
  next_right at i k h =
      let e : at + record_stride * suc k ≡ at + record_stride + record_stride * k = omega arith in
      let f : i + suc k ≡ suc i + k = omega arith in
      rw (e, f) at h

  right_next : (at i k : ℕ) → Right (at + record_stride) (suc i) k → Right at i (suc k)
  right_next at i k h =
      let e : at + record_stride * suc k ≡ at + record_stride + record_stride * k = omega arith in
      let f : i + suc k ≡ suc i + k = omega arith in
      rw (e, f) h

  is_same : (at i : ℕ) → Right at i 0 → same_bytes (time_at s at) (time_bytes_of (time i)) ≡ true
  is_same at i h = subst (λ (x : List ℕ). same_bytes x (time_bytes_of (time i)) ≡ true) (sym (first_right at i h)) (bytes_same (time_bytes_of (time i)))

  -- it is none before the first of them,
  mistimed-ge : (n at i : ℕ) → i ≤ first_mistimed time i (times_at s n at)
  unfolding first_mistimed times_at
  mistimed-ge zero at i = omega arith
  mistimed-ge (suc n) at i =
      let l = mistimed-ge n (at + record_stride) (suc i) in
      by-test (same_bytes (time_at s at) (time_bytes_of (time i))) (λ q. rw q (omega arith)) (λ q. rw q (omega arith))

  -- all before it have the bytes of their times,
  pub before_mistimed : (n at i k : ℕ) → k < n → i + k < first_mistimed time i (times_at s n at) → Right at i k
  unfolding first_mistimed times_at
  before_mistimed zero at i k l h = absurd (omega arith)
  before_mistimed (suc n) at i zero l h =
      by-test (same_bytes (time_at s at) (time_bytes_of (time i)))
      (λ q. right_first at i (same_bytes_lem _ _ q))
      (λ q. let z : i + 0 < i = rw q at h in absurd (omega arith))
  before_mistimed (suc n) at i (suc k) l h =
      by-test (same_bytes (time_at s at) (time_bytes_of (time i)))
      (λ q.
      let z : i + suc k < first_mistimed time (suc i) (times_at s n (at + record_stride)) = rw q at h in
      right_next at i k (before_mistimed n (at + record_stride) (suc i) k (omega arith) (omega arith)))
      (λ q. let z : i + suc k < i = rw q at h in absurd (omega arith))

  -- it itself has not,
  pub at_mistimed : (n at i k : ℕ) → k < n → first_mistimed time i (times_at s n at) ≡ i + k → Right at i k → ⊥
  unfolding first_mistimed times_at
  at_mistimed zero at i k l h r = omega arith
  at_mistimed (suc n) at i zero l h r =
      let q = is_same at i r in
      let z : first_mistimed time (suc i) (times_at s n (at + record_stride)) ≡ i + 0 = rw q at h in
      let m = mistimed-ge n (at + record_stride) (suc i) in
      omega arith
  at_mistimed (suc n) at i (suc k) l h r =
      by-test (same_bytes (time_at s at) (time_bytes_of (time i)))
      (λ q.
      let z : first_mistimed time (suc i) (times_at s n (at + record_stride)) ≡ i + suc k = rw q at h in
      at_mistimed n (at + record_stride) (suc i) k (omega arith) (omega arith) (next_right at i k r))
      (λ q. let z : i ≡ i + suc k = rw q at h in omega arith)

  -- and there is no other
  pub mistimed_at : (n at i k : ℕ) → k < n → ((j : ℕ) → j < k → Right at i j) → (Right at i k → ⊥) → first_mistimed time i (times_at s n at) ≡ i + k
  unfolding first_mistimed times_at
  mistimed_at zero at i k l h bad = absurd (omega arith)
  mistimed_at (suc n) at i zero l h bad =
      by-test (same_bytes (time_at s at) (time_bytes_of (time i))) (λ q. absurd (bad (right_first at i (same_bytes_lem _ _ q)))) (λ q. rw q (omega arith))
  mistimed_at (suc n) at i (suc k) l h bad =
      let q = is_same at i (h 0 (omega arith)) in
      let e : suc i + k ≡ i + suc k = omega arith in
      rw q (mistimed_at n (at + record_stride) (suc i) k (omega arith) (λ j m. next_right at i j (h (suc j) (omega arith))) (λ r. bad (right_next at i k r)) ∙ e)

  -- with none, it is behind the last
  pub all_right : (n at i : ℕ) → ((j : ℕ) → j < n → Right at i j) → first_mistimed time i (times_at s n at) ≡ i + n
  unfolding first_mistimed times_at
  all_right zero at i h = omega arith
  all_right (suc n) at i h =
      let q = is_same at i (h 0 (omega arith)) in
      let e : suc i + n ≡ i + suc n = omega arith in
      rw q (all_right n (at + record_stride) (suc i) (λ j m. next_right at i j (h (suc j) (omega arith))) ∙ e)

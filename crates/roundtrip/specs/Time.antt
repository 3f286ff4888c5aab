-- Absolute time: as a number, for every frame; when a write refuses it; and that what is written does not go by it.
use Rattle.std.proofs.Math.Path.{◌≡◌, refl, sym, ap}
use Rattle.std.proofs.Common.{◌∙◌, mod-lt, mul-zero, mul-pos}
use Rattle.std.proofs.Math.Bool.{true}
use Rattle.std.specs.Prelude.{false, ◌↔◌, length, ltb}
use mathlib.Core.List.{List, [], ◌++◌}
use Prim.Native.Nat.{ℕ, zero, suc, ◌+◌, ◌*◌, ◌%◌, ◌^◌, ◌≤◌, ◌<◌}
use native.Mathlib.Omega.{arith}
use Rattle.std.proofs.Math.Dec.{leb}
use borrow.Author.Tests.{ltb-true, le-leb, lt-ltb}
use Rattle.bits.specs.declared.Refusal.TheVariants.{NotValid}
use Rattle.bits.specs.Refusals.{number_of}
use Rattle.oamd.specs.declared.Programme.{Programme}
use Rattle.oamd.specs.declared.Timing.{Timing}
use Rattle.oamd.specs.Tables.{most_bytes, record_bytes, time_bytes, record_stride}
use Rattle.oamd.specs.Programme.{has_reserved}
use Rattle.oamd.specs.LeastFirst.{least_first, least_at}
use Rattle.oamd.specs.Trim.{trim_needed}
use Rattle.oamd.specs.Time.{block_time, time_of}
use Rattle.oamd.specs.Payload.{Tables}
use Rattle.oamd.specs.Answer.{needed, reading}
use Rattle.demands.specs.Promises.{many_records, starts_at}
use Rattle.demands.specs.Numbers.{numbers}
use Rattle.demands.specs.Time.{time_when}
use Rattle.demands.specs.Lemmas.AnswerBytes.{least_at_lem}
use Rattle.form.specs.Valid.{◌and◌, first_mistimed, record_count, Valid}
use Rattle.form.specs.Form.{form}
use Rattle.record.specs.Bytes.{records_at, times_at}
use Rattle.form.specs.Answer.{Written, trim_at, tables_of, refused_to, written_to, fitted, trimmed, first_refused, judged, writing}
use Rattle.form.specs.Lemmas.Tests.{by-test}
use Rattle.roundtrip.specs.Lemmas.Times.{before_mistimed, at_mistimed, mistimed_at}
use Rattle.roundtrip.specs.WriteRead.{on-time, right_at, refused_mistimed, accepts}
use Rattle.roundtrip.specs.ReadWrite.{read-valid, read-timed, read-enough, read-trim-enough}
use Rattle.roundtrip.specs.Ranges.{read-in_range}
use Rattle.roundtrip.specs.Promises.{Mistimed}

-- ---- of a read

blocks_some : (objects blocks i : ℕ) → i < objects * blocks → 1 ≤ blocks
blocks_some objects zero i h = absurd (omega (arith, mul-zero objects))
blocks_some objects (suc n) i h = omega arith

-- With any frame number of 32 bits, bytes 24 to 31 of every record of an accepted read are a number: 1,536 samples for each frame before, and the start of its block.
pub time-number : (frame : ℕ) (s buffer trim : List ℕ) → (reading frame s buffer trim).answer.refusal ≡ 0 → frame < 2 ^ 32
    → (i : ℕ) → i < many_records (reading frame s buffer trim).answer
    → least_at time_bytes (reading frame s buffer trim).buffer (record_stride * i + record_bytes) ≡ starts_at frame (reading frame s buffer trim).answer i
time-number frame s buffer trim z small i l =
    let a = (reading frame s buffer trim).answer in
    let some = blocks_some a.programme.objects a.timing.blocks i l in
    let m = (read-in_range frame s buffer trim z).updates.starts (i % a.timing.blocks) (mod-lt i some) in
    (time_when frame s buffer trim z).number i l (omega arith)

-- ---- of a write

-- What is written does not go by the frame: of the same records, each time stamped for its frame, the same is written with any.
pub written-any-frame : (f g : ℕ) (p : Programme) (t : Timing) (s s' x out : List ℕ) → records_at s (record_count p t) 0 ≡ records_at s' (record_count p t) 0
    → (writing f p t s x out).answer.refusal ≡ 0 → (writing g p t s' x out).answer.refusal ≡ 0 → writing f p t s x out ≡ writing g p t s' x out
written-any-frame f g p t s s' x out same a b =
    let tables : tables_of p t s x ≡ tables_of p t s' x = λ i. record { programme = p; timing = t; records = same i; trim = trim_at p.objects x } in
    (accepts f p t s x out a).written ∙ ap (λ (q : Tables). written_to out (form q)) tables ∙ sym (accepts g p t s' x out b).written

module _ (frame : ℕ) (p : Programme) (t : Timing) (s x out : List ℕ) (valid : Valid (tables_of p t s x)) (enough : needed (tables_of p t s x) ≤ length s)
    (trim-enough : trim_needed p.objects ≤ length x) where
  -- all else is as it should be, and the records are looked at
  judges : writing frame p t s x out ≡ judged out (tables_of p t s x) (first_refused frame p t s) true
  unfolding writing
  judges =
      rw (
        valid.programme,
        valid.timing,
        le-leb (needed (tables_of p t s x)) (length s) enough,
        le-leb (trim_needed p.objects) (length x) trim-enough,
      ) refl

  -- a refusal with 10 behind place 0 is one of a record,
  refused_record : (i : ℕ) → writing frame p t s x out ≡ refused_to out (number_of NotValid) (1 + i) → (first_refused frame p t s ≡ i) × (i < record_count p t)
  unfolding judged trimmed fitted
  refused_record i h =
      let first : ℕ = first_refused frame p t s in
      let payload : List ℕ = form (tables_of p t s x) in
      let is : judged out (tables_of p t s x) first true ≡ refused_to out (number_of NotValid) (1 + i) = sym judges ∙ h in
      by-test (ltb first (record_count p t))
      (λ b.
      let l = ltb-true first (record_count p t) b in
      let e : 1 + first ≡ 1 + i = ap (λ (w : Written). w.answer.place) (rw b at is) in
      (omega arith, omega arith))
      (λ b. by-test (leb (length payload) (length out) and leb (length payload) most_bytes)
      (λ d. let e : ◌≡◌ {A = ℕ} 0 10 = ap (λ (w : Written). w.answer.refusal) (rw (b, valid.trim, d) at is) in absurd (omega arith))
      (λ d. let e : ◌≡◌ {A = ℕ} 11 10 = ap (λ (w : Written). w.answer.refusal) (rw (b, valid.trim, d) at is) in absurd (omega arith)))

  -- and of its time, since none is bad
  mistimed_first : first_refused frame p t s < record_count p t
      → first_mistimed (time_of frame t) 0 (times_at s (record_count p t) 0) ≡ first_refused frame p t s
  unfolding first_refused
  mistimed_first h = let good = valid.records in omega arith

  -- Where the tables are valid and there are bytes enough, a write is refused with 10 at place 1 + i exactly when record i is the first whose time bytes are not those of its
  -- time.
  pub mistimed_when : (i : ℕ) → (writing frame p t s x out ≡ refused_to out (number_of NotValid) (1 + i)) ↔ Mistimed frame p t s i
  unfolding judged
  mistimed_when i = (
    λ h.
        let r = refused_record i h in
        let late : first_mistimed (time_of frame t) 0 (times_at s (record_count p t) 0) ≡ i = mistimed_first (omega arith) ∙ r.0 in
        record {
          many = r.1;
          before = λ k l. on-time frame t s k (before_mistimed (time_of frame t) s (record_count p t) 0 0 k (omega (arith, r.1)) (omega arith));
          here = λ on. at_mistimed (time_of frame t) s (record_count p t) 0 0 i r.1 (omega arith) (right_at frame t s i on);
        },
    λ m.
        let late = mistimed_at (time_of frame t) s (record_count p t) 0 0 i m.many (λ j l. right_at frame t s j (m.before j l)) (λ r. m.here (on-time frame t s i r)) in
        let few = m.many in
        let first = refused_mistimed frame p t s i valid.records (omega arith) (omega arith) in
        judges ∙ rw (first, lt-ltb i (record_count p t) m.many) refl,
  )

-- ---- of a read, and a write with another frame

-- numbers with the same bytes
least_same : (a b : ℕ) → a < 2 ^ 64 → b < 2 ^ 64 → least_first time_bytes a ≡ least_first time_bytes b → a ≡ b
least_same a b f g e =
    sym (least_at_lem time_bytes a 0 [] [] refl f) ∙ ap (λ (l : List ℕ). least_at time_bytes (l ++ []) 0) e ∙ least_at_lem time_bytes b 0 [] [] refl g

-- Records that were read with one frame number of 32 bits, and given to a write with another: it is refused with 10 at the first of them, where there is one.
pub another-frame : (f g : ℕ) (s buffer trim out : List ℕ) (accepted : (reading f s buffer trim).answer.refusal ≡ 0)
    → has_reserved (reading f s buffer trim).answer.programme.content ≡ false → 1 ≤ (reading f s buffer trim).answer.timing.blocks
    → f < 2 ^ 32 → g < 2 ^ 32 → (f ≡ g → ⊥)
    → writing g (reading f s buffer trim).answer.programme (reading f s buffer trim).answer.timing (reading f s buffer trim).buffer
    (reading f s buffer trim).trim out ≡ refused_to out (number_of NotValid) 1
unfolding block_time
another-frame f g s buffer trim out accepted clear some small small' other =
    let a = (reading f s buffer trim).answer in
    let many : 0 < record_count a.programme a.timing = mul-pos (numbers f s buffer trim accepted).3.objects.0 some in
    let m = (read-in_range f s buffer trim accepted).updates.starts (0 % a.timing.blocks) (mod-lt 0 some) in
    (mistimed_when g a.programme a.timing (reading f s buffer trim).buffer (reading f s buffer trim).trim out (read-valid f s buffer trim accepted clear)
    (read-enough f s buffer trim accepted clear) (read-trim-enough f s buffer trim accepted clear) 0).1 (record {
      many = many;
      before = λ k l. absurd (omega arith);
      here = λ on.
          let e = least_same (time_of f a.timing 0) (time_of g a.timing 0) (omega arith) (omega arith) (sym (read-timed f s buffer trim accepted clear 0 many) ∙ on) in
          other (omega arith);
    })

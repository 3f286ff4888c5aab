-- Absolute time: what stands behind each record, and that the frame's number is seen there and nowhere else.
use Rattle.std.specs.Prelude.{◌≡◌, refl}
use Rattle.std.proofs.Math.Path.{sym, ap}
use Rattle.std.proofs.Common.{◌∙◌, subst, subst₂}
use mathlib.Core.List.{List, ◌++◌}
use Prim.Native.Nat.{ℕ, ◌+◌, ◌-◌, ◌*◌, ◌%◌, ◌≤◌, ◌<◌}
use native.Mathlib.Omega.{arith}
use Rattle.std.proofs.Math.ListN.{length, get_or, drop, length-append, get_or-append}
use Rattle.std.proofs.Math.Seq.{get_or-append-add}
use Rattle.bits.specs.Language.{ok, bit, past_payload}
use Rattle.bits.specs.Steps.{by_order}
use Rattle.oamd.specs.Tables.{record_bytes, time_bytes, record_stride}
use Rattle.oamd.specs.LeastFirst.{least_at}
use Rattle.oamd.specs.Record.{onto}
use Rattle.oamd.specs.Time.{block_time, time_of, time_bytes_of}
use Rattle.oamd.specs.Lengths.{length-timed}
use Rattle.oamd.specs.Payload.{Payload}
use Rattle.oamd.specs.Answer.{Outcome, laid_records, accepted, needed, reading}
use Rattle.demands.specs.Terms.{parsed, tables_of}
use Rattle.demands.specs.Lemmas.Reading.{Case, long, stopped, full, read, case, read_of, reading_ok, reading_no, reading_long, housed_fits, housed-lacks}
use Rattle.demands.specs.Lemmas.Records.{length-needed}
use Rattle.demands.specs.Lemmas.AnswerBytes.{least_at_lem}
use Rattle.demands.specs.Lemmas.Timed.{time_long, Parted, parted, other-bytes}
use Rattle.demands.specs.Promises.{Timed, Aside}

-- ---- the times that a read lays

accepted-timed : (frame : ℕ) (s buffer trim : List ℕ) (q : Payload) (to : ℕ) → parsed s ≡ ok q to
    → Timed frame (accepted frame buffer trim (tables_of q) q.unknown)
unfolding onto block_time
accepted-timed frame s buffer trim q to h = record {
  bytes = λ i k l m.
      let x = cut i l in
      let w = time_long (time i) in
      let n = x.long in
      let e : record_stride * i + record_bytes + k ≡ length x.before + k = omega arith in
      ap (λ (b : List ℕ). get_or b (record_stride * i + record_bytes + k) 0) x.is
      ∙ ap (λ (j : ℕ). get_or (x.before ++ (time_bytes_of (time i) ++ x.behind)) j 0) e
      ∙ get_or-append-add x.before (time_bytes_of (time i) ++ x.behind) k 0
      ∙ get_or-append (time_bytes_of (time i)) x.behind 0 k (omega arith);
  number = λ i l m.
      let x = cut i l in
      ap (λ (b : List ℕ). least_at time_bytes b (record_stride * i + record_bytes)) x.is
      ∙ least_at_lem time_bytes (time i) (record_stride * i + record_bytes) x.before x.behind x.long m;
}
  where
    time : ℕ → ℕ
    time = time_of frame (tables_of q).timing

    cut : (i : ℕ) → i < (tables_of q).programme.objects * (tables_of q).timing.blocks
        → Parted (time i) i (laid_records frame (tables_of q) ++ drop (length (laid_records frame (tables_of q))) buffer)
    cut i l =
        let long = length-needed frame (bit s) 0 (8 * length s) past_payload h in
        let each = length-timed time 0 (tables_of q).records in
        let e : 0 + i ≡ i = omega arith in
        subst (λ (j : ℕ). Parted (time j) i (laid_records frame (tables_of q) ++ drop (length (laid_records frame (tables_of q))) buffer)) e
        (parted time 0 (tables_of q).records (drop (length (laid_records frame (tables_of q))) buffer) i (omega arith))

-- Of every accepted read, bytes 24 to 31 of each record are its time: frame × 1,536 and the start of its block.
pub time_when : (frame : ℕ) (s buffer trim : List ℕ) → (reading frame s buffer trim).answer.refusal ≡ 0 → Timed frame (reading frame s buffer trim)
time_when frame s buffer trim z =
    let r = read_of frame s buffer trim z in
    subst (Timed frame) (sym r.is) (accepted-timed frame s buffer trim r.payload r.to r.ran)

-- ---- the frame, seen in the times alone

module _ (f g : ℕ) (s buffer trim : List ℕ) where
  -- with room for its records
  accepted-aside : (q : Payload) (to : ℕ) → parsed s ≡ ok q to → needed (tables_of q) ≤ length buffer
      → Aside (accepted f buffer trim (tables_of q) q.unknown) (accepted g buffer trim (tables_of q) q.unknown)
  unfolding onto
  accepted-aside q to h room =
      let t = tables_of q in
      let l = length-needed f (bit s) 0 (8 * length s) past_payload h in
      let m = length-needed g (bit s) 0 (8 * length s) past_payload h in
      let a : List ℕ = laid_records f t in
      let b : List ℕ = laid_records g t in
      let tail : List ℕ = drop (needed t) buffer in
      let a-is : a ++ drop (length a) buffer ≡ a ++ tail = ap (λ (n : ℕ). a ++ drop n buffer) l in
      let b-is : b ++ drop (length b) buffer ≡ b ++ tail = ap (λ (n : ℕ). b ++ drop n buffer) m in
      record {
        answer = refl;
        trim = refl;
        long = omega (
          arith,
          length-append a (drop (length a) buffer),
          length-append b (drop (length b) buffer),
          ap length a-is,
          ap length b-is,
          length-append a tail,
          length-append b tail,
        );
        bytes = λ n none. ap (λ (x : List ℕ). get_or x n 0) b-is ∙ by_order record_bytes (n % record_stride)
            (λ behind. by_order (needed t) n
            (λ past.
            let e : n ≡ length b + (n - needed t) = omega arith in
            let d : length a + (n - needed t) ≡ n = omega arith in
            ap (λ (k : ℕ). get_or (b ++ tail) k 0) e ∙ get_or-append-add b tail (n - needed t) 0 ∙ sym (get_or-append-add a tail (n - needed t) 0)
            ∙ ap (λ (k : ℕ). get_or (a ++ tail) k 0) d)
            (λ laid. absurd (none (record { accepted = refl; laid = laid; behind = behind }))))
            (λ own. other-bytes (time_of f t.timing) (time_of g t.timing) 0 t.records tail n own)
            ∙ ap (λ (x : List ℕ). get_or x n 0) (sym a-is);
      }

  -- Two reads of the same payload into the same buffers, with a frame each: whatever is accepted and whatever is refused, they differ in the bytes of the times at the most.
  pub frame-aside : Aside (reading f s buffer trim) (reading g s buffer trim)
  frame-aside = go (case f s buffer trim)
    where
      both : {o : Outcome} → reading f s buffer trim ≡ o → reading g s buffer trim ≡ o → Aside (reading f s buffer trim) (reading g s buffer trim)
      both e d = subst₂ Aside (sym e) (sym d) (record { answer = refl; trim = refl; long = refl; bytes = λ n none. refl })

      go : Case f s buffer trim → Aside (reading f s buffer trim) (reading g s buffer trim)
      go (long l e) = both e (reading_long g s buffer trim l)
      go (stopped r pl m l h two eight e) = both e (reading_no g s buffer trim l h)
      go (full q to pl l h x e) = both e (reading_ok g s buffer trim l h ∙ housed-lacks g buffer trim (tables_of q) q.unknown pl x)
      go (read q to l h room room' e) =
          subst₂ Aside (sym e) (sym (reading_ok g s buffer trim l h ∙ housed_fits g buffer trim (tables_of q) q.unknown room room'))
          (accepted-aside q to h room)

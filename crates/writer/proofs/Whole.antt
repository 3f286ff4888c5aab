-- The whole form: its length, its bits, and what is answered of it. Assumes nothing.
use mathlib.Core.Path.{◌≡◌, refl, sym, ap, ap₂, ◌∙◌, subst}
use mathlib.Core.Bool.{Bool, true, false}
use mathlib.Core.List.{List, ◌++◌}
use Prim.Native.Nat.{ℕ, ◌+◌, ◌-◌, ◌*◌, ◌/◌, ◌%◌, ◌≤◌, ◌<◌}
use native.Mathlib.Omega.{arith}
use borrow.Author.Tests.{le-leb, lt-leb, lt-ltb, le-ltb}
use lib.Dec.{leb}
use lib.ListN.{drop, length, replicate, length-append, length-drop, length-replicate}
use Rattle.bits.specs.declared.Refusal.TheVariants.{NotValid, NoFit}
use Rattle.bits.specs.Refusals.{number_of}
use Rattle.bits.specs.Language.{pick, as_flag}
use Rattle.bits.specs.Writes.{to_bits, only}
use Rattle.bits.specs.Lists.{length-to_bits}
use Rattle.bits.specs.Bytes.{length-to_bytes}
use Rattle.oamd.specs.declared.Programme.{Programme}
use Rattle.oamd.specs.declared.Timing.{Timing}
use Rattle.oamd.specs.declared.WriteAnswer.{WriteAnswer}
use Rattle.oamd.specs.Tables.{most_bytes, record_stride}
use Rattle.oamd.specs.Record.{onto}
use Rattle.oamd.specs.Trim.{trim_needed}
use Rattle.oamd.specs.Payload.{Tables}
use Rattle.form.specs.Form.{header_bits, object_element_bits, extended_element_bits, trim_element_bits, size_bits, size_for, framed_bits, element_bits, has_object, has_extended, has_trim, form_bits, form}
use Rattle.form.specs.Valid.{◌and◌, programme_valid, timing_valid, trim_valid, record_count}
use Rattle.form.specs.Answer.{Written, trim_at, tables_of, refused_write, refused_to, fitted, trimmed, first_refused, judged, writing}
use Rattle.laying.specs.declared.Pen.{Pen}
use Rattle.laying.specs.Laying.{Laid, blank}
use Rattle.writer.specs.Parts.{Inside, Framed, Wide, framed}
use Rattle.writer.specs.Most.{most_header, most_form, most_counted, most_records, most_object_element, most_extended_element, most_trim_element}
use Rattle.laying.proofs.Laws.{laid-bind, laid_is, laid_only}

abbrev pub gives : WriteAnswer → List ℕ → Written
gives a out = record { answer = a; out = out }

-- a refusal is answered, and the buffer is as it was
told : {r : WriteAnswer} {n place : ℕ} {w : Written} (out : List ℕ) → r ≡ refused_write n place → refused_to out n place ≡ w → gives r out ≡ w
told out e h = ap (λ (r : WriteAnswer). gives r out) e ∙ h

element-length : (id n : ℕ) (fields : List ℕ) (on : Bool) → n ≡ 1 + length fields → pick on (framed n) 0 ≡ length (only on (element_bits id fields))
unfolding element_bits framed_bits size_for
element-length id n fields false e = refl
element-length id n fields true e =
    let size : List ℕ = size_bits (size_for (1 + length fields)) in
    let pad : ℕ = 8 * (size_for (1 + length fields) + 1) - (1 + length fields) in
    let a = length-append (to_bits 4 id) (size ++ ((to_bits 1 0 ++ fields) ++ replicate pad 0)) in
    let b = length-append size ((to_bits 1 0 ++ fields) ++ replicate pad 0) in
    let c = length-append (to_bits 1 0 ++ fields) (replicate pad 0) in
    let d = length-append (to_bits 1 0) fields in
    let f = length-replicate {A = ℕ} pad 0 in
    let g = length-to_bits 4 id in
    let h = length-to_bits 1 0 in
    ap framed e ∙ omega arith

-- a sum of counts that are not long does not wrap
added : (a b r : ℕ) (n m : ℕ) → r ≡ (a + b) % 4294967296 → a ≤ n → b ≤ m → n + m < 4294967296 → (r ≡ a + b) × (r ≤ n + m)
added a b r n m e f g h = (omega arith, omega arith)

-- what stands before the elements, 4 bits for their count, and the three of them
pub all-bits : (header four first second third a b c whole : ℕ) → four ≡ 4 → a ≡ (header + four) % 4294967296 → b ≡ (a + first) % 4294967296
    → c ≡ (b + second) % 4294967296 → whole ≡ (c + third) % 4294967296 → header ≤ most_header → first ≤ most_object_element most_counted
    → second ≤ most_extended_element most_records → third ≤ most_trim_element most_counted
    → (whole ≡ header + 4 + first + second + third) × (whole ≤ most_form)
all-bits header four first second third a b c whole d e f g h i j k l =
    let u = added header four a most_header 4 e i (omega (arith, d)) (omega arith) in
    let v = added a first b (most_header + 4) _ f u.1 j (omega arith) in
    let w = added b second c _ _ g v.1 k (omega arith) in
    let x = added c third whole _ _ h w.1 l (omega arith) in
    (omega (arith, u.0, v.0, w.0, x.0), omega (arith, x.1))

module _ (t : Tables) (some there : Bool) (e : some ≡ has_extended t.records) (z : there ≡ has_trim t.trim) where
  pub form-length : {i j k l header object extended trim first second third : ℕ} → Wide l header (header_bits t.programme) → Inside i object (object_element_bits t)
      → Inside j extended (extended_element_bits t.records) → Inside k trim (trim_element_bits t.trim) → Framed (has_object t) object first
      → Framed some extended second → Framed there trim third → header + 4 + first + second + third ≡ length (form_bits t)
  unfolding form_bits
  form-length {object = object} {extended} {trim} {first} {second} {third} a b c d f g h =
      let one : List ℕ = only (has_object t) (element_bits 1 (object_element_bits t)) in
      let two : List ℕ = only (has_extended t.records) (element_bits 5 (extended_element_bits t.records)) in
      let three : List ℕ = only (has_trim t.trim) (element_bits 2 (trim_element_bits t.trim)) in
      let count : List ℕ = to_bits 4 (as_flag (has_object t) + as_flag (has_extended t.records) + as_flag (has_trim t.trim)) in
      let i : first ≡ length one = f.same ∙ element-length 1 object (object_element_bits t) (has_object t) b.same in
      let j : second ≡ length two =
      g.same ∙ ap (λ (x : Bool). pick x (framed extended) 0) e ∙ element-length 5 extended (extended_element_bits t.records) (has_extended t.records) c.same in
      let k : third ≡ length three =
      h.same ∙ ap (λ (x : Bool). pick x (framed trim) 0) z ∙ element-length 2 trim (trim_element_bits t.trim) (has_trim t.trim) d.same in
      let l = length-append (header_bits t.programme) (count ++ (one ++ (two ++ three))) in
      let m = length-append count (one ++ (two ++ three)) in
      let n = length-append one (two ++ three) in
      let o = length-append two three in
      let p = length-to_bits 4 (as_flag (has_object t) + as_flag (has_extended t.records) + as_flag (has_trim t.trim)) in
      omega (arith, a.same)

  pub form-laid : {h i j k l : ℕ} {s u v w x y : List ℕ} {at p q o n r : Pen} {one two three : ℕ} → at ≡ blank
      → one ≡ as_flag (has_object t) → two ≡ as_flag some → three ≡ as_flag there
      → Laid h s u at p (header_bits t.programme) → Laid i u v p q (to_bits 4 (one + two + three))
      → Laid j v w q o (only (has_object t) (element_bits 1 (object_element_bits t))) → Laid k w x o n (only some (element_bits 5 (extended_element_bits t.records)))
      → Laid l x y n r (only there (element_bits 2 (trim_element_bits t.trim))) → Laid (h + (i + (j + (k + l)))) s y blank r (form_bits t)
  unfolding form_bits
  form-laid {h} {i} {j} {k} {l} {s = s} {y = y} {r = r} start f g d header count object extended trim =
      let m = ap₂ (λ (x y : Bool). as_flag (has_object t) + as_flag x + as_flag y) e z in
      subst (λ (at : Pen). Laid (h + (i + (j + (k + l)))) s y at r (form_bits t)) start
      (laid-bind header
      (laid-bind (laid_is (ap (to_bits 4) (omega (arith, f, g, d, m))) count)
      (laid-bind object
      (laid-bind (laid_only (element_bits 5 (extended_element_bits t.records)) e extended) (laid_only (element_bits 2 (trim_element_bits t.trim)) z trim)))))

-- the answer, by the room
module _ (out : List ℕ) (t : Tables) (bytes : ℕ) (e : bytes ≡ (length (form_bits t) + 7) / 8) where
  form-bytes : bytes ≡ length (form t)
  unfolding form
  form-bytes = e ∙ sym (length-to_bytes (form_bits t))

  pub no_room : {r : WriteAnswer} → r ≡ refused_write (number_of NoFit) bytes → length out < bytes → gives r out ≡ fitted out (form t)
  unfolding fitted
  no_room d h = told out (d ∙ ap (refused_write (number_of NoFit)) form-bytes) (sym (rw (lt-leb (length (form t)) (length out) (let f = form-bytes in omega arith)) refl))

  pub too_long : {r : WriteAnswer} → r ≡ refused_write (number_of NoFit) bytes → bytes ≤ length out → most_bytes < bytes → gives r out ≡ fitted out (form t)
  unfolding fitted
  too_long d g h =
      told out (d ∙ ap (refused_write (number_of NoFit)) form-bytes)
      (sym (rw (le-leb (length (form t)) (length out) (let f = form-bytes in omega arith), lt-leb (length (form t)) most_bytes (let f = form-bytes in omega arith)) refl))

  pub same_size : (u : List ℕ) → bytes ≤ length out → u ≡ form t ++ drop bytes out → length u ≡ length out
  same_size u g l =
      let f = form-bytes in
      let d = length-drop bytes out in
      ap length l ∙ length-append (form t) (drop bytes out) ∙ omega arith

  pub fits : (u : List ℕ) (n : ℕ) → n ≡ bytes → bytes ≤ length out → bytes ≤ most_bytes → u ≡ form t ++ drop bytes out
      → gives (record { place = 0; length = record { 0 = n }; refusal = 0 }) u ≡ fitted out (form t)
  unfolding fitted onto
  fits u n q g h l =
      ap₂ (λ (n : ℕ) (x : List ℕ). gives (record { place = 0; length = record { 0 = n }; refusal = 0 }) x) (q ∙ form-bytes)
      (l ∙ ap (λ (k : ℕ). form t ++ drop k out) form-bytes)
      ∙ sym (rw (le-leb (length (form t)) (length out) (let f = form-bytes in omega arith), le-leb (length (form t)) most_bytes (let f = form-bytes in omega arith)) refl)

-- the answer, by the tables: the first three tests are passed
pub record Accepted (p : Programme) (t : Timing) (s : List ℕ) : Type 0 where
  pub programme : programme_valid p ≡ true
  pub timing : timing_valid t ≡ true
  pub whole : record_stride * record_count p t ≤ length s

module _ (frame : ℕ) (p : Programme) (t : Timing) (s x out : List ℕ) where
  pub bad-programme : programme_valid p ≡ false → refused_to out (number_of NotValid) 0 ≡ writing frame p t s x out
  unfolding writing
  bad-programme a = sym (rw a refl)

  pub bad-timing : programme_valid p ≡ true → timing_valid t ≡ false → refused_to out (number_of NotValid) 0 ≡ writing frame p t s x out
  unfolding writing
  bad-timing a b = sym (rw (a, b) refl)

  pub few_bytes_lem : programme_valid p ≡ true → timing_valid t ≡ true → length s < record_stride * record_count p t
      → refused_to out (number_of NotValid) 0 ≡ writing frame p t s x out
  unfolding writing
  few_bytes_lem a b c = sym (rw (a, b, lt-leb (record_stride * record_count p t) (length s) c) refl)

  module _ (a : Accepted p t s) {bad : ℕ} (d : bad ≡ first_refused frame p t s) where
    judging : judged out (tables_of p t s x) bad (leb (trim_needed p.objects) (length x)) ≡ writing frame p t s x out
    unfolding writing
    judging = sym (rw (a.programme, a.timing, le-leb (record_stride * record_count p t) (length s) a.whole, ← d) refl)

    pub bad_record : bad < record_count p t → refused_to out (number_of NotValid) (1 + bad) ≡ writing frame p t s x out
    unfolding judged
    bad_record h = sym (rw (lt-ltb bad (record_count p t) h) refl) ∙ judging

    module _ (h : record_count p t ≤ bad) where
      good-records : trimmed out (tables_of p t s x) (leb (trim_needed p.objects) (length x)) ≡ writing frame p t s x out
      unfolding judged
      good-records = sym (rw (le-ltb bad (record_count p t) h) refl) ∙ judging

      pub bad-trim : (leb (trim_needed p.objects) (length x) and trim_valid p.objects (trim_at p.objects x)) ≡ false
          → refused_to out (number_of NotValid) (1 + record_count p t) ≡ writing frame p t s x out
      unfolding trimmed
      bad-trim e = sym (rw e refl) ∙ good-records

      pub good-trim : (leb (trim_needed p.objects) (length x) and trim_valid p.objects (trim_at p.objects x)) ≡ true
          → fitted out (form (tables_of p t s x)) ≡ writing frame p t s x out
      unfolding trimmed
      good-trim e = sym (rw e refl) ∙ good-records

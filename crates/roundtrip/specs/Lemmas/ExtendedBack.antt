-- 5.5.13 to 5.5.15: the extended object element of valid records is read back as it was written.
use Rattle.std.specs.Prelude.{◌≡◌, refl, Bool, true, false, List, [], ◌∷◌, map, ℕ, suc, ◌+◌, ◌/◌, ◌≤◌, ◌<◌, length, replicate, ltb, eqb}
use Rattle.std.proofs.Common.{sym, ap, ap₂, true≢false, inl, arith, ltb-false}
use Rattle.std.proofs.lemmas.Bool.{false≢true, eqb-false}
use Rattle.bits.specs.Language.{pick, both, P, when, bits_if, as_flag}
use Rattle.bits.specs.Steps.{above-free}
use Rattle.bits.specs.Writes.{to_bits, only}
use Rattle.bits.specs.Back.{w-give, w-bits, w-bind, w_end, w_is, w_if, w_when, w-each}
use Rattle.bits.specs.Terms.{Along, Writes, Every}
use Rattle.oamd.specs.declared.Shares.{Shares}
use Rattle.oamd.specs.declared.Divergence.{Divergence}
use Rattle.oamd.specs.declared.Precise.{Precise}
use Rattle.oamd.specs.Programme.{set?, class_of}
use Rattle.oamd.specs.Reserved.{ObjectDivMode, ObjectDivCode, unreserved_if}
use Rattle.oamd.specs.Extended.{obj_div_block, ext_prec_pos_block, has_x, has_y, has_z, no_divergence, no_precise, Extension, extended_object_element}
use Rattle.oamd.specs.Record.{Record, record_of, carries, all_carry, plain_records, extended_records}
use Rattle.form.specs.Valid.{between_if, least_divergence, most_divergence, scene_valid, divergence_valid, precise_valid, record_valid}
use Rattle.form.specs.Form.{divergence_bits, precise_bits, any, diverges, refines, has_extended, extended_element_bits}
use Rattle.form.specs.Lemmas.Tests.{halves, by-test, by_flag, by_eq, Ranged, in-range}
use Rattle.roundtrip.specs.Lemmas.Sent.{w-ranged, w-picked}
use Rattle.roundtrip.specs.Lemmas.Unreserved.{w-unreserved, w-within}
use Rattle.roundtrip.specs.Lemmas.ObjectsBack.{ValidFrom}

-- ---- divergence

pub record DivergenceFacts (sent : Bool) (d : Divergence) : Type 0 where
  pub used : Ranged sent 0 1 0 d.used
  pub mode : Ranged (set? d.used) 0 2 0 d.mode
  pub value : Ranged (set? d.used) (least_divergence d.mode) (most_divergence d.mode) 0 d.value

pub divergence-facts : (sent : Bool) (d : Divergence) → divergence_valid sent d ≡ true → DivergenceFacts sent d
unfolding divergence_valid
divergence-facts sent d h =
    let a = halves (between_if sent 0 1 d.used) _ h in
    let b = halves (between_if (set? d.used) 0 2 d.mode) _ a.1 in
    record { used = in-range _ _ _ _ a.0; mode = in-range _ _ _ _ b.0; value = in-range _ _ _ _ b.1 }

-- the value of a mode that is known: one of two fields carries it
record ByMode (used : Bool) (mode value : ℕ) : Type 0 where
  table : both used (eqb mode 0) ≡ true → value < 4
  code : eqb mode 2 ≡ true → (1 ≤ value) × (value < 64)
  once : pick (both used (eqb mode 0)) value 0 + pick (eqb mode 2) value 0 ≡ value

by_mode : (used : Bool) (mode value : ℕ) → Ranged used 0 2 0 mode → Ranged used (least_divergence mode) (most_divergence mode) 0 value
    → ByMode used mode value
by_mode true mode value m v =
    let low = m.on refl in
    let x = v.on refl in
    by_eq mode 0
    (λ e. let y : (0 ≤ value) × (value ≤ 3) = rw e at x in rw e (record {
      table = λ q. omega arith;
      code = λ q. absurd
          (false≢true q);
      once = omega arith;
    }))
    (λ n. by_eq mode 1
    (λ e. let y : (0 ≤ value) × (value ≤ 0) = rw e at x in rw e (record {
      table = λ q. absurd (false≢true q);
      code = λ q. absurd
          (false≢true q);
      once = omega arith;
    }))
    (λ k.
    let e : mode ≡ 2 = omega arith in
    let y : (1 ≤ value) × (value ≤ 63) = rw e at x in
    rw e (record { table = λ q. absurd (false≢true q); code = λ q. (omega arith, omega arith); once = omega arith })))
by_mode false mode value m v =
    let e = m.off refl in
    let z = v.off refl in
    rw e (record { table = λ q. absurd (false≢true q); code = λ q. absurd (false≢true q); once = omega arith })

code-picked : (t : Bool) (v : ℕ) → (t ≡ true → (1 ≤ v) × (v < 64)) → Writes (unreserved_if t ObjectDivCode) (only t (to_bits 6 v)) (pick t v 0)
code-picked true v h = let x = h refl in w-unreserved true ObjectDivCode v (λ q. (x.1, above-free 0 0 v (omega arith))) (λ q. absurd (true≢false q))
code-picked false v h = w-give 0

divergence-writes : (sent : Bool) (d : Divergence) → divergence_valid sent d ≡ true → Writes (obj_div_block sent) (divergence_bits sent d) d
unfolding obj_div_block divergence_bits
divergence-writes sent d h =
    let f = divergence-facts sent d h in
    let m = by_mode (set? d.used) d.mode d.value f.mode f.value in
    w_is (λ i. record { used = d.used; mode = d.mode; value = m.once i })
    (w-bind (w-ranged 1 f.used (omega arith)) (w-bind (w-within ObjectDivMode f.mode (omega arith) (inl (omega arith)))
    (w-bind (w-picked (both (set? d.used) (eqb d.mode 0)) 2 d.value (λ q. m.table q))
    (w_end (code-picked (eqb d.mode 2) d.value m.code) (w-give _)))))

-- ---- a precise position

pub record PreciseFacts (sent : Bool) (p : Precise) : Type 0 where
  pub presence : Ranged sent 0 7 0 p.presence
  pub x : Ranged (has_x p.presence) 0 3 0 p.x
  pub y : Ranged (has_y p.presence) 0 3 0 p.y
  pub z : Ranged (has_z p.presence) 0 3 0 p.z

pub precise-facts : (sent : Bool) (p : Precise) → precise_valid sent p ≡ true → PreciseFacts sent p
unfolding precise_valid
precise-facts sent p h =
    let a = halves (between_if sent 0 7 p.presence) _ h in
    let b = halves (between_if (has_x p.presence) 0 3 p.x) _ a.1 in
    let c = halves (between_if (has_y p.presence) 0 3 p.y) _ b.1 in
    record { presence = in-range _ _ _ _ a.0; x = in-range _ _ _ _ b.0; y = in-range _ _ _ _ c.0; z = in-range _ _ _ _ c.1 }

set-flag : (t : Bool) → set? (as_flag t) ≡ t
set-flag true = refl
set-flag false = refl

pub flag_lt : (t : Bool) → as_flag t < 2
flag_lt true = omega arith
flag_lt false = omega arith

-- a group behind its flag
w-flagged : {A : Type 0} {p : P A} {l : List ℕ} {d v : A} (t : Bool) → (t ≡ true → Writes p l v) → (t ≡ false → d ≡ v)
    → Writes (when (set? (as_flag t)) p d) (only t l) v
w-flagged t f g = rw (set-flag t) (w_when t f g)

-- the flag before the presence bits
flag-writes : (sent : Bool) (presence : ℕ) → Ranged sent 0 7 0 presence
    → Writes (bits_if sent 1) (only sent (to_bits 1 (as_flag (ltb 0 presence)))) (as_flag (ltb 0 presence))
flag-writes sent presence h =
    w_if sent 1 (as_flag (ltb 0 presence)) (λ q. flag_lt (ltb 0 presence)) (λ q. let z : presence ≡ 0 = h.off q in rw z refl)

presence-writes : (presence : ℕ) → presence ≤ 7
    → Writes (bits_if (set? (as_flag (ltb 0 presence))) 3) (only (ltb 0 presence) (to_bits 3 presence)) presence
presence-writes presence h =
    w-flagged (ltb 0 presence) (λ q. w-bits 3 presence (omega arith)) (λ q. let z = ltb-false 0 presence q in omega arith)

precise-writes : (sent : Bool) (p : Precise) → precise_valid sent p ≡ true → Writes (ext_prec_pos_block sent) (precise_bits sent p) p
unfolding ext_prec_pos_block precise_bits
precise-writes sent p h =
    let f = precise-facts sent p h in
    let low : p.presence ≤ 7 = by-test sent (λ q. (f.presence.on q).1) (λ q. let z = f.presence.off q in omega arith) in
    w-bind (flag-writes sent p.presence f.presence) (w-bind (presence-writes p.presence low) (w-bind (w-ranged 2 f.x (omega arith))
    (w-bind (w-ranged 2 f.y (omega arith)) (w_end (w-ranged 2 f.z (omega arith)) (w-give _)))))

-- ---- the element

-- what the element carries of a record is valid
abbrev pub Carried : Record → Type 0
Carried r = (divergence_valid (carries r.scene) r.divergence ≡ true) × (precise_valid (carries r.scene) r.precise ≡ true)

pub all-carried : (s : Shares) (blocks i : ℕ) (rs : List Record) → ValidFrom s blocks i rs → Every Carried rs
unfolding record_valid
all-carried s blocks i [] h = tt
all-carried s blocks i (r ∷ rs) h =
    let a = halves (scene_valid (class_of s (i / blocks)) r.scene) _ h.0 in
    (halves (divergence_valid (carries r.scene) r.divergence) _ a.1, all-carried s blocks (suc i) rs h.1)

-- a loop over the records, by what each carries
along-carried : (R : Bool → ℕ → Record → Type 0) → ((i : ℕ) (r : Record) → Carried r → R (carries r.scene) i r)
    → (i : ℕ) (rs : List Record) → Every Carried rs → Along R (all_carry (map (λ r. r.scene) rs)) i rs
along-carried R f i [] h = tt
along-carried R f i (r ∷ rs) h = (f i r h.0, along-carried R f (suc i) rs h.1)

none_any : (f : Record → Bool) (r : Record) (rs : List Record) → any f (r ∷ rs) ≡ false → (f r ≡ false) × (any f rs ≡ false)
unfolding any
none_any f r rs h = by-test (f r) (λ q. absurd (false≢true (sym (rw q at h)))) (λ q. (q, rw q at h))

pub no-divergence : (sent : Bool) (d : Divergence) → divergence_valid sent d ≡ true → set? d.used ≡ false → no_divergence ≡ d
no-divergence sent d h q =
    let f = divergence-facts sent d h in
    let low : d.used ≤ 1 = by-test sent (λ q. (f.used.on q).1) (λ q. let z = f.used.off q in omega arith) in
    let u : 0 ≡ d.used = by_flag d.used low (λ e. sym e) (λ e. absurd (eqb-false d.used 1 q e)) in
    λ i. record { used = u i; mode = sym (f.mode.off q) i; value = sym (f.value.off q) i }

pub no-precise : (sent : Bool) (p : Precise) → precise_valid sent p ≡ true → ltb 0 p.presence ≡ false → no_precise ≡ p
no-precise sent p h q =
    let f = precise-facts sent p h in
    let e : 0 ≡ p.presence = (let z = ltb-false 0 p.presence q in omega arith) in
    let x : has_x p.presence ≡ false = rw (← e) refl in
    let y : has_y p.presence ≡ false = rw (← e) refl in
    let z : has_z p.presence ≡ false = rw (← e) refl in
    λ i. record { presence = e i; x = sym (f.x.off x) i; y = sym (f.y.off y) i; z = sym (f.z.off z) i }

-- where no record has a part, all have the same
none_have : {A : Type 0} (f : Record → Bool) (part : Record → A) (none : A) → ((r : Record) → Carried r → f r ≡ false → none ≡ part r)
    → (rs : List Record) → Every Carried rs → any f rs ≡ false → replicate (length (all_carry (map (λ r. r.scene) rs))) none ≡ map part rs
none_have f part none same [] h q = refl
none_have {A} f part none same (r ∷ rs) h q =
    let x = none_any f r rs q in
    ap₂ (λ (y : A) (ys : List A). y ∷ ys) (same r h.0 x.0) (none_have f part none same rs h.1 x.1)

no_divergences : (rs : List Record) → Every Carried rs → any diverges rs ≡ false
    → replicate (length (all_carry (map (λ r. r.scene) rs))) no_divergence ≡ map (λ r. r.divergence) rs
no_divergences = none_have diverges (λ r. r.divergence) no_divergence (λ r c q. no-divergence (carries r.scene) r.divergence c.0 q)

no_precises : (rs : List Record) → Every Carried rs → any refines rs ≡ false
    → replicate (length (all_carry (map (λ r. r.scene) rs))) no_precise ≡ map (λ r. r.precise) rs
no_precises = none_have refines (λ r. r.precise) no_precise (λ r c q. no-precise (carries r.scene) r.precise c.1 q)

-- what is read
abbrev pub coded_extension : List Record → Extension
coded_extension rs = record { divergence = map (λ r. r.divergence) rs; precise = map (λ r. r.precise) rs }

pub extended-writes : (rs : List Record) → Every Carried rs
    → Writes (extended_object_element (all_carry (map (λ r. r.scene) rs))) (extended_element_bits rs) (coded_extension rs)
unfolding extended_object_element extended_element_bits
extended-writes rs h =
    let d : Bool = any diverges rs in
    let p : Bool = any refines rs in
    w-bind (w-bits 1 (as_flag d) (flag_lt d))
    (w-bind (w-flagged d
    (λ q. w-each obj_div_block (λ i r. divergence_bits (carries r.scene) r.divergence) (λ r. r.divergence) _ 0 rs
    (along-carried (λ c i r. Writes (obj_div_block c) (divergence_bits (carries r.scene) r.divergence) r.divergence)
    (λ i r c. divergence-writes _ _ c.0) 0 rs h))
    (no_divergences rs h))
    (w-bind (w-bits 1 (as_flag p) (flag_lt p))
    (w_end (w-flagged p
    (λ q. w-each ext_prec_pos_block (λ i r. precise_bits (carries r.scene) r.precise) (λ r. r.precise) _ 0 rs
    (along-carried (λ c i r. Writes (ext_prec_pos_block c) (precise_bits (carries r.scene) r.precise) r.precise)
    (λ i r c. precise-writes _ _ c.1) 0 rs h))
    (no_precises rs h)) (w-give _))))

-- ---- what it means

pub extended-means : (rs : List Record) → extended_records (map (λ r. r.scene) rs) (coded_extension rs).divergence (coded_extension rs).precise ≡ rs
unfolding extended_records
extended-means [] = refl
extended-means (r ∷ rs) = ap (λ (xs : List Record). r ∷ xs) (extended-means rs)

pub plain-means : (rs : List Record) → Every Carried rs → has_extended rs ≡ false → plain_records (map (λ r. r.scene) rs) ≡ rs
unfolding has_extended plain_records
plain-means rs h q = by-test (any diverges rs)
    (λ d. absurd (false≢true (sym (rw d at q))))
    (λ d. go rs h d (rw d at q))
  where
    go : (rs : List Record) → Every Carried rs → any diverges rs ≡ false → any refines rs ≡ false → plain_records (map (λ r. r.scene) rs) ≡ rs
    go [] h d p = refl
    go (r ∷ rs) h d p =
        let x = none_any diverges r rs d in
        let y = none_any refines r rs p in
        let a = no-divergence (carries r.scene) r.divergence h.0.0 x.0 in
        let b = no-precise (carries r.scene) r.precise h.0.1 y.0 in
        ap₂ (λ (z : Record) (zs : List Record). z ∷ zs) (λ i. record_of r.scene (a i) (b i)) (go rs h.1 x.1 y.1)

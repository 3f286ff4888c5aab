-- 5.5.13 to 5.5.15: what an accepted extended object element carries is valid, and so are the records.
use Rattle.std.specs.Prelude.{◌≡◌, refl, Bool, true, false, List, [], ◌∷◌, ℕ, suc, ◌+◌, ◌<◌, length, replicate, eqb}
use Rattle.std.proofs.Common.{ap, append-nil, arith, eqb-true}
use Rattle.std.proofs.lemmas.Bool.{false≢true}
use Rattle.bits.specs.Language.{both, each}
use Rattle.bits.specs.Writes.{to_bits, only, Spells}
use Rattle.bits.specs.Spells.{s-give, s-bind, s_if}
use Rattle.bits.specs.Ensures.{e-spells, e-give, e-bind, e-any, e-then, e_when, e_if, e-each}
use Rattle.bits.specs.Terms.{Ensures, All}
use Rattle.oamd.specs.declared.Shares.{Shares}
use Rattle.oamd.specs.declared.Scene.{Scene}
use Rattle.oamd.specs.declared.Divergence.{Divergence}
use Rattle.oamd.specs.declared.Precise.{Precise}
use Rattle.oamd.specs.Programme.{set?}
use Rattle.oamd.specs.Reserved.{ObjectDivMode, ObjectDivCode}
use Rattle.oamd.specs.Extended.{obj_div_block, ext_prec_pos_block, has_x, has_y, has_z, no_divergence, no_precise, Extension, extended_object_element}
use Rattle.oamd.specs.Record.{Record, carries, all_carry, plain_records, extended_records}
use Rattle.form.specs.Valid.{between_if, least_divergence, most_divergence, divergence_valid, precise_valid, record_valid, first_bad}
use Rattle.form.specs.Form.{divergence_bits}
use Rattle.form.specs.Lemmas.Tests.{whole, by-test, by_eq, always, is-ranged}
use Rattle.roundtrip.specs.Lemmas.Unreserved.{Free, under, over, s-unreserved}
use Rattle.roundtrip.specs.Lemmas.ObjectsBack.{ValidFrom}
use Rattle.roundtrip.specs.Lemmas.AcceptedProgramme.{read-ranged}
use Rattle.roundtrip.specs.Lemmas.AcceptedScenes.{ScenesValid}

-- ---- what is read

-- the value of a mode, from its table or its code
value_read : (used : Bool) (mode table code : ℕ) → (used ≡ true → mode < 3) → (used ≡ false → 0 ≡ mode)
    → (both used (eqb mode 0) ≡ true → table < 4) → (both used (eqb mode 0) ≡ false → 0 ≡ table)
    → (eqb mode 2 ≡ true → Free ObjectDivCode code) → (eqb mode 2 ≡ false → 0 ≡ code)
    → between_if used (least_divergence mode) (most_divergence mode) (table + code) ≡ true
unfolding between_if
value_read true mode table code m m' t t' c c' =
    let l = m refl in
    by_eq mode 0
    (λ e.
    let a : table < 4 = t (rw e refl) in
    let b : 0 ≡ code = c' (rw e refl) in
    rw e (always 0 3 (table + code) (omega arith) (omega arith)))
    (λ x. by_eq mode 1
    (λ e.
    let a : 0 ≡ table = t' (rw e refl) in
    let b : 0 ≡ code = c' (rw e refl) in
    rw e (always 0 0 (table + code) (omega arith) (omega arith)))
    (λ y.
    let e : mode ≡ 2 = omega arith in
    let a : 0 ≡ table = t' (rw e refl) in
    let b : Free ObjectDivCode code = c (rw e refl) in
    let d = over ObjectDivCode code (omega arith) b in
    rw e (always 1 63 (table + code) (omega arith) (omega arith))))
value_read false mode table code m m' t t' c c' =
    let e : 0 ≡ mode = m' refl in
    let a : 0 ≡ table = t' refl in
    let b : 0 ≡ code = c' (rw (← e) refl) in
    is-ranged false 0 0 (table + code) (λ q. absurd (false≢true q)) (λ q. absurd (false≢true q)) (λ q. omega arith)

-- a divergence is valid, and leaves no choice of its bits
pub divergence-spells : (sent : Bool) → Spells (obj_div_block sent) (λ l d. (divergence_bits sent d ≡ l) × (divergence_valid sent d ≡ true))
unfolding obj_div_block divergence_valid divergence_bits
divergence-spells sent =
    s-bind _ _ _ (s_if sent 1 _ λ used u u'.
    s-bind _ _ _ (s-unreserved (set? used) ObjectDivMode _ λ mode m m'.
    s-bind _ _ _ (s_if (both (set? used) (eqb mode 0)) 2 _ λ table t t'.
    s-bind _ _ _ (s-unreserved (eqb mode 2) ObjectDivCode _ λ code c c'.
    let n : set? used ≡ true → mode < 3 = λ q. under ObjectDivMode mode (omega arith) (m q) in
    let a : only (both (set? used) (eqb mode 0)) (to_bits 2 (table + code)) ≡ only (both (set? used) (eqb mode 0)) (to_bits 2 table) =
    by-test (eqb mode 0)
    (λ q. let e : mode ≡ 0 = eqb-true mode 0 q in let y : 0 ≡ code = c' (rw e refl) in let s : table + code ≡ table = omega arith in rw s refl)
    (λ q. rw q (off (set? used) _ _)) in
    let b : only (eqb mode 2) (to_bits 6 (table + code)) ≡ only (eqb mode 2) (to_bits 6 code) =
    by-test (eqb mode 2)
    (λ q. let e : mode ≡ 2 = eqb-true mode 2 q in let y : 0 ≡ table = t'
    (rw e (none (set? used))) in let s : table + code ≡ code = omega arith in rw s refl)
    (λ q. rw q refl) in
    s-give _ _ (
      rw (append-nil (only (eqb mode 2) (to_bits 6 code)), a, b) refl,
      whole _ _ (read-ranged sent 1 used u u') (whole _ _ (read-ranged (set? used) 2 mode n m')
          (value_read (set? used) mode table code n m' t t' c c')),
    )))))
  where
    off : (t : Bool) (l m : List ℕ) → only (both t false) l ≡ only (both t false) m
    off true l m = refl
    off false l m = refl

    none : (t : Bool) → both t false ≡ false
    none true = refl
    none false = refl

precise-ensures : (sent : Bool) → Ensures (ext_prec_pos_block sent) (λ p. precise_valid sent p ≡ true)
unfolding ext_prec_pos_block precise_valid
precise-ensures sent =
    e-bind _ _ _ (e_if sent 1 _ λ given g g'.
    e-bind _ _ _ (e_if (set? given) 3 _ λ presence n n'.
    e-bind _ _ _ (e_if (has_x presence) 2 _ λ x a a'.
    e-bind _ _ _ (e_if (has_y presence) 2 _ λ y b b'.
    e-bind _ _ _ (e_if (has_z presence) 2 _ λ z c c'.
    e-give _ _ (whole _ _
    (read-ranged sent 7 presence (λ q. by-test (set? given) n (λ p. let e = n' p in omega arith)) (λ q. let e = g' q in n' (rw (← e) refl)))
    (whole _ _ (read-ranged (has_x presence) 3 x a a') (whole _ _ (read-ranged (has_y presence) 3 y b b') (read-ranged (has_z presence) 3 z c c')))))))))

-- what is carried of each record, as it was read
pub record ExtensionRead (sent : List Bool) (x : Extension) : Type 0 where
  pub divergence : All (λ c d. divergence_valid c d ≡ true) sent x.divergence
  pub precise : All (λ c p. precise_valid c p ≡ true) sent x.precise

none-carried : {A : Type 0} (valid : Bool → A → Bool) (none : A) → ((c : Bool) → valid c none ≡ true) → (sent : List Bool)
    → All (λ c a. valid c a ≡ true) sent (replicate (length sent) none)
none-carried valid none u [] = tt
none-carried valid none u (c ∷ cs) = (u c, none-carried valid none u cs)

no-divergence_valid : (c : Bool) → divergence_valid c no_divergence ≡ true
unfolding divergence_valid between_if
no-divergence_valid true = refl
no-divergence_valid false = refl

no-precise_valid : (c : Bool) → precise_valid c no_precise ≡ true
unfolding precise_valid between_if
no-precise_valid true = refl
no-precise_valid false = refl

pub extension-ensures : (sent : List Bool) → Ensures (extended_object_element sent) (ExtensionRead sent)
unfolding extended_object_element
extension-ensures sent =
    e-bind _ _ _ (e-any _ _ λ b.
    e-bind _ _ _ (e-then _ (All (λ c d. divergence_valid c d ≡ true) sent) _ (e_when (set? b) (each obj_div_block sent) _ _
    (λ q. e-each obj_div_block (λ c d. divergence_valid c d ≡ true) (λ c. e-spells _ _ _ (divergence-spells c) λ l d h. h.1) sent)
    (λ q. none-carried divergence_valid no_divergence no-divergence_valid sent)) λ ds d.
    e-bind _ _ _ (e-any _ _ λ c.
    e-bind _ _ _ (e-then _ (All (λ c p. precise_valid c p ≡ true) sent) _ (e_when (set? c) (each ext_prec_pos_block sent) _ _
    (λ q. e-each ext_prec_pos_block (λ c p. precise_valid c p ≡ true) precise-ensures sent)
    (λ q. none-carried precise_valid no_precise no-precise_valid sent)) λ ps p.
    e-give _ _ (record { divergence = d; precise = p })))))

-- ---- the records

-- each is valid, and there are as many as scenes
pub record RecordsValid (s : Shares) (blocks i : ℕ) (n : ℕ) (rs : List Record) : Type 0 where
  pub valid : ValidFrom s blocks i rs
  pub long : length rs ≡ n

pub plain-valid : (s : Shares) (blocks i : ℕ) (ss : List Scene) → ScenesValid s blocks i ss → RecordsValid s blocks i (length ss) (plain_records ss)
unfolding plain_records record_valid
plain-valid s blocks i [] h = record { valid = tt; long = refl }
plain-valid s blocks i (x ∷ ss) h =
    let r = plain-valid s blocks (suc i) ss h.1 in
    record { valid = (whole _ _ h.0 (whole _ _ (no-divergence_valid (carries x)) (no-precise_valid (carries x))), r.valid); long = ap suc r.long }

pub extended-valid : (s : Shares) (blocks i : ℕ) (ss : List Scene) (ds : List Divergence) (ps : List Precise) → ScenesValid s blocks i ss
    → All (λ c d. divergence_valid c d ≡ true) (all_carry ss) ds → All (λ c p. precise_valid c p ≡ true) (all_carry ss) ps
    → RecordsValid s blocks i (length ss) (extended_records ss ds ps)
unfolding extended_records record_valid
extended-valid s blocks i [] ds ps h d p = record { valid = tt; long = refl }
extended-valid s blocks i (x ∷ ss) [] ps h d p = absurd d
extended-valid s blocks i (x ∷ ss) (y ∷ ds) [] h d p = absurd p
extended-valid s blocks i (x ∷ ss) (y ∷ ds) (z ∷ ps) h d p =
    let r = extended-valid s blocks (suc i) ss ds ps h.1 d.1 p.1 in
    record { valid = (whole _ _ h.0 (whole _ _ d.0 p.0), r.valid); long = ap suc r.long }

pub no-bad : (s : Shares) (blocks i : ℕ) (rs : List Record) → ValidFrom s blocks i rs → first_bad s blocks i rs ≡ i + length rs
unfolding first_bad
no-bad s blocks i [] h = omega arith
no-bad s blocks i (r ∷ rs) h = rw h.0 (let e = no-bad s blocks (suc i) rs h.1 in omega arith)

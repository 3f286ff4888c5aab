-- 5.5.2 and 5.5.3: the programme of every accepted payload is valid, if its reserved content flag is clear.
use Rattle.std.specs.Prelude.{◌≡◌, refl, Bool, true, false, not, List, [], ◌∷◌, ◌++◌, ℕ, zero, suc, ◌+◌, ◌-◌, ◌≤◌, ◌<◌, length, replicate, leb, eqb}
use Rattle.std.proofs.Common.{sym, ap, ◌∙◌, subst, arith, length-append, eqb-true, eq-eqb, le-leb}
use Rattle.std.proofs.lemmas.List.{length-replicate}
use Rattle.std.proofs.lemmas.Bool.{not-false}
use Rattle.bits.specs.Language.{pick, both, from}
use Rattle.bits.specs.Laws.{length_from}
use Rattle.bits.specs.Ensures.{e-give, e-bits, e-bind, e-any, e-then, e-pass, e_if, e-each}
use Rattle.bits.specs.Terms.{Ensures, All, Every}
use Rattle.oamd.specs.declared.Programme.{Programme}
use Rattle.oamd.specs.Tables.{most_objects, most_beds}
use Rattle.oamd.specs.Programme.{set?, clear?, has_beds, has_isf, has_dynamic, has_reserved, instance_count, bed_of, bed_assignment, filled, no_bed, Beds, bed_instances}
use Rattle.oamd.specs.Programme.{intermediate_spatial_format, num_dynamic_objects, program_assignment, agrees}
use Rattle.oamd.specs.Reserved.{IntermediateSpatialFormatIdx}
use Rattle.oamd.specs.Payload.{oa_md_version, object_count, header}
use Rattle.form.specs.Valid.{between_if, bed_valid, entries_valid, programme_valid}
use Rattle.form.specs.Lemmas.Tests.{whole, by-test, in-range, always, is-ranged}
use Rattle.roundtrip.specs.Lemmas.Unreserved.{under, e-unreserved}
use Rattle.form.specs.Lemmas.Facts.{instances_le}

-- a field as it was read: in its range where it is carried, else 0
pub read-ranged : (carried : Bool) (high v : ℕ) → (carried ≡ true → v < suc high) → (carried ≡ false → 0 ≡ v) → between_if carried 0 high v ≡ true
read-ranged carried high v f g = is-ranged carried 0 high v (λ q. omega arith) (λ q. let x = f q in omega arith) (λ q. sym (g q))

-- what holds of all values of a loop holds of every one, and there are as many as entries
pub all-every : {X A : Type 0} (R : X → A → Type 0) (Q : A → Type 0) → ((x : X) (a : A) → R x a → Q a) → (xs : List X) (vs : List A) → All R xs vs
    → Every Q vs × (length vs ≡ length xs)
all-every R Q f [] [] h = (tt, refl)
all-every R Q f [] (a ∷ vs) h = absurd h
all-every R Q f (x ∷ xs) [] h = absurd h
all-every R Q f (x ∷ xs) (a ∷ vs) h = let r = all-every R Q f xs vs h.1 in ((f x a h.0, r.0), ap suc r.1)

-- used entries, filled up with the one that is not used
pub entries-make : {A : Type 0} (valid : Bool → A → Bool) (none : A) → valid false none ≡ true → (vs : List A) (m : ℕ)
    → Every (λ a. valid true a ≡ true) vs
    → entries_valid valid (length vs) (vs ++ replicate m none) ≡ true
unfolding entries_valid
entries-make valid none u [] zero h = refl
entries-make valid none u [] (suc m) h = whole _ _ u (entries-make valid none u [] m h)
entries-make valid none u (a ∷ vs) m h =
    let e : leb 1 (suc (length vs)) ≡ true = le-leb 1 (suc (length vs)) (omega arith) in
    let k : suc (length vs) - 1 ≡ length vs = omega arith in
    rw (e, k) (whole _ _ h.0 (entries-make valid none u vs m h.1))

-- ---- beds

bed-read : (lfe standard a b : ℕ) → lfe < 2 → (clear? lfe ≡ true → standard < 2) → (clear? lfe ≡ false → 0 ≡ standard)
    → (set? standard ≡ true → a < 1024) → (set? standard ≡ false → 0 ≡ a)
    → (both (clear? lfe) (clear? standard) ≡ true → b < 131072) → (both (clear? lfe) (clear? standard) ≡ false → 0 ≡ b)
    → bed_valid true (bed_of lfe standard (a + b)) ≡ true
unfolding bed_valid between_if
bed-read lfe standard a b l s s' c c' d d' =
    whole _ _ (always 0 1 lfe (omega arith) (omega arith))
    (whole _ _ (read-ranged (clear? lfe) 1 standard s s')
    (is-ranged (clear? lfe) 0 (pick (set? standard) 1023 131071) (a + b) (λ q. omega arith)
    (λ q. by-test (set? standard)
    (λ e.
    let one : standard ≡ 1 = eqb-true standard 1 e in
    let z : 0 ≡ b = d' (rw (q, one) refl) in
    let y = c e in
    rw e (omega arith))
    (λ e.
    let z = c' e in
    rw e (by-test (both (clear? lfe) (clear? standard)) (λ f. let y = d f in omega arith) (λ f. let y = d' f in omega arith))))
    (λ q.
    let n = s' q in
    let x : 0 ≡ a = c' (rw (← n) refl) in
    let y : 0 ≡ b = d' (rw q refl) in
    omega arith)))

bed-ensures : Ensures bed_assignment (λ b. bed_valid true b ≡ true)
unfolding bed_assignment
bed-ensures =
    e-bind _ _ _ (e-bits 1 _ λ lfe l.
    e-bind _ _ _ (e_if (clear? lfe) 1 _ λ standard s s'.
    e-bind _ _ _ (e_if (set? standard) 10 _ λ a c c'.
    e-bind _ _ _ (e_if (both (clear? lfe) (clear? standard)) 17 _ λ b d d'.
    e-give _ _ (bed-read lfe standard a b l s s' c c' d d')))))

record BedsRead (content : ℕ) (b : Beds) : Type 0 where
  distribute : between_if (has_beds content) 0 1 b.distribute ≡ true
  multiple : between_if (has_beds content) 0 1 b.multiple ≡ true
  instances : between_if (set? b.multiple) 0 7 b.instances ≡ true
  count : length b.beds ≡ instance_count content b.multiple b.instances
  beds : Every (λ b. bed_valid true b ≡ true) b.beds

beds_ensure : (content : ℕ) → Ensures (bed_instances content) (BedsRead content)
unfolding bed_instances
beds_ensure content =
    e-bind _ _ _ (e_if (has_beds content) 1 _ λ distribute d d'.
    e-bind _ _ _ (e_if (has_beds content) 1 _ λ multiple m m'.
    e-bind _ _ _ (e_if (set? multiple) 3 _ λ instances i i'.
    e-bind _ _ _ (e-then _ _ _ (e-each (λ i. bed_assignment) (λ i b. bed_valid true b ≡ true) (λ i. bed-ensures)
    (from 0 (instance_count content multiple instances))) λ beds h.
    let v = all-every (λ i b. bed_valid true b ≡ true) (λ b. bed_valid true b ≡ true) (λ i b q. q)
    (from 0 (instance_count content multiple instances)) beds h in
    e-give _ _ (record {
      distribute = read-ranged (has_beds content) 1 distribute d d';
      multiple = read-ranged (has_beds content) 1 multiple m m';
      instances = read-ranged (set? multiple) 7 instances i i';
      count = v.1 ∙ length_from 0 (instance_count content multiple instances);
      beds = v.0;
    })))))

-- ---- the rest

isf-ensures : (content : ℕ) → Ensures (intermediate_spatial_format content) (λ isf. between_if (has_isf content) 0 5 isf ≡ true)
unfolding intermediate_spatial_format
isf-ensures content =
    e-unreserved (has_isf content) IntermediateSpatialFormatIdx _ λ isf i i'.
    read-ranged (has_isf content) 5 isf (λ q. under IntermediateSpatialFormatIdx isf (omega arith) (i q)) i'

dynamics_ensure : (content : ℕ) → Ensures (num_dynamic_objects content) (λ n. between_if (has_dynamic content) 0 158 n ≡ true)
unfolding num_dynamic_objects
dynamics_ensure content =
    e-bind _ _ _ (e_if (has_dynamic content) 5 _ λ n a a'.
    e-bind _ _ _ (e_if (eqb n 31) 7 _ λ m b b'.
    e-give _ _ (read-ranged (has_dynamic content) 158 (n + m)
    (λ q. let x = a q in by-test (eqb n 31) (λ e. let y = b e in omega arith) (λ e. let y = b' e in omega arith))
    (λ q. let x = a' q in let y : 0 ≡ m = b' (rw (← x) refl) in omega arith))))

no-bed_valid : bed_valid false no_bed ≡ true
unfolding bed_valid between_if
no-bed_valid = refl

-- the programme that was read, but for its counts and its reserved content flag
record ProgrammeRead (n : ℕ) (p : Programme) : Type 0 where
  objects : p.objects ≡ n
  valid : has_reserved p.content ≡ false → agrees p ≡ true → programme_valid p ≡ true

programme-ensures : (n : ℕ) → 1 ≤ n → n ≤ most_objects → Ensures (program_assignment n) (ProgrammeRead n)
unfolding program_assignment programme_valid
programme-ensures n low high =
    e-bind _ _ _ (e-bits 1 _ λ dynonly d.
    e-bind _ _ _ (e_if (set? dynonly) 1 _ λ lfe l l'.
    e-bind _ _ _ (e_if (clear? dynonly) 4 _ λ content c c'.
    e-bind _ _ _ (e-then _ _ _ (beds_ensure content) λ b r.
    e-bind _ _ _ (e-then _ _ _ (isf-ensures content) λ isf i.
    e-bind _ _ _ (e-then _ _ _ (dynamics_ensure content) λ dynamics y.
    e-bind _ _ _ (e-any _ _ λ reserved.
    e-give _ _ (record {
      objects = refl;
      valid = λ clear counts.
          let few = instances_le content b.multiple b.instances (in-range _ _ _ _ r.instances) in
          let k = r.count in
          let a = length-append b.beds (replicate (most_beds - length b.beds) no_bed) in
          let z = length-replicate (most_beds - length b.beds) no_bed in
          whole _ _ (always 1 most_objects n low high)
          (whole _ _ (always 0 1 dynonly (omega arith) (omega arith))
          (whole _ _ (read-ranged (set? dynonly) 1 lfe l l')
          (whole _ _ (read-ranged (clear? dynonly) 15 content c c')
          (whole (not (has_reserved content)) _ (rw clear refl)
          (whole _ _ r.distribute
          (whole _ _ r.multiple
          (whole _ _ r.instances
          (whole _ _ (eq-eqb (instance_count content b.multiple b.instances) _ refl)
          (whole _ _ (eq-eqb (length (filled most_beds no_bed b.beds)) most_beds (omega arith))
          (whole _ _ (subst (λ (m : ℕ). entries_valid bed_valid m (filled most_beds no_bed b.beds) ≡ true) k
          (entries-make bed_valid no_bed no-bed_valid b.beds (most_beds - length b.beds) r.beds))
          (whole _ _ i (whole _ _ y counts))))))))))));
    }))))))))

pub header-ensures : Ensures header (λ h. has_reserved h.programme.content ≡ false → programme_valid h.programme ≡ true)
unfolding header object_count
header-ensures =
    e-bind _ _ _ (e-any oa_md_version _ λ version.
    e-bind _ _ _ (e-bind _ _ _ (e-bits 5 _ λ n a. e-bind _ _ _ (e_if (eqb n 31) 7 _ λ m b b'.
    let most : n + m ≤ 158 = by-test (eqb n 31) (λ e. let y = b e in omega arith) (λ e. let y = b' e in omega arith) in
    e-give _ _
    (e-bind _ _ _ (e-then _ _ _ (programme-ensures (n + m + 1) (omega arith) (omega arith)) λ p r.
    e-bind _ _ _ (e-pass (not (agrees p)) _ _ p _ λ q.
    e-bind _ _ _ (e-any _ _ λ alternate.
    e-give _ _ (λ clear. r.valid clear (not-false (agrees p) q))))))))))

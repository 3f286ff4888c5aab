-- 5.5.2 and 5.5.3: a valid programme is read back as it was written.
use Rattle.std.specs.Prelude.{◌≡◌, Bool, false, not, List, [], map, ℕ, ◌+◌, ◌-◌, ◌≤◌, length, take, eqb}
use Rattle.std.proofs.Math.Path.{refl, sym, subst}
use Rattle.std.proofs.Common.{ap, ◌∙◌, inl, map-id, length-take-le, eq-eqb, ne_eqb, lt-ltb, le-ltb}
use Rattle.std.proofs.Math.Bool.{true}
use native.Mathlib.Omega.{arith}
use Rattle.bits.specs.Language.{pick, both, give, ◌>>=◌, bits, bits_if, from, for, between}
use Rattle.bits.specs.Steps.{by_order}
use Rattle.bits.specs.Writes.{to_bits, only, each_bits}
use Rattle.bits.specs.Back.{w-give, w-bits, w-bind, w_end, w_is, w-pass, w-each}
use Rattle.bits.specs.Terms.{Writes}
use Rattle.oamd.specs.declared.Bed.{Bed}
use Rattle.oamd.specs.declared.Programme.{Programme}
use Rattle.oamd.specs.Tables.{most_beds}
use Rattle.oamd.specs.Programme.{set?, clear?, has_isf, has_dynamic, instance_count, bed_of, bed_assignment, filled, no_bed, Beds, bed_instances, intermediate_spatial_format}
use Rattle.oamd.specs.Programme.{num_dynamic_objects, reserved_data, program_assignment, agrees}
use Rattle.oamd.specs.Reserved.{IntermediateSpatialFormatIdx}
use Rattle.oamd.specs.Payload.{oa_md_version, object_count, header}
use Rattle.form.specs.Valid.{between_if, bed_valid}
use Rattle.form.specs.Form.{count_bits, bed_bits, beds_bits, assignment_bits, header_bits}
use Rattle.form.specs.Lemmas.Facts.{ProgrammeFacts, beds_le}
use Rattle.form.specs.Lemmas.Tests.{halves, by-test, by_flag, Ranged, in-range, always-ranged}
use Rattle.roundtrip.specs.Lemmas.Sent.{w-ranged, w-picked}
use Rattle.roundtrip.specs.Lemmas.Unreserved.{w-within}
use Rattle.roundtrip.specs.Lemmas.Entries.{entries-used, entries-filled, along}

-- ---- counts

-- what follows a count, whatever is made of it
pub count-writes : {A : Type 0} (n : ℕ) (f : ℕ → A) → n ≤ 158
    → Writes (bits 5 >>= λ a. bits_if (eqb a 31) 7 >>= λ b. give (f (a + b))) (count_bits n) (f n)
unfolding count_bits
count-writes n f h = by_order 31 n
    (λ l.
    let e : 31 + (n - 31) ≡ n = omega arith in
    rw (le-ltb n 31 l) (w_is (ap f e) (w-bind (w-bits 5 31 (omega arith)) (w_end (w-bits 7 (n - 31) (omega arith)) (w-give _)))))
    (λ l.
    let e : n + 0 ≡ n = omega arith in
    rw (lt-ltb n 31 l) (w_is (ap f e) (w-bind (w-bits 5 n (omega arith)) (rw (ne_eqb n 31 (λ q. omega arith)) (w_end (w-give 0) (w-give _))))))

-- ---- beds

-- one of the two arrays of flags is sent, or none
carried-once : (lfe standard assignment : ℕ) → lfe ≤ 1 → Ranged (clear? lfe) 0 1 0 standard
    → Ranged (clear? lfe) 0 (pick (set? standard) 1023 131071) 0 assignment
    → pick (set? standard) assignment 0 + pick (both (clear? lfe) (clear? standard)) assignment 0 ≡ assignment
carried-once lfe standard assignment l s a = by_flag lfe l
    (λ e. by_flag standard (s.on (eq-eqb lfe 0 e)).1 (λ f. rw (e, f) (omega arith)) (λ f. rw (e, f) (omega arith)))
    (λ e.
    let off : clear? lfe ≡ false = ne_eqb lfe 0 (λ q. omega arith) in
    rw (e, s.off off) (sym (a.off off)))

either_le : (t : Bool) → pick {A = ℕ} t 1023 131071 ≤ 131071
either_le true = omega arith
either_le false = omega arith

pub bed-writes : (b : Bed) → bed_valid true b ≡ true → Writes bed_assignment (bed_bits b) b
unfolding bed_assignment bed_bits bed_valid between_if
bed-writes b h =
    let x = halves (between 0 1 b.lfeonly) _ h in
    let y = halves (between_if (clear? b.lfeonly) 0 1 b.standard) _ x.1 in
    let l = always-ranged 0 1 b.lfeonly x.0 in
    let s = in-range (clear? b.lfeonly) 0 1 b.standard y.0 in
    let a = in-range (clear? b.lfeonly) 0 (pick (set? b.standard) 1023 131071) b.assignment y.1 in
    let most = by-test (clear? b.lfeonly) (λ q. (a.on q).1) (λ q. let z = a.off q in omega arith) in
    let sum = carried-once b.lfeonly b.standard b.assignment (l.on refl).1 s a in
    w_is (λ i. bed_of b.lfeonly b.standard (sum i))
    (w-bind (w-ranged 1 l (omega arith)) (w-bind (w-ranged 1 s (omega arith))
    (w-bind (w-picked (set? b.standard) 10 b.assignment (λ q. let z : b.assignment ≤ 1023 = rw q at most in omega arith))
    (w_end (w-picked (both (clear? b.lfeonly) (clear? b.standard)) 17 b.assignment (λ q. let z = either_le (set? b.standard) in omega arith))
    (w-give _)))))

-- ---- the programme

no-bed : (b : Bed) → bed_valid false b ≡ true → b ≡ no_bed
unfolding bed_valid
no-bed b h =
    let x = halves (between_if false 0 1 b.lfeonly) _ h in
    let y = halves (between_if false 0 1 b.standard) _ x.1 in
    let l = (in-range false 0 1 b.lfeonly x.0).off refl in
    let s = (in-range false 0 1 b.standard y.0).off refl in
    let a = (in-range false 0 (pick (set? b.standard) 1023 131071) b.assignment y.1).off refl in
    λ i. bed_of (l i) (s i) (a i)

module _ (p : Programme) (v : ProgrammeFacts p) where
  abbrev sent : List Bed
  sent = take p.bedcount p.beds

  sent_long : length sent ≡ instance_count p.content p.multiple p.instances
  sent_long = length-take-le p.bedcount p.beds (beds_le p v) ∙ v.bedcount

  abbrev carried : Beds
  carried = record { distribute = p.distribute; multiple = p.multiple; instances = p.instances; beds = sent }

  beds-written : Writes (bed_instances p.content) (beds_bits p) carried
  unfolding bed_instances beds_bits
  beds-written =
      let loop : Writes (for (length sent) (λ i. bed_assignment)) (each_bits (λ i b. bed_bits b) 0 sent) (map (λ b. b) sent) =
      w-each (λ i. bed_assignment) (λ i b. bed_bits b) (λ b. b) (from 0 (length sent)) 0 sent
      (along (λ b. bed_valid true b ≡ true) (λ x i b. Writes bed_assignment (bed_bits b) b) (λ i b h. bed-writes b h) 0 sent
      (entries-used bed_valid p.bedcount p.beds v.beds)) in
      w-bind (w-ranged 1 v.distribute (omega arith)) (w-bind (w-ranged 1 v.multiple (omega arith)) (w-bind (w-ranged 3 v.instances (omega arith))
      (w_end (w_is (map-id sent) (subst (λ (n : ℕ). Writes (for n (λ i. bed_assignment)) (each_bits (λ i b. bed_bits b) 0 sent)
      (map (λ b. b) sent)) sent_long loop)) (w-give _))))

  isf-written : Writes (intermediate_spatial_format p.content) (only (has_isf p.content) (to_bits 3 p.isf)) p.isf
  unfolding intermediate_spatial_format
  isf-written = w-within IntermediateSpatialFormatIdx v.isf (omega arith) (inl (omega arith))

  dynamics-written : Writes (num_dynamic_objects p.content) (only (has_dynamic p.content) (count_bits p.dynamics)) p.dynamics
  unfolding num_dynamic_objects
  dynamics-written = by-test (has_dynamic p.content)
      (λ e. rw e (count-writes p.dynamics (λ n. n) (v.dynamics.on e).1))
      (λ e. rw e (w_is (sym (v.dynamics.off e)) (w-bind (w-give 0) (w-bind (w-give 0) (w-give _)))))

  reserved-written : Writes (reserved_data p.content) [] 0
  unfolding reserved_data
  reserved-written = rw v.reserved (w-bind (w-give 0) (w-give 0))

  assignment-written : Writes (program_assignment p.objects) (assignment_bits p) p
  unfolding program_assignment assignment_bits
  assignment-written =
      let same : filled most_beds no_bed sent ≡ p.beds =
      subst (λ (n : ℕ). filled n no_bed sent ≡ p.beds) v.nine (entries-filled bed_valid no_bed no-bed p.bedcount p.beds v.beds (beds_le p v)) in
      w_is (λ i. record {
        objects = p.objects;
        dynonly = p.dynonly;
        lfe = p.lfe;
        content = p.content;
        distribute = p.distribute;
        multiple = p.multiple;
        instances = p.instances;
        bedcount = sym v.bedcount i;
        isf = p.isf;
        dynamics = p.dynamics;
        beds = same i;
      })
      (w-bind (w-ranged 1 v.dynonly (omega arith)) (w-bind (w-ranged 1 v.lfe (omega arith)) (w-bind (w-ranged 4 v.content (omega arith))
      (w-bind beds-written (w-bind isf-written (w_end dynamics-written (w-bind reserved-written (w-give _))))))))

  pub header-written : Writes header (header_bits p) (record { programme = p; alternate = 0 })
  unfolding header header_bits oa_md_version object_count
  header-written =
      let o = v.objects.on refl in
      let e : p.objects - 1 + 1 ≡ p.objects = omega arith in
      w-bind (w_end (w-bits 2 0 (omega arith)) (w-bind (w-give 0) (w-give 0)))
      (w-bind (w_is e (count-writes (p.objects - 1) (λ n. n + 1) (omega arith)))
      (w-bind assignment-written (w-bind (w-pass (not (agrees p)) _ _ _ (rw v.counts refl)) (w_end (w-bits 1 0 (omega arith)) (w-give _)))))

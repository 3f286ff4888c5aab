-- What the tests of a valid programme and of a valid timing say, each under the name of its field.
use Rattle.std.specs.Prelude.{◌≡◌, refl, true, false, not, ℕ, ◌≤◌, length, eqb}
use Rattle.std.proofs.Common.{arith, eqb-true}
use Rattle.std.proofs.lemmas.Bool.{not-true}
use Rattle.bits.specs.Language.{between}
use Rattle.oamd.specs.declared.Programme.{Programme}
use Rattle.oamd.specs.declared.Timing.{Timing}
use Rattle.oamd.specs.Tables.{most_objects, most_blocks, most_beds}
use Rattle.oamd.specs.Programme.{set?, clear?, has_beds, has_isf, has_dynamic, has_reserved, instance_count, agrees}
use Rattle.form.specs.Valid.{between_if, bed_valid, entries_valid, programme_valid, offset_in_samples, update_valid, timing_valid}
use Rattle.form.specs.Lemmas.Tests.{halves, by-test, Ranged, in-range, always-ranged}

-- ---- the programme

pub record ProgrammeFacts (p : Programme) : Type 0 where
  pub objects : Ranged true 1 most_objects 0 p.objects
  pub dynonly : Ranged true 0 1 0 p.dynonly
  pub lfe : Ranged (set? p.dynonly) 0 1 0 p.lfe
  pub content : Ranged (clear? p.dynonly) 0 15 0 p.content
  pub reserved : has_reserved p.content ≡ false
  pub distribute : Ranged (has_beds p.content) 0 1 0 p.distribute
  pub multiple : Ranged (has_beds p.content) 0 1 0 p.multiple
  pub instances : Ranged (set? p.multiple) 0 7 0 p.instances
  pub bedcount : p.bedcount ≡ instance_count p.content p.multiple p.instances
  pub nine : length p.beds ≡ most_beds
  pub beds : entries_valid bed_valid p.bedcount p.beds ≡ true
  pub isf : Ranged (has_isf p.content) 0 5 0 p.isf
  pub dynamics : Ranged (has_dynamic p.content) 0 158 0 p.dynamics
  pub counts : agrees p ≡ true

pub programme-facts : (p : Programme) → programme_valid p ≡ true → ProgrammeFacts p
unfolding programme_valid
programme-facts p h =
    let a = halves (between 1 most_objects p.objects) _ h in
    let b = halves (between 0 1 p.dynonly) _ a.1 in
    let c = halves (between_if (set? p.dynonly) 0 1 p.lfe) _ b.1 in
    let d = halves (between_if (clear? p.dynonly) 0 15 p.content) _ c.1 in
    let e = halves (not (has_reserved p.content)) _ d.1 in
    let f = halves (between_if (has_beds p.content) 0 1 p.distribute) _ e.1 in
    let g = halves (between_if (has_beds p.content) 0 1 p.multiple) _ f.1 in
    let i = halves (between_if (set? p.multiple) 0 7 p.instances) _ g.1 in
    let j = halves (eqb p.bedcount (instance_count p.content p.multiple p.instances)) _ i.1 in
    let k = halves (eqb (length p.beds) most_beds) _ j.1 in
    let l = halves (entries_valid bed_valid p.bedcount p.beds) _ k.1 in
    let m = halves (between_if (has_isf p.content) 0 5 p.isf) _ l.1 in
    let n = halves (between_if (has_dynamic p.content) 0 158 p.dynamics) _ m.1 in
    record {
      objects = always-ranged _ _ _ a.0;
      dynonly = always-ranged _ _ _ b.0;
      lfe = in-range _ _ _ _ c.0;
      content = in-range _ _ _ _ d.0;
      reserved = not-true _ e.0;
      distribute = in-range _ _ _ _ f.0;
      multiple = in-range _ _ _ _ g.0;
      instances = in-range _ _ _ _ i.0;
      bedcount = eqb-true _ _ j.0;
      nine = eqb-true _ _ k.0;
      beds = l.0;
      isf = in-range _ _ _ _ m.0;
      dynamics = in-range _ _ _ _ n.0;
      counts = n.1;
    }

pub instances_le : (content multiple instances : ℕ) → Ranged (set? multiple) 0 7 0 instances → instance_count content multiple instances ≤ most_beds
instances_le content multiple instances h =
    by-test (has_beds content)
    (λ e. by-test (set? multiple) (λ f. let x = h.on f in rw (e, f) (omega arith)) (λ f. rw (e, f) (omega arith)))
    (λ e. rw e (omega arith))

module _ (p : Programme) (v : ProgrammeFacts p) where
  pub beds_le : p.bedcount ≤ length p.beds
  beds_le =
      let a = instances_le p.content p.multiple p.instances v.instances in
      let b = v.bedcount in
      let c = v.nine in
      omega arith

-- ---- the timing

pub record TimingFacts (t : Timing) : Type 0 where
  pub blocks : t.blocks ≤ most_blocks
  pub eight : length t.updates ≡ most_blocks
  pub updates : entries_valid (update_valid (offset_in_samples t)) t.blocks t.updates ≡ true

pub timing-facts : (t : Timing) → timing_valid t ≡ true → TimingFacts t
unfolding timing_valid
timing-facts t h =
    let a = halves (between 0 most_blocks t.blocks) _ h in
    let b = halves (eqb (length t.updates) most_blocks) _ a.1 in
    record { blocks = ((always-ranged 0 most_blocks t.blocks a.0).on refl).1; eight = eqb-true _ _ b.0; updates = b.1 }

-- 5.5.6 and 5.5.7: a valid timing is read back as it was written.
use Rattle.std.specs.Prelude.{◌≡◌, Bool, false, ℕ, ◌+◌, ◌-◌, ◌/◌, ◌%◌, ◌≤◌, ◌<◌, eqb}
use Rattle.std.proofs.Math.Path.{refl, sym, ap, subst}
use Rattle.std.proofs.Common.{ap₂, ◌∙◌, length-take-le, eqb-true}
use Rattle.std.proofs.Math.Bool.{true}
use mathlib.Core.List.{List, [], ◌∷◌, map}
use native.Mathlib.Omega.{arith}
use Rattle.std.proofs.Math.ListN.{length, take}
use Rattle.std.proofs.lemmas.List.{length-map}
use Rattle.bits.specs.Language.{pick, from, for, between}
use Rattle.bits.specs.Writes.{each_bits}
use Rattle.bits.specs.Back.{w-give, w-bits, w-bind, w_end, w-each}
use Rattle.bits.specs.Terms.{Writes, Every}
use Rattle.oamd.specs.declared.Update.{Update}
use Rattle.oamd.specs.declared.Timing.{Timing}
use Rattle.oamd.specs.Tables.{most_blocks}
use Rattle.oamd.specs.Programme.{filled}
use Rattle.oamd.specs.Timing.{block_update_info, MdUpdateInfo, md_update_info, samples, offset_of, update_of, no_update, timing_of}
use Rattle.oamd.specs.Payload.{no_timing}
use Rattle.form.specs.Valid.{between_if, offset_in_samples, update_valid}
use Rattle.form.specs.Coded.{coded_offset, coded_update}
use Rattle.roundtrip.specs.Lemmas.Codable.{update_codable}
use Rattle.form.specs.Form.{update_bits, timing_bits}
use Rattle.form.specs.Lemmas.Facts.{TimingFacts}
use Rattle.form.specs.Lemmas.Tests.{halves, whole, Ranged, in-range, always}
use Rattle.roundtrip.specs.Lemmas.Entries.{entries-used, entries-filled, along}
use Rattle.roundtrip.specs.Lemmas.Means.{offset-codable, offset-means, ramp_codable, ramp-means, start-means}
use Rattle.roundtrip.specs.Lemmas.Fields.{offset-writes, update-writes}

-- ---- an update

pub record UpdateFacts (offset : ℕ) (used : Bool) (u : Update) : Type 0 where
  pub start : Ranged used 0 2047 0 u.start.0
  pub left : u.start.0 % 32 ≡ pick used offset 0
  pub ramp : Ranged used 0 2048 0 u.ramp.0

pub update-facts : (offset : ℕ) (used : Bool) (u : Update) → update_valid offset used u ≡ true → UpdateFacts offset used u
unfolding update_valid
update-facts offset used u h =
    let a = halves (between_if used 0 2047 u.start.0) _ h in
    let b = halves (eqb (u.start.0 % 32) (pick used offset 0)) _ a.1 in
    record { start = in-range _ _ _ _ a.0; left = eqb-true _ _ b.0; ramp = in-range _ _ _ _ b.1 }

update-codable : (u : Update) → u.start.0 ≤ 2047 → u.ramp.0 ≤ 2048 → update_codable (coded_update u) ≡ true
unfolding update_codable coded_update
update-codable u s r =
    whole _ _ (always 0 63 (u.start.0 / 32) (omega arith) (omega arith))
    (halves (between 0 63 (0 / 32)) _ (ramp_codable u.ramp.0 r)).1

update_back : (offset : ℕ) (u : Update) → update_valid offset true u ≡ true → update_of offset (coded_update u) ≡ u
unfolding coded_update
update_back offset u h =
    let f = update-facts offset true u h in
    let s = start-means u.start.0 offset f.left in
    let r = ramp-means u (f.ramp.on refl).1 in
    λ i. record { start = samples (s i); ramp = samples (r i) }

pub no-update : (offset : ℕ) (u : Update) → update_valid offset false u ≡ true → u ≡ no_update
no-update offset u h =
    let f = update-facts offset false u h in
    let s = f.start.off refl in
    let r = f.ramp.off refl in
    λ i. record { start = samples (s i); ramp = samples (r i) }

updates_back : (offset : ℕ) (us : List Update) → Every (λ u. update_valid offset true u ≡ true) us → map (update_of offset) (map coded_update us) ≡ us
updates_back offset [] h = refl
updates_back offset (u ∷ us) h = ap₂ (λ (x : Update) (xs : List Update). x ∷ xs) (update_back offset u h.0) (updates_back offset us h.1)

-- ---- the timing

-- what is read
abbrev pub coded_timing : Timing → MdUpdateInfo
coded_timing t = record { offset = coded_offset (offset_in_samples t); blocks = map coded_update (take t.blocks t.updates) }

module _ (t : Timing) (v : TimingFacts t) where
  abbrev pub sent : List Update
  sent = take t.blocks t.updates

  pub sent_long : length sent ≡ t.blocks
  sent_long = length-take-le t.blocks t.updates (let a = v.blocks in let b = v.eight in omega arith)

  sent-valid : Every (λ u. update_valid (offset_in_samples t) true u ≡ true) sent
  sent-valid = entries-used (update_valid (offset_in_samples t)) t.blocks t.updates v.updates

  offset_lt : offset_in_samples t < 32
  unfolding offset_in_samples
  offset_lt = omega arith

  pub coded_long : length (coded_timing t).blocks ≡ t.blocks
  coded_long = length-map sent coded_update ∙ sent_long

  pub timing-written : 1 ≤ t.blocks → Writes md_update_info (timing_bits t) (coded_timing t)
  unfolding md_update_info timing_bits
  timing-written one =
      let b = v.blocks in
      let count : length sent ≡ t.blocks - 1 + 1 = sent_long ∙ (let z : t.blocks ≡ t.blocks - 1 + 1 = omega arith in z) in
      let loop : Writes (for (length sent) (λ blk. block_update_info)) (each_bits (λ i u. update_bits (coded_update u)) 0 sent) (map coded_update sent) =
      w-each (λ blk. block_update_info) (λ i u. update_bits (coded_update u)) coded_update (from 0 (length sent)) 0 sent
      (along (λ u. update_valid (offset_in_samples t) true u ≡ true) (λ x i u. Writes block_update_info (update_bits (coded_update u)) (coded_update u))
      (λ i u h. let f = update-facts (offset_in_samples t) true u h in update-writes (coded_update u)
      (update-codable u (f.start.on refl).1 (f.ramp.on refl).1))
      0 sent sent-valid) in
      w-bind (offset-writes (coded_offset (offset_in_samples t)) (offset-codable (offset_in_samples t) offset_lt)) (w-bind (w-bits 3 (t.blocks - 1) (omega arith))
      (w_end (subst (λ (n : ℕ). Writes (for n (λ blk. block_update_info)) (each_bits (λ i u. update_bits (coded_update u)) 0 sent)
      (map coded_update sent)) count loop) (w-give _)))

  pub timing-means : timing_of (coded_timing t) ≡ t
  unfolding timing_of
  timing-means =
      let b = v.blocks in
      let e = v.eight in
      let same : map (update_of (offset_of (coded_offset (offset_in_samples t)))) (map coded_update sent) ≡ sent =
      rw (offset-means (offset_in_samples t) offset_lt) (updates_back (offset_in_samples t) sent sent-valid) in
      let all : filled most_blocks no_update sent ≡ t.updates =
      subst (λ (n : ℕ). filled n no_update sent ≡ t.updates) e
      (entries-filled (update_valid (offset_in_samples t)) no_update (no-update (offset_in_samples t)) t.blocks t.updates v.updates (omega arith)) in
      let us = ap (filled most_blocks no_update) same ∙ all in
      λ i. record { blocks = coded_long i; updates = us i }

  -- without blocks it is the timing of a payload without an object element
  pub no-blocks-mean : t.blocks ≡ 0 → no_timing ≡ t
  unfolding timing_of
  no-blocks-mean b =
      let e : [] ≡ sent = sym (ap (λ (n : ℕ). take n t.updates) b ∙ nothing t.updates) in
      ap (λ (us : List Update). timing_of (record { offset = coded_offset (offset_in_samples t); blocks = map coded_update us })) e ∙ timing-means
    where
      nothing : (us : List Update) → take 0 us ≡ []
      nothing [] = refl
      nothing (u ∷ us) = refl

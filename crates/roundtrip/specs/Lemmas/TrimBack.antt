-- 5.5.12: a valid trim table is read back as it was written.
use Rattle.std.specs.Prelude.{◌≡◌, refl, Bool, true, false, List, ℕ, length, replicate, eqb}
use Rattle.std.proofs.Math.Path.{sym}
use Rattle.std.proofs.Common.{subst, map-id, inr, arith, eqb-true}
use Rattle.std.proofs.Math.Option.{Option, none, some}
use Rattle.std.proofs.Math.Seq.{take-length}
use Rattle.std.proofs.lemmas.Bool.{eqb-false}
use Rattle.bits.specs.Language.{pick, P, bits, when, from, for, between}
use Rattle.bits.specs.Writes.{to_bits, only, each_bits}
use Rattle.bits.specs.Back.{w-give, w-bits, w-bind, w_end, w_is, w_when, w-each}
use Rattle.bits.specs.Terms.{Writes, Every}
use Rattle.oamd.specs.declared.TrimConfig.{TrimConfig}
use Rattle.oamd.specs.Tables.{trim_configs}
use Rattle.oamd.specs.Programme.{set?, clear?}
use Rattle.oamd.specs.Reserved.{WarpMode, GlobalTrimMode, TrimSurround, TrimHeight}
use Rattle.oamd.specs.Trim.{has_centre, has_surround, has_height, has_tb, has_lis, trim_config, no_config, TrimTable, trim_element, no_trim, trim_of}
use Rattle.form.specs.Valid.{◌and◌, between_if, entries_valid, config_valid, trim_valid}
use Rattle.form.specs.Form.{config_bits, trim_element_bits, has_trim}
use Rattle.form.specs.Lemmas.Tests.{halves, by-test, by_flag, Ranged, in-range, always-ranged}
use Rattle.roundtrip.specs.Lemmas.Sent.{w-ranged}
use Rattle.roundtrip.specs.Lemmas.Unreserved.{w_under, w-within}
use Rattle.roundtrip.specs.Lemmas.Entries.{entries-used, entries-unused, along}

-- ---- a configuration

pub record ConfigFacts (sent : Bool) (c : TrimConfig) : Type 0 where
  pub bydefault : Ranged sent 0 1 0 c.bydefault
  pub disabled : Ranged (sent and clear? c.bydefault) 0 1 0 c.disabled
  pub presence : Ranged (sent and clear? c.bydefault and clear? c.disabled) 0 31 0 c.presence
  pub centre : Ranged (has_centre c.presence) 0 15 0 c.centre
  pub surround : Ranged (has_surround c.presence) 4 15 0 c.surround
  pub height : Ranged (has_height c.presence) 4 15 0 c.height
  pub tbsign : Ranged (has_tb c.presence) 0 1 0 c.tbsign
  pub tbamount : Ranged (has_tb c.presence) 0 15 0 c.tbamount
  pub lissign : Ranged (has_lis c.presence) 0 1 0 c.lissign
  pub lisamount : Ranged (has_lis c.presence) 0 15 0 c.lisamount

pub config-facts : (sent : Bool) (c : TrimConfig) → config_valid sent c ≡ true → ConfigFacts sent c
unfolding config_valid
config-facts sent c h =
    let a = halves (between_if sent 0 1 c.bydefault) _ h in
    let b = halves (between_if (sent and clear? c.bydefault) 0 1 c.disabled) _ a.1 in
    let d = halves (between_if (sent and clear? c.bydefault and clear? c.disabled) 0 31 c.presence) _ b.1 in
    let e = halves (between_if (has_centre c.presence) 0 15 c.centre) _ d.1 in
    let f = halves (between_if (has_surround c.presence) 4 15 c.surround) _ e.1 in
    let g = halves (between_if (has_height c.presence) 4 15 c.height) _ f.1 in
    let i = halves (between_if (has_tb c.presence) 0 1 c.tbsign) _ g.1 in
    let j = halves (between_if (has_tb c.presence) 0 15 c.tbamount) _ i.1 in
    let k = halves (between_if (has_lis c.presence) 0 1 c.lissign) _ j.1 in
    record {
      bydefault = in-range _ _ _ _ a.0;
      disabled = in-range _ _ _ _ b.0;
      presence = in-range _ _ _ _ d.0;
      centre = in-range _ _ _ _ e.0;
      surround = in-range _ _ _ _ f.0;
      height = in-range _ _ _ _ g.0;
      tbsign = in-range _ _ _ _ i.0;
      tbamount = in-range _ _ _ _ j.0;
      lissign = in-range _ _ _ _ k.0;
      lisamount = in-range _ _ _ _ k.1;
    }

config-writes : (c : TrimConfig) → config_valid true c ≡ true → Writes trim_config (config_bits c) c
unfolding trim_config config_bits
config-writes c h =
    let f = config-facts true c h in
    w-bind (w-ranged 1 f.bydefault (omega arith)) (w-bind (w-ranged 1 f.disabled (omega arith)) (w-bind (w-ranged 5 f.presence (omega arith))
    (w-bind (w-ranged 4 f.centre (omega arith))
    (w-bind (w-within TrimSurround f.surround (omega arith) (inr (omega arith))) (w-bind (w-within TrimHeight f.height (omega arith) (inr (omega arith)))
    (w-bind (w-ranged 1 f.tbsign (omega arith)) (w-bind (w-ranged 4 f.tbamount (omega arith))
    (w-bind (w-ranged 1 f.lissign (omega arith)) (w_end (w-ranged 4 f.lisamount (omega arith)) (w-give _))))))))))

no-config : (c : TrimConfig) → config_valid false c ≡ true → c ≡ no_config
no-config c h =
    let f = config-facts false c h in
    let p : c.presence ≡ 0 = f.presence.off refl in
    let d = f.bydefault.off refl in
    let e = f.disabled.off refl in
    let centre = f.centre.off (rw p refl) in
    let surround = f.surround.off (rw p refl) in
    let height = f.height.off (rw p refl) in
    let tbsign = f.tbsign.off (rw p refl) in
    let tbamount = f.tbamount.off (rw p refl) in
    let lissign = f.lissign.off (rw p refl) in
    let lisamount = f.lisamount.off (rw p refl) in
    λ i. record {
      bydefault = d i;
      disabled = e i;
      presence = p i;
      centre = centre i;
      surround = surround i;
      height = height i;
      tbsign = tbsign i;
      tbamount = tbamount i;
      lissign = lissign i;
      lisamount = lisamount i;
    }

-- ---- the element

-- an array all of whose entries are sent if the test holds, and else none
array-writes : {A : Type 0} (valid : Bool → A → Bool) (empty : A) (p : P A) (l : A → List ℕ) → ((a : A) → valid true a ≡ true → Writes p (l a) a)
    → ((a : A) → valid false a ≡ true → a ≡ empty) → (on : Bool) (n : ℕ) (xs : List A) → length xs ≡ n → entries_valid valid (pick on n 0) xs ≡ true
    → Writes (when on (for n (λ i. p)) (replicate n empty)) (only on (each_bits (λ i a. l a) 0 xs)) xs
array-writes valid empty p l f g on n xs e h =
    w_when on
    (λ q.
    let used : Every (λ a. valid true a ≡ true) xs =
    subst (Every (λ a. valid true a ≡ true)) (take-length xs) (entries-used valid (length xs) xs (rw (q, ← e) at h)) in
    subst (λ (k : ℕ). Writes (for k (λ i. p)) (each_bits (λ i a. l a) 0 xs) xs) e
    (w_is (map-id xs) (w-each (λ i. p) (λ i a. l a) (λ a. a) (from 0 (length xs)) 0 xs
    (along (λ a. valid true a ≡ true) (λ x i a. Writes p (l a) a) (λ i a v. f a v) 0 xs used))))
    (λ q. subst (λ (k : ℕ). replicate k empty ≡ xs) e (entries-unused valid empty g xs (rw q at h)))

-- the trim table of so many objects, its tests as facts
pub record TrimFacts (objects : ℕ) (t : TrimTable) : Type 0 where
  pub present : Ranged true 0 1 0 t.present
  pub warp : Ranged (set? t.present) 0 1 0 t.warp
  pub mode : Ranged (set? t.present) 0 2 0 t.mode
  pub nine : length t.configs ≡ trim_configs
  pub configs : entries_valid config_valid (pick (eqb t.mode 2) trim_configs 0) t.configs ≡ true
  pub per-object : Ranged (set? t.present) 0 1 0 t.per-object
  pub flags : length t.disabled ≡ objects
  pub disabled : entries_valid (λ used x. between_if used 0 1 x) (pick (set? t.per-object) objects 0) t.disabled ≡ true

pub trim-facts : (objects : ℕ) (t : TrimTable) → trim_valid objects t ≡ true → TrimFacts objects t
unfolding trim_valid
trim-facts objects t h =
    let a = halves (between 0 1 t.present) _ h in
    let b = halves (between_if (set? t.present) 0 1 t.warp) _ a.1 in
    let c = halves (between_if (set? t.present) 0 2 t.mode) _ b.1 in
    let d = halves (eqb (length t.configs) trim_configs) _ c.1 in
    let e = halves (entries_valid config_valid (pick (eqb t.mode 2) trim_configs 0) t.configs) _ d.1 in
    let f = halves (between_if (set? t.present) 0 1 t.per-object) _ e.1 in
    let g = halves (eqb (length t.disabled) objects) _ f.1 in
    record {
      present = always-ranged _ _ _ a.0;
      warp = in-range _ _ _ _ b.0;
      mode = in-range _ _ _ _ c.0;
      nine = eqb-true _ _ d.0;
      configs = e.0;
      per-object = in-range _ _ _ _ f.0;
      flags = eqb-true _ _ g.0;
      disabled = g.1;
    }

-- the trim element that is read, if there is one
abbrev pub carried_trim : TrimTable → Option TrimTable
carried_trim t = pick (has_trim t) (some t) none

module _ (objects : ℕ) (t : TrimTable) (v : TrimFacts objects t) where
  configs-written : Writes (when (eqb t.mode 2) (for trim_configs (λ cfg. trim_config)) (replicate trim_configs no_config))
      (only (eqb t.mode 2) (each_bits (λ cfg c. config_bits c) 0 t.configs)) t.configs
  configs-written = array-writes config_valid no_config trim_config config_bits config-writes no-config (eqb t.mode 2) trim_configs t.configs
      v.nine v.configs

  flags-written : Writes (when (set? t.per-object) (for objects (λ obj. bits 1)) (replicate objects 0))
      (only (set? t.per-object) (each_bits (λ obj x. to_bits 1 x) 0 t.disabled)) t.disabled
  flags-written =
      array-writes (λ used x. between_if used 0 1 x) 0 (bits 1) (λ x. to_bits 1 x)
      (λ x h. w-bits 1 x (let l = ((in-range true 0 1 x h).on refl).1 in omega arith))
      (λ x h. (in-range false 0 1 x h).off refl) (set? t.per-object) objects t.disabled v.flags v.disabled

  pub trim-writes : has_trim t ≡ true → Writes (trim_element objects) (trim_element_bits t) t
  unfolding trim_element trim_element_bits
  trim-writes q =
      let warp = (v.warp.on q).1 in
      let mode = (v.mode.on q).1 in
      let flag = (v.per-object.on q).1 in
      let there : 1 ≡ t.present = sym (eqb-true t.present 1 q) in
      w_is (λ i. record {
        present = there i;
        warp = t.warp;
        mode = t.mode;
        configs = t.configs;
        per-object = t.per-object;
        disabled = t.disabled;
      })
      (w-bind (w_under WarpMode t.warp (omega arith) (omega arith))
      (w-bind (w-bits 2 0 (omega arith))
      (w-bind (w_under GlobalTrimMode t.mode (omega arith) (omega arith))
      (w-bind configs-written (w-bind (w-bits 1 t.per-object (omega arith)) (w_end flags-written (w-give _)))))))

  -- where the element is not there
  pub no-trim : has_trim t ≡ false → no_trim objects ≡ t
  no-trim q =
      let low = (v.present.on refl).1 in
      let p : t.present ≡ 0 = by_flag t.present low (λ e. e) (λ e. absurd (eqb-false t.present 1 q e)) in
      let warp = v.warp.off q in
      let mode : t.mode ≡ 0 = v.mode.off q in
      let flag : t.per-object ≡ 0 = v.per-object.off q in
      let configs = subst (λ (n : ℕ). replicate n no_config ≡ t.configs) v.nine
      (entries-unused config_valid no_config no-config t.configs (rw mode at v.configs)) in
      let disabled = subst (λ (n : ℕ). replicate n 0 ≡ t.disabled) v.flags
      (entries-unused (λ used x. between_if used 0 1 x) 0 (λ x h. (in-range false 0 1 x h).off refl) t.disabled (rw flag at v.disabled)) in
      λ i. record {
        present = sym p i;
        warp = sym warp i;
        mode = sym mode i;
        configs = configs i;
        per-object = sym flag i;
        disabled = disabled i;
      }

  pub trim-means : trim_of objects (carried_trim t) ≡ t
  unfolding trim_of
  trim-means = by-test (has_trim t) (λ q. rw q refl) (λ q. rw q (no-trim q))

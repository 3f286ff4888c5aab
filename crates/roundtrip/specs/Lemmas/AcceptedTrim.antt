-- 5.5.12: the trim table of every accepted payload is valid.
use Rattle.std.specs.Prelude.{◌≡◌, refl, Bool, true, false, List, [], ℕ, ◌<◌, length, replicate, eqb}
use Rattle.std.proofs.Common.{sym, ◌∙◌, subst, append-nil, arith, eq-eqb}
use Rattle.std.proofs.lemmas.List.{length-replicate}
use Rattle.bits.specs.Language.{pick, both, between, P, bits, when, from, for}
use Rattle.bits.specs.Steps.{free_above}
use Rattle.bits.specs.Laws.{length_from}
use Rattle.bits.specs.Writes.{to_bits, only, Spells}
use Rattle.bits.specs.Spells.{s-give, s-bind, s-bits, s_if}
use Rattle.bits.specs.Ensures.{e-spells, e-give, e-bits, e-bind, e-any, e-then, e_when, e-each}
use Rattle.bits.specs.Terms.{Ensures}
use Rattle.oamd.specs.Tables.{trim_configs}
use Rattle.oamd.specs.Programme.{set?, clear?}
use Rattle.oamd.specs.Reserved.{WarpMode, GlobalTrimMode, TrimSurround, TrimHeight}
use Rattle.oamd.specs.Trim.{has_centre, has_surround, has_height, has_tb, has_lis, trim_config, no_config, trim_element, no_trim}
use Rattle.form.specs.Valid.{between_if, entries_valid, config_valid, trim_valid}
use Rattle.form.specs.Form.{config_bits}
use Rattle.form.specs.Lemmas.Tests.{whole, always, is-ranged}
use Rattle.roundtrip.specs.Lemmas.Unreserved.{under, e-unreserved, s-unreserved}
use Rattle.roundtrip.specs.Lemmas.AcceptedProgramme.{read-ranged, all-every, entries-make}

-- ---- a configuration

-- a code of which the first four are reserved
code-ranged : (sent : Bool) (v : ℕ) → (sent ≡ true → (v < 16) × (between 0 3 v ≡ false)) → (sent ≡ false → 0 ≡ v) → between_if sent 4 15 v ≡ true
code-ranged sent v f g = is-ranged sent 4 15 v (λ q. free_above 0 3 v (f q).1 (omega arith)) (λ q. let x = (f q).0 in omega arith) (λ q. sym (g q))

-- it is valid, and leaves no choice of its bits
pub config-spells : Spells trim_config (λ l c. (config_bits c ≡ l) × (config_valid true c ≡ true))
unfolding trim_config config_valid config_bits between_if
config-spells =
    s-bind _ _ _ (s-bits 1 _ λ bydefault a.
    s-bind _ _ _ (s_if (clear? bydefault) 1 _ λ disabled b b'.
    s-bind _ _ _ (s_if (both (clear? bydefault) (clear? disabled)) 5 _ λ presence c c'.
    s-bind _ _ _ (s_if (has_centre presence) 4 _ λ centre d d'.
    s-bind _ _ _ (s-unreserved (has_surround presence) TrimSurround _ λ surround e e'.
    s-bind _ _ _ (s-unreserved (has_height presence) TrimHeight _ λ height f f'.
    s-bind _ _ _ (s_if (has_tb presence) 1 _ λ tbsign g g'.
    s-bind _ _ _ (s_if (has_tb presence) 4 _ λ tbamount h h'.
    s-bind _ _ _ (s_if (has_lis presence) 1 _ λ lissign i i'.
    s-bind _ _ _ (s_if (has_lis presence) 4 _ λ lisamount j j'.
    s-give _ _ (
      rw (append-nil (only (has_lis presence) (to_bits 4 lisamount))) refl,
      whole _ _ (always 0 1 bydefault (omega arith) (omega arith))
          (whole _ _ (read-ranged (clear? bydefault) 1 disabled b b')
          (whole _ _ (read-ranged (both (clear? bydefault) (clear? disabled)) 31 presence c c')
          (whole _ _ (read-ranged (has_centre presence) 15 centre d d')
          (whole _ _ (code-ranged (has_surround presence) surround e e')
          (whole _ _ (code-ranged (has_height presence) height f f')
          (whole _ _ (read-ranged (has_tb presence) 1 tbsign g g')
          (whole _ _ (read-ranged (has_tb presence) 15 tbamount h h')
          (whole _ _ (read-ranged (has_lis presence) 1 lissign i i') (read-ranged (has_lis presence) 15 lisamount j j'))))))))),
    )))))))))))

no-config_valid : config_valid false no_config ≡ true
unfolding config_valid between_if
no-config_valid = refl

-- ---- the element

-- n entries, all of them used if the test holds, and else none
record ArrayRead {A : Type 0} (valid : Bool → A → Bool) (on : Bool) (n : ℕ) (xs : List A) : Type 0 where
  long : length xs ≡ n
  entries : entries_valid valid (pick on n 0) xs ≡ true

-- none of them
none_read : {A : Type 0} (valid : Bool → A → Bool) (empty : A) → valid false empty ≡ true → (n : ℕ) → ArrayRead valid false n (replicate n empty)
none_read valid empty u n = record { long = length-replicate n empty; entries = entries-make valid empty u [] n tt }

array-ensures : {A : Type 0} (valid : Bool → A → Bool) (empty : A) (p : P A) → Ensures p (λ a. valid true a ≡ true) → valid false empty ≡ true
    → (on : Bool) (n : ℕ) → Ensures (when on (for n (λ i. p)) (replicate n empty)) (ArrayRead valid on n)
array-ensures {A} valid empty p f u on n =
    e_when on (for n (λ i. p)) (replicate n empty) _
    (λ q. e-then _ _ _ (e-each (λ i. p) (λ i a. valid true a ≡ true) (λ i. f) (from 0 n)) λ xs h.
    let v = all-every (λ i a. valid true a ≡ true) (λ a. valid true a ≡ true) (λ i a r. r) (from 0 n) xs h in
    let e : length xs ≡ n = v.1 ∙ length_from 0 n in
    let all : entries_valid valid (length xs) xs ≡ true =
    subst (λ (ys : List A). entries_valid valid (length xs) ys ≡ true) (append-nil xs) (entries-make valid empty u xs 0 v.0) in
    rw q (record { long = e; entries = rw e at all }))
    (λ q. rw q (none_read valid empty u n))

flag_off : between_if false 0 1 0 ≡ true
unfolding between_if
flag_off = refl

pub trim-ensures : (objects : ℕ) → Ensures (trim_element objects) (λ t. trim_valid objects t ≡ true)
unfolding trim_element trim_valid between_if
trim-ensures objects =
    e-bind _ _ _ (e-unreserved true WarpMode _ λ warp w w'.
    e-bind _ _ _ (e-any _ _ λ reserved.
    e-bind _ _ _ (e-unreserved true GlobalTrimMode _ λ mode m m'.
    e-bind _ _ _ (e-then _ _ _ (array-ensures config_valid no_config trim_config (e-spells _ _ _ config-spells λ l c h. h.1) no-config_valid (eqb mode 2) trim_configs) λ configs c.
    e-bind _ _ _ (e-bits 1 _ λ flag f.
    e-bind _ _ _ (e-then _ _ _ (array-ensures (λ used x. between_if used 0 1 x) 0 (bits 1)
    (e-bits 1 _ λ x l. always 0 1 x (omega arith) (omega arith)) flag_off (set? flag) objects) λ flags d.
    let low = under WarpMode warp (omega arith) (w refl) in
    let other = under GlobalTrimMode mode (omega arith) (m refl) in
    e-give _ _ (whole _ _ (always 0 1 1 (omega arith) (omega arith))
    (whole _ _ (always 0 1 warp (omega arith) (omega arith))
    (whole _ _ (always 0 2 mode (omega arith) (omega arith))
    (whole _ _ (eq-eqb _ _ c.long)
    (whole _ _ c.entries
    (whole _ _ (always 0 1 flag (omega arith) (omega arith))
    (whole _ _ (eq-eqb _ _ d.long) d.entries)))))))))))))

-- and so is that of a payload without the element
pub no-trim_valid : (objects : ℕ) → trim_valid objects (no_trim objects) ≡ true
unfolding trim_valid
no-trim_valid objects =
    let c = none_read config_valid no_config no-config_valid trim_configs in
    let d = none_read (λ used x. between_if used 0 1 x) 0 flag_off objects in
    whole _ _ (always 0 1 0 (omega arith) (omega arith))
    (whole _ _ flag_off
    (whole _ _ (read-ranged false 2 0 (λ q. omega arith) (λ q. refl))
    (whole _ _ (eq-eqb _ _ c.long) (whole _ _ c.entries (whole _ _ flag_off (whole _ _ (eq-eqb _ _ d.long) d.entries))))))

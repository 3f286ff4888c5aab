-- 5.5.6 and 5.5.7: the timing of every accepted payload is valid.
use Rattle.std.specs.Prelude.{◌≡◌, refl, Bool, true, false, List, [], ◌∷◌, map, ℕ, zero, suc, ◌+◌, ◌-◌, ◌*◌, ◌%◌, ◌≤◌, ◌<◌, length, get_or, replicate, leb, eqb}
use Rattle.std.proofs.Common.{subst, arith, length-append, leb-true, eq-eqb}
use Rattle.std.proofs.lemmas.List.{length-replicate, length-map}
use Rattle.bits.specs.Language.{pick, both, from}
use Rattle.bits.specs.Laws.{length_from}
use Rattle.bits.specs.Ensures.{e-give, e-bits, e-bind, e-any, e-then, e_if, e-each}
use Rattle.bits.specs.Terms.{Ensures, Every}
use Rattle.oamd.specs.declared.Offset.{Offset}
use Rattle.oamd.specs.declared.BlockUpdate.{BlockUpdate}
use Rattle.oamd.specs.declared.Update.{Update}
use Rattle.oamd.specs.Tables.{most_blocks, sample_offsets, ramp_codes, ramp_durations}
use Rattle.oamd.specs.Programme.{set?, clear?, filled}
use Rattle.oamd.specs.Timing.{sample_offset, block_update_info, MdUpdateInfo, md_update_info, offset_of, ramp_of, start_of, update_of, no_update, timing_of}
use Rattle.form.specs.Valid.{◌and◌, between_if, entries_valid, offset_in_samples, update_valid, timing_valid}
use Rattle.form.specs.Lemmas.Tests.{halves, whole, by-test, always}
use Rattle.roundtrip.specs.Lemmas.AcceptedProgramme.{all-every, entries-make}

-- ---- what is read

-- no entry of a table, nor what stands for one outside it, is above m
abbrev pub all_up_to : ℕ → List ℕ → Bool
all_up_to m [] = true
all_up_to m (x ∷ xs) = leb x m and all_up_to m xs

pub entry_le : (m : ℕ) (xs : List ℕ) (k : ℕ) → all_up_to m xs ≡ true → get_or xs k 0 ≤ m
entry_le m [] k h = omega arith
entry_le m (x ∷ xs) zero h = leb-true _ _ (halves (leb x m) _ h).0
entry_le m (x ∷ xs) (suc k) h = entry_le m xs k (halves (leb x m) _ h).1

pub picked_le : (t : Bool) (a b m : ℕ) → (t ≡ true → a ≤ m) → (t ≡ false → b ≤ m) → pick t a b ≤ m
picked_le true a b m f g = f refl
picked_le false a b m f g = g refl

read_le : (t : Bool) (v n m : ℕ) → (t ≡ true → v < n) → (t ≡ false → 0 ≡ v) → n ≤ suc m → v ≤ m
read_le t v n m f g l = by-test t (λ q. let x = f q in omega arith) (λ q. let x = g q in omega arith)

offset-ensures : Ensures sample_offset (λ o. offset_of o ≤ 31)
unfolding sample_offset offset_of
offset-ensures =
    e-bind _ _ _ (e-any _ _ λ code.
    e-bind _ _ _ (e_if (eqb code 1) 2 _ λ index i i'.
    e-bind _ _ _ (e_if (eqb code 2) 5 _ λ n b b'.
    e-give _ _ (picked_le (eqb code 0) 0 _ 31 (λ e. omega arith) (λ e.
    picked_le (eqb code 1) (get_or sample_offsets index 0) n 31 (λ f. entry_le 31 sample_offsets index refl)
    (λ f. read_le (eqb code 2) n 32 31 b b' (omega arith)))))))

-- an update as it was read
pub record UpdateRead (u : BlockUpdate) : Type 0 where
  pub factor : u.factor ≤ 63
  pub ramp : ramp_of u ≤ 2048

update-ensures : Ensures block_update_info UpdateRead
unfolding block_update_info ramp_of
update-ensures =
    e-bind _ _ _ (e-bits 6 _ λ factor f.
    e-bind _ _ _ (e-bits 2 _ λ code c.
    e-bind _ _ _ (e_if (eqb code 3) 1 _ λ indexed i i'.
    e-bind _ _ _ (e_if (set? indexed) 4 _ λ index j j'.
    e-bind _ _ _ (e_if (both (eqb code 3) (clear? indexed)) 11 _ λ n b b'.
    e-give _ _ (record {
      factor = omega arith;
      ramp =
          picked_le (eqb code 3) _ _ 2048
          (λ e. picked_le (set? indexed) _ _ 2048 (λ s. entry_le 2048 ramp_durations index refl)
          (λ s. read_le (both (eqb code 3) (clear? indexed)) n 2048 2048 b b' (omega arith)))
          (λ e. entry_le 2048 ramp_codes code refl);
    }))))))

pub record TimingRead (m : MdUpdateInfo) : Type 0 where
  pub offset : offset_of m.offset ≤ 31
  pub updates : Every UpdateRead m.blocks
  pub some : 1 ≤ length m.blocks
  pub few : length m.blocks ≤ most_blocks

pub timing-ensures : Ensures md_update_info TimingRead
unfolding md_update_info
timing-ensures =
    e-bind _ _ _ (e-then _ _ _ offset-ensures λ offset o.
    e-bind _ _ _ (e-bits 3 _ λ n l.
    e-bind _ _ _ (e-then _ _ _ (e-each (λ blk. block_update_info) (λ i u. UpdateRead u) (λ i. update-ensures) (from 0 (n + 1))) λ blocks h.
    let v = all-every (λ i u. UpdateRead u) UpdateRead (λ i u q. q) (from 0 (n + 1)) blocks h in
    let k = v.1 in
    let f = length_from 0 (n + 1) in
    e-give _ _ (record { offset = o; updates = v.0; some = omega arith; few = omega arith }))))

-- ---- what it means

update-valid : (offset : ℕ) (u : BlockUpdate) → offset ≤ 31 → UpdateRead u → update_valid offset true (update_of offset u) ≡ true
unfolding update_valid start_of between_if
update-valid offset u l r =
    let f = r.factor in
    let start : ℕ = offset + 32 * u.factor in
    whole _ _ (always 0 2047 start (omega arith) (omega arith))
    (whole _ _ (eq-eqb (start % 32) offset (omega arith)) (always 0 2048 (ramp_of u) (omega arith) r.ramp))

updates-valid : (offset : ℕ) (us : List BlockUpdate) → offset ≤ 31 → Every UpdateRead us
    → Every (λ u. update_valid offset true u ≡ true) (map (update_of offset) us)
updates-valid offset [] l h = tt
updates-valid offset (u ∷ us) l h = (update-valid offset u l h.0, updates-valid offset us l h.1)

no-update_valid : (offset : ℕ) → update_valid offset false no_update ≡ true
unfolding update_valid between_if
no-update_valid offset = refl

-- the first start leaves the sample offset
first-leaves : (o : Offset) (us : List BlockUpdate) → offset_of o ≤ 31 → 1 ≤ length us
    → offset_in_samples (timing_of (record { offset = o; blocks = us })) ≡ offset_of o
unfolding offset_in_samples timing_of start_of
first-leaves o [] l h = absurd (omega arith)
first-leaves o (u ∷ us) l h = omega arith

pub timing-valid : (m : MdUpdateInfo) → TimingRead m → timing_valid (timing_of m) ≡ true
unfolding timing_valid timing_of
timing-valid m r =
    let offset : ℕ = offset_of m.offset in
    let us : List Update = map (update_of offset) m.blocks in
    let few = r.few in
    let n : length us ≡ length m.blocks = length-map m.blocks (update_of offset) in
    let a = length-append us (replicate (most_blocks - length us) no_update) in
    let z = length-replicate (most_blocks - length us) no_update in
    whole _ _ (always 0 most_blocks (length m.blocks) (omega arith) few)
    (whole _ _ (eq-eqb (length (filled most_blocks no_update us)) most_blocks (omega arith))
    (rw (first-leaves m.offset m.blocks r.offset r.some)
    (subst (λ (k : ℕ). entries_valid (update_valid offset) k (filled most_blocks no_update us) ≡ true) n
    (entries-make (update_valid offset) no_update (no-update_valid offset) us (most_blocks - length us)
    (updates-valid offset m.blocks r.offset r.updates)))))

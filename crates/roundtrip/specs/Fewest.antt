-- Where docs/DECISIONS.md leaves the form a choice, the form takes the fewest bits, and of equal length the smallest number: whatever bits a reader takes for a
-- group of fields, the form's bits of what they mean come first. What the form rules out beforehand is a premise.
use Rattle.std.specs.Prelude.{◌≡◌, refl, true, ◌++◌, ℕ, ◌<◌, eqb}
use Rattle.std.proofs.Common.{append-nil, append_assoc, arith}
use Rattle.bits.specs.Language.{both}
use Rattle.bits.specs.Writes.{to_bits, only, Spells, First}
use Rattle.bits.specs.Spells.{s-give, s-bind, s-bits, s_if}
use Rattle.bits.specs.First.{first-append}
use Rattle.oamd.specs.declared.Status.TheVariants.{Full}
use Rattle.oamd.specs.declared.Location.{Location}
use Rattle.oamd.specs.Programme.{set?, clear?}
use Rattle.oamd.specs.Reserved.{SampleOffsetCode, ObjectSizeIdx}
use Rattle.oamd.specs.Timing.{sample_offset, block_update_info, offset_of, update_of}
use Rattle.oamd.specs.Block.{object_basic_info, coordinates, distance, extent}
use Rattle.oamd.specs.Meaning.{gain_of, priority_of, location_of, distance_of, volume_of}
use Rattle.form.specs.Coded.{coded_offset, coded_update, coded_gain, coded_priority, coded_distance, coded_extent}
use Rattle.roundtrip.specs.Lemmas.Codable.{offset_codable, update_codable, gain_codable, priority_codable, distance_codable, extent_codable}
use Rattle.form.specs.Form.{offset_bits, update_bits, gain_bits, priority_bits, position_bits, distance_bits, extent_bits}
use Rattle.form.specs.Lemmas.Tests.{whole, always}
use Rattle.roundtrip.specs.Lemmas.Unreserved.{under, s-unreserved}
use Rattle.roundtrip.specs.Lemmas.AcceptedProgramme.{read-ranged}
use Rattle.roundtrip.specs.Lemmas.FewestCodes.{gain_least, priority_least, distance_least, offset_least, update_least, across_least, z_least, extent_least}

-- ---- timing (5.5.6, 5.5.7)

-- but for code 1
pub offset_fewest : Spells sample_offset (λ l o. (o.code ≡ 1 → ⊥) → First (offset_bits (coded_offset (offset_of o))) l)
unfolding sample_offset offset_codable offset_bits
offset_fewest =
    s-bind _ _ _ (s-unreserved true SampleOffsetCode _ λ code a a'.
    s-bind _ _ _ (s_if (eqb code 1) 2 _ λ index b b'.
    s-bind _ _ _ (s_if (eqb code 2) 5 _ λ n c c'.
    s-give _ _ (λ other.
    let k = under SampleOffsetCode code (omega arith) (a refl) in
    rw (append-nil (only (eqb code 2) (to_bits 5 n)))
    (offset_least (record { code = code; index = index; bits = n })
    (whole _ _ (always 0 2 code (omega arith) (omega arith)) (whole _ _ (read-ranged (eqb code 1) 3 index b b')
    (read-ranged (eqb code 2) 31 n c c'))) other)))))

-- but for an index other than 15
pub update_fewest : (offset : ℕ) → offset < 32
    → Spells block_update_info (λ l u. (u.indexed ≡ 1 → u.index ≡ 15) → First (update_bits (coded_update (update_of offset u))) l)
unfolding block_update_info update_codable update_bits
update_fewest offset low =
    s-bind _ _ _ (s-bits 6 _ λ factor f.
    s-bind _ _ _ (s-bits 2 _ λ code c.
    s-bind _ _ _ (s_if (eqb code 3) 1 _ λ indexed i i'.
    s-bind _ _ _ (s_if (set? indexed) 4 _ λ index j j'.
    s-bind _ _ _ (s_if (both (eqb code 3) (clear? indexed)) 11 _ λ n b b'.
    s-give _ _ (λ last.
    rw (append-nil (only (both (eqb code 3) (clear? indexed)) (to_bits 11 n)))
    (update_least offset (record { bits = n; factor = factor; code = code; indexed = indexed; index = index }) low
    (whole _ _ (always 0 63 factor (omega arith) (omega arith)) (whole _ _ (always 0 3 code (omega arith) (omega arith))
    (whole _ _ (read-ranged (eqb code 3) 1 indexed i i')
    (whole _ _ (read-ranged (set? indexed) 15 index j j') (read-ranged (both (eqb code 3) (clear? indexed)) 2047 n b b'))))) last)))))))

-- ---- gain and priority (5.5.10), but for gain index 3

pub basic_fewest : (above : ℕ)
    → Spells (object_basic_info Full)
    (λ l b. (b.gain.index ≡ 3 → ⊥) → First (gain_bits (coded_gain (gain_of b.gain above)) ++ priority_bits (coded_priority (priority_of b.priority))) l)
unfolding object_basic_info gain_codable priority_codable gain_bits priority_bits
basic_fewest above =
    s-bind _ _ _ (s-give _ _ (
    s-bind _ _ _ (s-bits 2 _ λ index a.
    s-bind _ _ _ (s_if (eqb index 2) 6 _ λ n b b'.
    s-bind _ _ _ (s-bits 1 _ λ bydefault c.
    s-bind _ _ _ (s_if (clear? bydefault) 5 _ λ m d d'.
    s-give _ _ (λ other.
    rw (
      append-nil (only (clear? bydefault) (to_bits 5 m)),
      ← append_assoc (to_bits 2 index) (only (eqb index 2) (to_bits 6 n))
          (to_bits 1 bydefault ++ only (clear? bydefault) (to_bits 5 m)),
    )
    (first-append
    (gain_least (record { index = index; bits = n }) above (whole _ _ (always 0 3 index (omega arith) (omega arith))
    (read-ranged (eqb index 2) 63 n b b')) (omega arith))
    (priority_least (record { bydefault = bydefault; bits = m }) (whole _ _ (always 0 1 bydefault (omega arith) (omega arith))
    (read-ranged (clear? bydefault) 31 m d d')))))))))))

-- ---- absolute position, distance, size (5.5.11)

-- x = 62 as 62, y likewise, and z = 0 with sign 0
pub coordinates_fewest : (distance : ℕ) (before : Location) → Spells coordinates (λ l p. First (position_bits true (location_of p distance before)) l)
unfolding coordinates position_bits location_of
coordinates_fewest distance before =
    s-bind _ _ _ (s-bits 6 _ λ x a.
    s-bind _ _ _ (s-bits 6 _ λ y b.
    s-bind _ _ _ (s-bits 1 _ λ sign c.
    s-bind _ _ _ (s-bits 4 _ λ z d.
    s-give _ _ (rw (append-nil (to_bits 4 z)) (first-append (across_least x a) (first-append (across_least y b) (z_least sign z c d))))))))

pub distance_fewest : Spells (distance true) (λ l d. First (distance_bits (coded_distance (distance_of d))) l)
unfolding distance distance_codable distance_bits
distance_fewest =
    s-bind _ _ _ (s-bits 1 _ λ given a.
    s-bind _ _ _ (s_if (set? given) 1 _ λ infinite b b'.
    s-bind _ _ _ (s_if (both (set? given) (clear? infinite)) 4 _ λ index c c'.
    s-give _ _ (rw (append-nil (only (both (set? given) (clear? infinite)) (to_bits 4 index)))
    (distance_least (record { given = given; infinite = infinite; index = index })
    (whole _ _ (always 0 1 given (omega arith) (omega arith)) (whole _ _ (read-ranged (set? given) 1 infinite b b')
    (read-ranged (both (set? given) (clear? infinite)) 15 index c c'))))))))

pub extent_fewest : Spells (extent true) (λ l e. First (extent_bits (coded_extent (volume_of e))) l)
unfolding extent extent_codable extent_bits
extent_fewest =
    s-bind _ _ _ (s-unreserved true ObjectSizeIdx _ λ index a a'.
    s-bind _ _ _ (s_if (eqb index 1) 5 _ λ n b b'.
    s-bind _ _ _ (s_if (eqb index 2) 5 _ λ w c c'.
    s-bind _ _ _ (s_if (eqb index 2) 5 _ λ d e e'.
    s-bind _ _ _ (s_if (eqb index 2) 5 _ λ h f f'.
    let k = under ObjectSizeIdx index (omega arith) (a refl) in
    s-give _ _ (rw (append-nil (only (eqb index 2) (to_bits 5 h)))
    (extent_least (record { index = index; all = n; width = w; depth = d; height = h })
    (whole _ _ (always 0 2 index (omega arith) (omega arith)) (whole _ _ (read-ranged (eqb index 1) 31 n b b')
    (whole _ _ (read-ranged (eqb index 2) 31 w c c')
    (whole _ _ (read-ranged (eqb index 2) 31 d e e') (read-ranged (eqb index 2) 31 h f f'))))))))))))

-- The public functions of syntax.
use Rattle.std.specs.Prelude.{refl, true, ℕ, eqb}
use Rattle.std.proofs.Common.{ap}
use Rattle.std.specs.Coded.{coded_ℕ}
use Rattle.bits.specs.Language.{bits, bits_if, bit}
use Rattle.oamd.specs.contracts.Block as block
use Rattle.oamd.specs.contracts.BlockUpdate as block-update
use Rattle.oamd.specs.contracts.Divergence as divergence
use Rattle.oamd.specs.contracts.Extent as extents
use Rattle.oamd.specs.contracts.Frame as frames
use Rattle.oamd.specs.contracts.Offset as offset
use Rattle.oamd.specs.contracts.Precise as precise
use Rattle.oamd.specs.contracts.Programme as programme
use Rattle.oamd.specs.contracts.TrimConfig as config
use Rattle.oamd.specs.contracts.Zone as zones
use Rattle.oamd.specs.Block.{status_idx, position, distance, zone, extent, screen, additional_table_data, object_info_block}
use Rattle.oamd.specs.Element.{frame}
use Rattle.oamd.specs.Extended.{obj_div_block, ext_prec_pos_block}
use Rattle.oamd.specs.Payload.{oa_md_version, object_count, oa_element_count}
use Rattle.oamd.specs.Programme.{clear?, program_assignment}
use Rattle.oamd.specs.Timing.{sample_offset, block_update_info}
use Rattle.oamd.specs.Trim.{trim_config}
use Rattle.syntax.specs.contracts.look_additional as look-additional
use Rattle.syntax.specs.contracts.look_distance as look-distance
use Rattle.syntax.specs.contracts.look_extent as look-extent
use Rattle.syntax.specs.contracts.look_gain as look-gain
use Rattle.syntax.specs.contracts.look_position as look-position
use Rattle.syntax.specs.contracts.look_priority as look-priority
use Rattle.syntax.specs.contracts.look_screen as look-screen
use Rattle.syntax.specs.contracts.look_status as look-status
use Rattle.syntax.specs.contracts.look_zone as look-zone
use Rattle.syntax.specs.contracts.read_assignment as read-assignment
use Rattle.syntax.specs.contracts.read_block as read-block
use Rattle.syntax.specs.contracts.read_divergence as read-divergence
use Rattle.syntax.specs.contracts.read_element_count as read-element-count
use Rattle.syntax.specs.contracts.read_frame as read-frame
use Rattle.syntax.specs.contracts.read_object_count as read-object-count
use Rattle.syntax.specs.contracts.read_offset as read-offset
use Rattle.syntax.specs.contracts.read_precise as read-precise
use Rattle.syntax.specs.contracts.read_trim_config as read-trim-config
use Rattle.syntax.specs.contracts.read_update as read-update
use Rattle.syntax.specs.contracts.read_version as read-version
use Rattle.syntax.specs.Looks.{Seen, Pair, Passed}
use Rattle.unique.specs.OneAnswer.{OneAnswer, by_relation, said, result-set, ◌beside◌}
use Rattle.unique.specs.Readings.{holding, giving, TookBy, took-once, GaveBy, gave-once, reading-set}
use Rattle.unique.specs.Sights.{freely-once, seen-once, pair-once, seen_if, SeenBy, seen_by-once, seen-set}

pub one-read_version : OneAnswer read-version.ended (λ M 𝓤 𝓛. read-version.clauses 𝓛) (λ M 𝓤 𝓛. read-version.spec 𝓛)
    (λ κs a. a.0.now beside a.1) (λ κs a r z. holding r)
one-read_version =
    by_relation (λ κs. reading-set coded_ℕ) (λ w. refl) (TookBy _ _) (took-once (λ i. oa_md_version) (λ i. 1))
    (λ w κs a r z p. said (λ h. (r, h, refl)) p.holds)

pub one-read_object_count : OneAnswer read-object-count.ended (λ M 𝓤 𝓛. read-object-count.clauses 𝓛) (λ M 𝓤 𝓛. read-object-count.spec 𝓛)
    (λ κs a. a.0.now beside a.1) (λ κs a r z. holding r)
one-read_object_count =
    by_relation (λ κs. reading-set coded_ℕ) (λ w. refl) (TookBy _ _) (took-once (λ i. object_count) (λ i. 160))
    (λ w κs a r z p. said (λ h. (r, h, refl)) p.holds)

pub one-read_element_count : OneAnswer read-element-count.ended (λ M 𝓤 𝓛. read-element-count.clauses 𝓛) (λ M 𝓤 𝓛. read-element-count.spec 𝓛)
    (λ κs a. a.0.now beside a.1) (λ κs a r z. holding r)
one-read_element_count =
    by_relation (λ κs. reading-set coded_ℕ) (λ w. refl) (TookBy _ _) (took-once (λ i. oa_element_count) (λ i. 47))
    (λ w κs a r z p. said (λ h. (r, h, refl)) p.holds)

pub one-read_frame : OneAnswer read-frame.ended (λ M 𝓤 𝓛. read-frame.clauses 𝓛) (λ M 𝓤 𝓛. read-frame.spec 𝓛)
    (λ κs a. a.0.now beside a.1) (λ κs a r z. giving r.value r.cur)
one-read_frame =
    by_relation (λ κs. reading-set (frames.the_row).coded) (λ w. refl) (GaveBy _) (gave-once (λ i. frame i.1.1.1.0))
    (λ w κs a r z p. said (λ h. (r.value, r.cur, h, refl)) p.holds)

pub one-read_assignment : OneAnswer read-assignment.ended (λ M 𝓤 𝓛. read-assignment.clauses 𝓛) (λ M 𝓤 𝓛. read-assignment.spec 𝓛)
    (λ κs a. a.0.now beside a.1) (λ κs a r z. giving r.value r.cur)
one-read_assignment =
    by_relation (λ κs. reading-set (programme.the_row).coded) (λ w. refl) (GaveBy _) (gave-once (λ i. program_assignment i.1.1.1.0))
    (λ w κs a r z p. said (λ h. (r.value, r.cur, h.1, refl)) p.holds)

pub one-read_offset : OneAnswer read-offset.ended (λ M 𝓤 𝓛. read-offset.clauses 𝓛) (λ M 𝓤 𝓛. read-offset.spec 𝓛)
    (λ κs a. a.0.now beside a.1) (λ κs a r z. giving r.value r.cur)
one-read_offset =
    by_relation (λ κs. reading-set (offset.the_row).coded) (λ w. refl) (GaveBy _) (gave-once (λ i. sample_offset))
    (λ w κs a r z p. said (λ h. (r.value, r.cur, h, refl)) p.holds)

pub one-read_update : OneAnswer read-update.ended (λ M 𝓤 𝓛. read-update.clauses 𝓛) (λ M 𝓤 𝓛. read-update.spec 𝓛)
    (λ κs a. a.0.now beside a.1) (λ κs a r z. giving r.value r.cur)
one-read_update =
    by_relation (λ κs. reading-set (block-update.the_row).coded) (λ w. refl) (GaveBy _) (gave-once (λ i. block_update_info))
    (λ w κs a r z p. said (λ h. (r.value, r.cur, h, refl)) p.holds)

pub one-read_block : OneAnswer read-block.ended (λ M 𝓤 𝓛. read-block.clauses 𝓛) (λ M 𝓤 𝓛. read-block.spec 𝓛)
    (λ κs a. a.0.now beside a.1) (λ κs a r z. giving r.value r.cur)
one-read_block =
    by_relation (λ κs. reading-set (block.the_row).coded) (λ w. refl) (GaveBy _) (gave-once (λ i. object_info_block i.1.1.1.0 i.1.1.1.1.0))
    (λ w κs a r z p. said (λ h. (r.value, r.cur, h, refl)) p.holds)

pub one-read_divergence : OneAnswer read-divergence.ended (λ M 𝓤 𝓛. read-divergence.clauses 𝓛) (λ M 𝓤 𝓛. read-divergence.spec 𝓛)
    (λ κs a. a.0.now beside a.1) (λ κs a r z. giving r.value r.cur)
one-read_divergence =
    by_relation (λ κs. reading-set (divergence.the_row).coded) (λ w. refl) (GaveBy _) (gave-once (λ i. obj_div_block i.1.1.1.0))
    (λ w κs a r z p. said (λ h. (r.value, r.cur, h, refl)) p.holds)

pub one-read_precise : OneAnswer read-precise.ended (λ M 𝓤 𝓛. read-precise.clauses 𝓛) (λ M 𝓤 𝓛. read-precise.spec 𝓛)
    (λ κs a. a.0.now beside a.1) (λ κs a r z. giving r.value r.cur)
one-read_precise =
    by_relation (λ κs. reading-set (precise.the_row).coded) (λ w. refl) (GaveBy _) (gave-once (λ i. ext_prec_pos_block i.1.1.1.0))
    (λ w κs a r z p. said (λ h. (r.value, r.cur, h, refl)) p.holds)

pub one-read_trim_config : OneAnswer read-trim-config.ended (λ M 𝓤 𝓛. read-trim-config.clauses 𝓛) (λ M 𝓤 𝓛. read-trim-config.spec 𝓛)
    (λ κs a. a.0.now beside a.1) (λ κs a r z. giving r.value r.cur)
one-read_trim_config =
    by_relation (λ κs. reading-set (config.the_row).coded) (λ w. refl) (GaveBy _) (gave-once (λ i. trim_config))
    (λ w κs a r z p. said (λ h. (r.value, r.cur, h, refl)) p.holds)

pub one-look_status : OneAnswer look-status.ended (λ M 𝓤 𝓛. look-status.clauses 𝓛) (λ M 𝓤 𝓛. look-status.spec 𝓛) (λ κs a. a) (λ κs a r z. r)
one-look_status =
    by_relation (result-set look-status.ended) (λ w. refl) (λ i r. Seen (status_idx i.1.1.0 i.1.1.1.0) 2 i.0 i.1.0 r.value r.off)
    (λ i r r' g g'. let q = seen-once g g' in λ j. record { value = (q j).0; off = (q j).1 }) (λ w κs a r z p. said (λ h. h) p.holds)

pub one-look_gain : OneAnswer look-gain.ended (λ M 𝓤 𝓛. look-gain.clauses 𝓛) (λ M 𝓤 𝓛. look-gain.spec 𝓛) (λ κs a. a) (λ κs a r z. r)
one-look_gain =
    by_relation (result-set look-gain.ended) (λ w. refl) (λ i r. Pair (bits 2) (λ v. bits_if (eqb v 2) 6) 8 i.0 i.1.0 r.value.index r.value.bits r.off)
    (λ i r r' g g'. let q = pair-once g g' in λ j. record { value = record { index = (q j).0.0; bits = (q j).0.1 }; off = (q j).1 })
    (λ w κs a r z p. said (λ h. h) p.holds)

pub one-look_priority : OneAnswer look-priority.ended (λ M 𝓤 𝓛. look-priority.clauses 𝓛) (λ M 𝓤 𝓛. look-priority.spec 𝓛) (λ κs a. a) (λ κs a r z. r)
one-look_priority =
    by_relation (result-set look-priority.ended) (λ w. refl) (λ i r. Pair (bits 1) (λ v. bits_if (clear? v) 5) 6 i.0 i.1.0 r.value.bydefault r.value.bits r.off)
    (λ i r r' g g'. let q = pair-once g g' in λ j. record { value = record { bydefault = (q j).0.0; bits = (q j).0.1 }; off = (q j).1 })
    (λ w κs a r z p. said (λ h. h) p.holds)

pub one-look_position : OneAnswer look-position.ended (λ M 𝓤 𝓛. look-position.clauses 𝓛) (λ M 𝓤 𝓛. look-position.spec 𝓛) (λ κs a. a) (λ κs a r z. r)
one-look_position =
    by_relation (result-set look-position.ended) (λ w. refl) (λ i r. Seen (position true i.1.1.0) 18 i.0 i.1.0 r.value r.off)
    (λ i r r' g g'. let q = seen-once g g' in λ j. record { value = (q j).0; off = (q j).1 }) (λ w κs a r z p. said (λ h. h) p.holds)

pub one-look_distance : OneAnswer look-distance.ended (λ M 𝓤 𝓛. look-distance.clauses 𝓛) (λ M 𝓤 𝓛. look-distance.spec 𝓛) (λ κs a. a) (λ κs a r z. r)
one-look_distance =
    by_relation (result-set look-distance.ended) (λ w. refl) (λ i r. Seen (distance true) 6 i.0 i.1.0 r.value r.off)
    (λ i r r' g g'. let q = seen-once g g' in λ j. record { value = (q j).0; off = (q j).1 }) (λ w κs a r z p. said (λ h. h) p.holds)

pub one-look_zone : OneAnswer look-zone.ended (λ M 𝓤 𝓛. look-zone.clauses 𝓛) (λ M 𝓤 𝓛. look-zone.spec 𝓛) (λ κs a. a) (λ κs a r z. seen_if r.good r.value r.off)
one-look_zone =
    by_relation (λ κs. seen-set (zones.the_row).coded) (λ w. refl) (SeenBy (zone true) 4) (seen_by-once (zone true) 4)
    (λ w κs a r z p. said (λ h. (r.good, r.value, r.off, h, refl)) p.holds)

pub one-look_extent : OneAnswer look-extent.ended (λ M 𝓤 𝓛. look-extent.clauses 𝓛) (λ M 𝓤 𝓛. look-extent.spec 𝓛) (λ κs a. a) (λ κs a r z. seen_if r.good r.value r.off)
one-look_extent =
    by_relation (λ κs. seen-set (extents.the_row).coded) (λ w. refl) (SeenBy (extent true) 17) (seen_by-once (extent true) 17)
    (λ w κs a r z p. said (λ h. (r.good, r.value, r.off, h, refl)) p.holds)

pub one-look_screen : OneAnswer look-screen.ended (λ M 𝓤 𝓛. look-screen.clauses 𝓛) (λ M 𝓤 𝓛. look-screen.spec 𝓛) (λ κs a. a) (λ κs a r z. r)
one-look_screen =
    by_relation (result-set look-screen.ended) (λ w. refl) (λ i r. Seen (screen true) 6 i.0 i.1.0 r.value r.off)
    (λ i r r' g g'. let q = seen-once g g' in λ j. record { value = (q j).0; off = (q j).1 }) (λ w κs a r z p. said (λ h. h) p.holds)

pub one-look_additional : OneAnswer look-additional.ended (λ M 𝓤 𝓛. look-additional.clauses 𝓛) (λ M 𝓤 𝓛. look-additional.spec 𝓛)
    (λ κs a. a.0.now beside a.1) (λ κs a r z. r)
one-look_additional =
    by_relation (result-set look-additional.ended) (λ w. refl) (λ i r. Passed true additional_table_data 133 (bit i.0) i.1.0 0 r)
    (λ i r r' g g'. ap (λ (s : ℕ × ℕ). s.1) (freely-once (g.freely refl) (g'.freely refl))) (λ w κs a r z p. said (λ h. h) p.holds)

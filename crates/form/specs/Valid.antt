-- Valid tables (docs/DECISIONS.md, "The written form"): programme and timing such as some accepted payload gives, the reserved content flag clear; each
-- record, by its own bytes and its class, such as some payload gives it; and the trim table such as some payload with that
-- programme gives it. What is not carried, and an entry that is not used, is 0.
use Rattle.std.specs.Prelude.{◌≡◌, Bool, true, not, List, [], ◌∷◌, ℕ, suc, ◌+◌, ◌-◌, ◌*◌, ◌/◌, ◌%◌, leb, eqb, length, get_or}
use Rattle.bits.specs.Language.{pick, both, between}
use Rattle.oamd.specs.declared.Bed.{Bed}
use Rattle.oamd.specs.declared.Programme.{Programme}
use Rattle.oamd.specs.declared.Shares.{Shares}
use Rattle.oamd.specs.declared.Update.{Update}
use Rattle.oamd.specs.declared.Timing.{Timing}
use Rattle.oamd.specs.declared.Location.{Location}
use Rattle.oamd.specs.declared.Volume.{Volume}
use Rattle.oamd.specs.declared.Zone.{Zone}
use Rattle.oamd.specs.declared.Screen.{Screen}
use Rattle.oamd.specs.declared.Scene.{Scene}
use Rattle.oamd.specs.declared.Divergence.{Divergence}
use Rattle.oamd.specs.declared.Precise.{Precise}
use Rattle.oamd.specs.declared.TrimConfig.{TrimConfig}
use Rattle.oamd.specs.Tables.{most_objects, most_blocks, most_beds, trim_configs}
use Rattle.oamd.specs.Programme.{set?, clear?, has_beds, has_isf, has_dynamic, has_reserved, instance_count, agrees, shares, class_of}
use Rattle.oamd.specs.Meaning.{zero_db, zero_z, default_location, default_zone}
use Rattle.oamd.specs.Extended.{has_x, has_y, has_z}
use Rattle.oamd.specs.Trim.{has_centre, has_surround, has_height, has_tb, has_lis, TrimTable}
use Rattle.oamd.specs.Record.{Record, carries}
use Rattle.oamd.specs.Time.{time_bytes_of}
use Rattle.oamd.specs.Payload.{Tables}
use Rattle.record.specs.Bytes.{same_bytes}

-- both tests hold
infixr 30 ◌and◌
abbrev pub ◌and◌ : Bool → Bool → Bool
s and t = both s t

-- a value from low to high where it is carried; elsewhere it is 0
unfoldable pub between_if : Bool → ℕ → ℕ → ℕ → Bool
between_if carried low high v = pick carried (between low high v) (eqb v 0)

-- entries of an array, each by whether it is used: the first n are
unfoldable pub entries_valid : {A : Type 0} → (Bool → A → Bool) → ℕ → List A → Bool
entries_valid valid n [] = true
entries_valid valid n (a ∷ rest) = valid (leb 1 n) a and entries_valid valid (n - 1) rest

-- ---- the programme (5.5.3)

-- an entry of the beds
unfoldable pub bed_valid : Bool → Bed → Bool
bed_valid used b =
    between_if used 0 1 b.lfeonly
    and between_if (used and clear? b.lfeonly) 0 1 b.standard
    and between_if (used and clear? b.lfeonly) 0 (pick (set? b.standard) 1023 131071) b.assignment

unfoldable pub programme_valid : Programme → Bool
programme_valid p =
    between 1 most_objects p.objects
    and between 0 1 p.dynonly
    and between_if (set? p.dynonly) 0 1 p.lfe
    and between_if (clear? p.dynonly) 0 15 p.content
    and not (has_reserved p.content)
    and between_if (has_beds p.content) 0 1 p.distribute
    and between_if (has_beds p.content) 0 1 p.multiple
    and between_if (set? p.multiple) 0 7 p.instances
    and eqb p.bedcount (instance_count p.content p.multiple p.instances)
    and eqb (length p.beds) most_beds
    and entries_valid bed_valid p.bedcount p.beds
    and between_if (has_isf p.content) 0 5 p.isf
    and between_if (has_dynamic p.content) 0 158 p.dynamics
    and agrees p

-- ---- the timing (5.5.6, 5.5.7)

-- one sample offset serves all blocks: what the first start leaves by 32
abbrev pub first_start : List Update → ℕ
first_start [] = 0
first_start (u ∷ us) = u.start.0

unfoldable pub offset_in_samples : Timing → ℕ
offset_in_samples t = first_start t.updates % 32

-- an entry of the updates, beside that offset
unfoldable pub update_valid : ℕ → Bool → Update → Bool
update_valid offset used u =
    between_if used 0 2047 u.start.0 and eqb (u.start.0 % 32) (pick used offset 0) and between_if used 0 2048 u.ramp.0

unfoldable pub timing_valid : Timing → Bool
timing_valid t =
    between 0 most_blocks t.blocks
    and eqb (length t.updates) most_blocks
    and entries_valid (update_valid (offset_in_samples t)) t.blocks t.updates

-- ---- a record

-- bytes 4 to 7
unfoldable pub location_valid : Bool → Location → Bool
location_valid sent p =
    pick sent (between 0 62 p.x) (eqb p.x default_location.x)
    and pick sent (between 0 62 p.y) (eqb p.y default_location.y)
    and pick sent (between (zero_z - 15) (zero_z + 15) p.z) (eqb p.z default_location.z)
    and between_if sent 0 17 p.distance

-- bytes 8 to 10
unfoldable pub volume_valid : Bool → Volume → Bool
volume_valid sent v = between_if sent 0 31 v.width and between_if sent 0 31 v.depth and between_if sent 0 31 v.height

-- bytes 11 and 12
unfoldable pub zone_valid : Bool → Zone → Bool
zone_valid sent z =
    between_if sent 0 5 z.index and pick sent (between 0 1 z.elevation) (eqb z.elevation default_zone.elevation)

-- bytes 13 to 15
unfoldable pub screen_valid : Bool → Screen → Bool
screen_valid sent s = between_if sent 0 1 s.used and between_if (set? s.used) 0 7 s.factor and between_if (set? s.used) 0 3 s.depth

-- bytes 0 to 16, of an object of a class: an inactive record, and what is sent of dynamic objects only, has the defaults (Tables 28 and 29)
unfoldable pub scene_valid : ℕ → Scene → Bool
scene_valid class s =
    between 0 1 s.active
    and eqb s.class class
    and between_if (set? s.active) 0 (zero_db + 15) s.gain
    and between_if (set? s.active) 0 32 s.priority
    and location_valid (carries s) s.location
    and volume_valid (carries s) s.volume
    and zone_valid (carries s) s.zone
    and screen_valid (carries s) s.screen
    and between_if (carries s) 0 1 s.snap

-- by object_div_mode: an index of 2 bits; nothing; a code of 6 bits, 0 reserved (5.5.14)
abbrev pub least_divergence : ℕ → ℕ
least_divergence mode = get_or (0 ∷ 0 ∷ 1 ∷ []) mode 0

abbrev pub most_divergence : ℕ → ℕ
most_divergence mode = get_or (3 ∷ 0 ∷ 63 ∷ []) mode 0

-- bytes 17 to 19
unfoldable pub divergence_valid : Bool → Divergence → Bool
divergence_valid sent d =
    between_if sent 0 1 d.used
    and between_if (set? d.used) 0 2 d.mode
    and between_if (set? d.used) (least_divergence d.mode) (most_divergence d.mode) d.value

-- bytes 20 to 23
unfoldable pub precise_valid : Bool → Precise → Bool
precise_valid sent p =
    between_if sent 0 7 p.presence
    and between_if (has_x p.presence) 0 3 p.x
    and between_if (has_y p.presence) 0 3 p.y
    and between_if (has_z p.presence) 0 3 p.z

unfoldable pub record_valid : ℕ → Record → Bool
record_valid class r =
    scene_valid class r.scene and divergence_valid (carries r.scene) r.divergence and precise_valid (carries r.scene) r.precise

-- the index of the first bad record, where the indices count from i; behind the last where there is none
unfoldable pub first_bad : Shares → ℕ → ℕ → List Record → ℕ
first_bad s blocks i [] = i
first_bad s blocks i (r ∷ rs) = pick (record_valid (class_of s (i / blocks)) r) (first_bad s blocks (suc i) rs) i

-- ---- the times of the records, which no table holds

-- the index of the first record whose time bytes are not those of its time, where the indices count from i; behind the last where there is none
unfoldable pub first_mistimed : (ℕ → ℕ) → ℕ → List (List ℕ) → ℕ
first_mistimed time i [] = i
first_mistimed time i (x ∷ xs) = pick (same_bytes x (time_bytes_of (time i))) (first_mistimed time (suc i) xs) i

-- ---- the trim table (5.5.12)

-- a configuration, by whether it is sent
unfoldable pub config_valid : Bool → TrimConfig → Bool
config_valid sent c =
    between_if sent 0 1 c.bydefault
    and between_if (sent and clear? c.bydefault) 0 1 c.disabled
    and between_if (sent and clear? c.bydefault and clear? c.disabled) 0 31 c.presence
    and between_if (has_centre c.presence) 0 15 c.centre
    and between_if (has_surround c.presence) 4 15 c.surround
    and between_if (has_height c.presence) 4 15 c.height
    and between_if (has_tb c.presence) 0 1 c.tbsign
    and between_if (has_tb c.presence) 0 15 c.tbamount
    and between_if (has_lis c.presence) 0 1 c.lissign
    and between_if (has_lis c.presence) 0 15 c.lisamount

-- of so many objects
unfoldable pub trim_valid : ℕ → TrimTable → Bool
trim_valid objects t =
    between 0 1 t.present
    and between_if (set? t.present) 0 1 t.warp
    and between_if (set? t.present) 0 2 t.mode
    and eqb (length t.configs) trim_configs
    and entries_valid config_valid (pick (eqb t.mode 2) trim_configs 0) t.configs
    and between_if (set? t.present) 0 1 t.per-object
    and eqb (length t.disabled) objects
    and entries_valid (λ used x. between_if used 0 1 x) (pick (set? t.per-object) objects 0) t.disabled

-- ---- the tables

-- the records that a programme and a timing ask for
abbrev pub record_count : Programme → Timing → ℕ
record_count p t = p.objects * t.blocks

pub record Valid (t : Tables) : Type 0 where
  pub programme : programme_valid t.programme ≡ true
  pub timing : timing_valid t.timing ≡ true
  pub count : length t.records ≡ record_count t.programme t.timing
  pub records : first_bad (shares t.programme) t.timing.blocks 0 t.records ≡ record_count t.programme t.timing
  pub trim : trim_valid t.programme.objects t.trim ≡ true

-- Parts of the long tests of form, under names, so that code can make them one by one; proofs/Joined.antt shows that the parts make the whole.
use Rattle.std.specs.Prelude.{Bool, true, List, ℕ, zero, suc, ◌+◌, leb, eqb, length, get_or}
use Rattle.oamd.specs.declared.Bed.{Bed}
use Rattle.oamd.specs.declared.Programme.{Programme}
use Rattle.oamd.specs.declared.Scene.{Scene}
use Rattle.oamd.specs.declared.TrimConfig.{TrimConfig}
use Rattle.oamd.specs.declared.Update.{Update}
use Rattle.oamd.specs.Tables.{most_beds, most_blocks}
use Rattle.oamd.specs.Record.{Record}
use Rattle.oamd.specs.Programme.{set?, has_beds, has_isf, has_dynamic, instance_count, agrees}
use Rattle.oamd.specs.Trim.{has_centre, has_surround, has_height, has_tb, has_lis}
use Rattle.form.specs.Valid.{◌and◌, between_if, entries_valid, bed_valid, update_valid, location_valid, volume_valid, zone_valid, screen_valid}

-- the beds, of which so many are used
unfoldable pub beds_valid : ℕ → List Bed → Bool
beds_valid used beds = eqb (length beds) most_beds and entries_valid bed_valid used beds

-- what stands behind the beds, and that all together name the object count
unfoldable pub behind_beds_valid : Programme → Bool
behind_beds_valid p = between_if (has_isf p.content) 0 5 p.isf and between_if (has_dynamic p.content) 0 158 p.dynamics and agrees p

-- the program assignment
unfoldable pub assignment_valid : Programme → Bool
assignment_valid p =
    between_if (has_beds p.content) 0 1 p.distribute
    and between_if (has_beds p.content) 0 1 p.multiple
    and between_if (set? p.multiple) 0 7 p.instances
    and eqb p.bedcount (instance_count p.content p.multiple p.instances)
    and beds_valid p.bedcount p.beds
    and behind_beds_valid p

-- the updates, of which so many are used
unfoldable pub updates_valid : ℕ → ℕ → List Update → Bool
updates_valid offset used updates = eqb (length updates) most_blocks and entries_valid (update_valid offset) used updates

-- bytes 4 to 16
unfoldable pub rendered_valid : Bool → Scene → Bool
rendered_valid sent s =
    location_valid sent s.location
    and volume_valid sent s.volume
    and zone_valid sent s.zone
    and screen_valid sent s.screen
    and between_if sent 0 1 s.snap

-- four bytes are at most their limits
abbrev pub within4 : List ℕ → ℕ → ℕ → ℕ → ℕ → ℕ → Bool
within4 s at a b c d = leb (get_or s at 0) a and leb (get_or s (at + 1) 0) b and leb (get_or s (at + 2) 0) c and leb (get_or s (at + 3) 0) d

-- of a record whose render info is sent: bytes 2 to 17 are at most what they may be
unfoldable pub within_limits : Record → Bool
within_limits r =
    (leb r.scene.gain 65
    and leb r.scene.priority 32
    and (leb r.scene.location.x 62 and leb r.scene.location.y 62 and leb r.scene.location.z 79 and leb r.scene.location.distance 17)
    and (leb r.scene.volume.width 31 and leb r.scene.volume.depth 31 and leb r.scene.volume.height 31)
    and (leb r.scene.zone.index 5 and leb r.scene.zone.elevation 1)
    and (leb r.scene.screen.used 1 and leb r.scene.screen.factor 7 and leb r.scene.screen.depth 3)
    and leb r.scene.snap 1)
    and leb r.divergence.used 1

-- of a trim configuration: the two balances
unfoldable pub balances_valid : TrimConfig → Bool
balances_valid c =
    between_if (has_tb c.presence) 0 1 c.tbsign
    and between_if (has_tb c.presence) 0 15 c.tbamount
    and between_if (has_lis c.presence) 0 1 c.lissign
    and between_if (has_lis c.presence) 0 15 c.lisamount

-- the three trims, and the balances
unfoldable pub trims_valid : TrimConfig → Bool
trims_valid c =
    between_if (has_centre c.presence) 0 15 c.centre
    and between_if (has_surround c.presence) 4 15 c.surround
    and between_if (has_height c.presence) 4 15 c.height
    and balances_valid c

-- a test holds of each of the numbers below n
unfoldable pub all_below : (ℕ → Bool) → ℕ → Bool
all_below good zero = true
all_below good (suc n) = all_below good n and good n

-- the sum of n bytes from a place on: 0 where all of them are
unfoldable pub total : List ℕ → ℕ → ℕ → ℕ
total s zero at = 0
total s (suc n) at = get_or s at 0 + total s n (at + 1)

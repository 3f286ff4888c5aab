-- What is not sent: no bit is read of it, each field is 0, and none of them makes a difference to what is shown.
use mathlib.Core.Path.{◌≡◌}
use mathlib.Core.Bool.{Bool, false}
use Prim.Native.Nat.{ℕ}
use Rattle.bits.specs.Language.{pick, bits_if}
use Rattle.bits.specs.View.{Looks}
use Rattle.bits.proofs.Free.{looks-give, ◌▹◌}
use Rattle.meaning.specs.Shown.{shown_of, sent_of, mixed_of}
use Rattle.oamd.specs.declared.Basic.{Basic}
use Rattle.oamd.specs.declared.Distance.{Distance}
use Rattle.oamd.specs.declared.Extent.{Extent}
use Rattle.oamd.specs.declared.Render.{Render}
use Rattle.oamd.specs.declared.Scene.{Scene}
use Rattle.oamd.specs.declared.Screen.{Screen}
use Rattle.oamd.specs.declared.Status.{Status}
use Rattle.oamd.specs.declared.Status.TheVariants.{Mixed}
use Rattle.oamd.specs.declared.Zone.{Zone}
use Rattle.oamd.specs.Block.{parts_of, sends, object_basic_info, has_position, has_zone, has_size, has_screen, nowhere, position, distance, zone, extent, screen, object_render_info}
use Rattle.oamd.specs.Meaning.{distance_of, location_of, volume_of}
use Rattle.scenes.proofs.Taken.{value_where, value_by-two}

abbrev no_distance : Distance
no_distance = record { given = 0; infinite = 0; index = 0 }

abbrev no_zone : Zone
no_zone = record { index = 0; elevation = 0 }

abbrev no_extent : Extent
no_extent = record { index = 0; all = 0; width = 0; depth = 0; height = 0 }

abbrev no_screen : Screen
no_screen = record { used = 0; factor = 0; depth = 0 }

abbrev pub no_basic : Status → Basic
no_basic status = record { status = status; parts = 0; gain = record { index = 0; bits = 0 }; priority = record { bydefault = 0; bits = 0 } }

abbrev pub no_render : Status → Render
no_render status = record {
  status = status;
  parts = 0;
  position = nowhere;
  distance = no_distance;
  zone = no_zone;
  extent = no_extent;
  screen = no_screen;
  snap = 0;
}

module _ {x o : ℕ} where
  pub no-position : (first : Bool) → Looks (position false first) x o nowhere o
  unfolding position
  no-position first = looks-give ▹ looks-give

  pub no_distance_lem : Looks (distance false) x o no_distance o
  unfolding distance
  no_distance_lem = looks-give ▹ looks-give ▹ looks-give ▹ looks-give

  pub no-zone : Looks (zone false) x o no_zone o
  unfolding zone
  no-zone = looks-give ▹ looks-give ▹ looks-give

  pub no-extent : Looks (extent false) x o no_extent o
  unfolding extent
  no-extent = looks-give ▹ looks-give ▹ looks-give ▹ looks-give ▹ looks-give ▹ looks-give

  pub no-screen : Looks (screen false) x o no_screen o
  unfolding screen
  no-screen = looks-give ▹ looks-give ▹ looks-give ▹ looks-give

  -- the same of all groups together, by a status that sends none of them
  pub no-basic : (status : Status) → Looks (parts_of 3 2 status) x o 0 o → Looks (object_basic_info status) x o (no_basic status) o
  unfolding object_basic_info
  no-basic status parts = parts ▹ looks-give ▹ looks-give ▹ looks-give ▹ looks-give ▹ looks-give

  pub no-render : (status : Status) (first : Bool) → Looks (parts_of 15 4 status) x o 0 o → Looks (bits_if (sends status) 1) x o 0 o
      → Looks (object_render_info status first) x o (no_render status) o
  unfolding object_render_info
  no-render status first parts snap = parts ▹ no-position first ▹ no_distance_lem ▹ no-zone ▹ no-extent ▹ no-screen ▹ snap ▹ looks-give

-- the groups that are sent, of those that were looked at
abbrev pub sent_alone : Render → Render
sent_alone n = record {
  status = Mixed;
  parts = n.parts;
  position = pick (has_position n.parts) n.position nowhere;
  distance = pick (has_position n.parts) n.distance no_distance;
  zone = pick (has_zone n.parts) n.zone no_zone;
  extent = pick (has_size n.parts) n.extent no_extent;
  screen = pick (has_screen n.parts) n.screen no_screen;
  snap = n.snap;
}

pub mixed-means : (before : Scene) (n : Render) → mixed_of before n.parts (sent_of before.location n) ≡ shown_of before (sent_alone n)
mixed-means before n =
    rw (
      value_by-two (λ p d. location_of p (distance_of d) before.location) n.position nowhere n.distance no_distance before.location (has_position n.parts),
      value_where volume_of n.extent no_extent before.volume (has_size n.parts),
      value_where (λ z. z) n.zone no_zone before.zone (has_zone n.parts),
      value_where (λ s. s) n.screen no_screen before.screen (has_screen n.parts),
    )

-- What object_render_info gives, by its status and the scene of the block before: the parts of `resolve` (oamd/specs/Meaning.antt) that go by that status.
use Rattle.std.specs.Prelude.{true, ℕ}
use Rattle.bits.specs.Language.{pick}
use Rattle.oamd.specs.declared.Location.{Location}
use Rattle.oamd.specs.declared.Render.{Render}
use Rattle.oamd.specs.declared.Scene.{Scene}
use Rattle.oamd.specs.Block.{has_position, has_zone, has_size, has_screen}
use Rattle.oamd.specs.Meaning.{value_of, distance_of, location_of, volume_of, default_location, default_volume, default_zone, default_screen}
use Rattle.meaning.specs.declared.Shown.{Shown}

abbrev pub default_shown : Shown
default_shown = record { location = default_location; volume = default_volume; zone = default_zone; screen = default_screen; snap = 0 }

-- the groups of the block before
abbrev pub shown_before : Scene → Shown
shown_before before = record {
  location = before.location;
  volume = before.volume;
  zone = before.zone;
  screen = before.screen;
  snap = before.snap;
}

abbrev pub shown_of : Scene → Render → Shown
shown_of before n = record {
  location = value_of n.status (has_position n.parts) default_location before.location (location_of n.position (distance_of n.distance) before.location);
  volume = value_of n.status (has_size n.parts) default_volume before.volume (volume_of n.extent);
  zone = value_of n.status (has_zone n.parts) default_zone before.zone n.zone;
  screen = value_of n.status (has_screen n.parts) default_screen before.screen n.screen;
  snap = value_of n.status true 0 before.snap n.snap;
}

-- what is sent, group by group
abbrev pub sent_of : Location → Render → Shown
sent_of location_before n = record {
  location = location_of n.position (distance_of n.distance) location_before;
  volume = volume_of n.extent;
  zone = n.zone;
  screen = n.screen;
  snap = n.snap;
}

-- each group as sent, or else that of the block before
abbrev pub mixed_of : Scene → ℕ → Shown → Shown
mixed_of before parts sent = record {
  location = pick (has_position parts) sent.location before.location;
  volume = pick (has_size parts) sent.volume before.volume;
  zone = pick (has_zone parts) sent.zone before.zone;
  screen = pick (has_screen parts) sent.screen before.screen;
  snap = sent.snap;
}

-- The number that a field has in a payload, by what was read: the coded block, and the entries of the extended element.
use Rattle.std.specs.Prelude.{ℕ, ◌-◌}
use Rattle.oamd.specs.declared.Position.{Position}
use Rattle.oamd.specs.declared.Position.TheVariants.{Absolute, Moved}
use Rattle.oamd.specs.declared.Block.{Block}
use Rattle.oamd.specs.declared.Divergence.{Divergence}
use Rattle.oamd.specs.declared.Precise.{Precise}
use Rattle.sources.specs.declared.Field.{Field}
use Rattle.sources.specs.declared.Field.TheVariants.{NotActive, GainIdx, GainBits, DefaultPriority, PriorityBits, DiffX, DiffY, DiffZ, PosX, PosY, PosZ}
use Rattle.sources.specs.declared.Field.TheVariants.{DistanceSpecified, AtInfinity, DistanceIdx, ZoneIdx, Elevation, SizeIdx, SizeBits, Width, Depth, Height}
use Rattle.sources.specs.declared.Field.TheVariants.{ScreenRef, ScreenFactor, DepthIdx, Snap, ObjectDivergence, DivMode, DivTable, DivCode, Presence}
use Rattle.sources.specs.declared.Field.TheVariants.{PreciseX, PreciseY, PreciseZ}

-- the coordinates as sent, absolute or as differences
abbrev pub coded_x : Position → ℕ
coded_x (Absolute x y sign z) = x
coded_x (Moved x y z) = x

abbrev pub coded_y : Position → ℕ
coded_y (Absolute x y sign z) = y
coded_y (Moved x y z) = y

abbrev pub coded_z : Position → ℕ
coded_z (Absolute x y sign z) = z
coded_z (Moved x y z) = z

-- the sign that stands before z; differences have none
abbrev pub coded_sign : Position → ℕ
coded_sign (Absolute x y sign z) = sign
coded_sign (Moved x y z) = 0

-- of every field, 0 where it is not sent; a block has b_object_not_active as its opposite, and one number for the table and the code of a divergence
abbrev pub coded_value : Field → Block → Divergence → Precise → ℕ
coded_value NotActive b d p = 1 - b.active
coded_value GainIdx b d p = b.basic.gain.index
coded_value GainBits b d p = b.basic.gain.bits
coded_value DefaultPriority b d p = b.basic.priority.bydefault
coded_value PriorityBits b d p = b.basic.priority.bits
coded_value DiffX b d p = coded_x b.render.position
coded_value DiffY b d p = coded_y b.render.position
coded_value DiffZ b d p = coded_z b.render.position
coded_value PosX b d p = coded_x b.render.position
coded_value PosY b d p = coded_y b.render.position
coded_value PosZ b d p = coded_z b.render.position
coded_value DistanceSpecified b d p = b.render.distance.given
coded_value AtInfinity b d p = b.render.distance.infinite
coded_value DistanceIdx b d p = b.render.distance.index
coded_value ZoneIdx b d p = b.render.zone.index
coded_value Elevation b d p = b.render.zone.elevation
coded_value SizeIdx b d p = b.render.extent.index
coded_value SizeBits b d p = b.render.extent.all
coded_value Width b d p = b.render.extent.width
coded_value Depth b d p = b.render.extent.depth
coded_value Height b d p = b.render.extent.height
coded_value ScreenRef b d p = b.render.screen.used
coded_value ScreenFactor b d p = b.render.screen.factor
coded_value DepthIdx b d p = b.render.screen.depth
coded_value Snap b d p = b.render.snap
coded_value ObjectDivergence b d p = d.used
coded_value DivMode b d p = d.mode
coded_value DivTable b d p = d.value
coded_value DivCode b d p = d.value
coded_value Presence b d p = p.presence
coded_value PreciseX b d p = p.x
coded_value PreciseY b d p = p.y
coded_value PreciseZ b d p = p.z

-- Coded fields such as a reader gives: each in the range of its field, 0 where it is not carried, and not reserved.
use Rattle.std.specs.Prelude.{Bool, eqb}
use Rattle.bits.specs.Language.{between}
use Rattle.oamd.specs.declared.Offset.{Offset}
use Rattle.oamd.specs.declared.BlockUpdate.{BlockUpdate}
use Rattle.oamd.specs.declared.Gain.{Gain}
use Rattle.oamd.specs.declared.Priority.{Priority}
use Rattle.oamd.specs.declared.Distance.{Distance}
use Rattle.oamd.specs.declared.Extent.{Extent}
use Rattle.oamd.specs.Programme.{set?, clear?}
use Rattle.form.specs.Valid.{◌and◌, between_if}

-- Table 22
unfoldable pub offset_codable : Offset → Bool
offset_codable o = between 0 2 o.code and between_if (eqb o.code 1) 0 3 o.index and between_if (eqb o.code 2) 0 31 o.bits

-- Tables 24 and 25
unfoldable pub update_codable : BlockUpdate → Bool
update_codable u =
    between 0 63 u.factor
    and between 0 3 u.code
    and between_if (eqb u.code 3) 0 1 u.indexed
    and between_if (set? u.indexed) 0 15 u.index
    and between_if (eqb u.code 3 and clear? u.indexed) 0 2047 u.bits

-- Table 18
unfoldable pub gain_codable : Gain → Bool
gain_codable g = between 0 3 g.index and between_if (eqb g.index 2) 0 63 g.bits

-- 5.6.1.3
unfoldable pub priority_codable : Priority → Bool
priority_codable p = between 0 1 p.bydefault and between_if (clear? p.bydefault) 0 31 p.bits

-- 5.6.1.1.15 to 5.6.1.1.17
unfoldable pub distance_codable : Distance → Bool
distance_codable d =
    between 0 1 d.given
    and between_if (set? d.given) 0 1 d.infinite
    and between_if (set? d.given and clear? d.infinite) 0 15 d.index

-- Table 17
unfoldable pub extent_codable : Extent → Bool
extent_codable e =
    between 0 2 e.index
    and between_if (eqb e.index 1) 0 31 e.all
    and between_if (eqb e.index 2) 0 31 e.width
    and between_if (eqb e.index 2) 0 31 e.depth
    and between_if (eqb e.index 2) 0 31 e.height

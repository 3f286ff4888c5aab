-- The offset of a field by its line in numbers. Assumes nothing.
use mathlib.Core.Path.{◌≡◌, refl, sym, ap, ◌∙◌}
use mathlib.Core.Bool.{Bool, true, false, ◌||◌}
use Rattle.bits.specs.Language.{pick}
use mathlib.Core.List.{◌∷◌, []}
use Prim.Native.Nat.{ℕ, ◌+◌}
use native.Mathlib.Omega.{arith}
use lib.ListN.{get_or, take}
use Rattle.oamd.specs.declared.Block.{Block}
use Rattle.oamd.specs.declared.Divergence.{Divergence}
use Rattle.oamd.specs.declared.Precise.{Precise}
use Rattle.sources.specs.declared.Field.{Field}
use Rattle.sources.specs.declared.Field.TheVariants.{NotActive, GainIdx, GainBits, DefaultPriority, PriorityBits, DiffX, DiffY, DiffZ, PosX, PosY, PosZ}
use Rattle.sources.specs.declared.Field.TheVariants.{DistanceSpecified, AtInfinity, DistanceIdx, ZoneIdx, Elevation, SizeIdx, SizeBits, Width, Depth, Height}
use Rattle.sources.specs.declared.Field.TheVariants.{ScreenRef, ScreenFactor, DepthIdx, Snap, ObjectDivergence, DivMode, DivTable, DivCode, Presence}
use Rattle.sources.specs.declared.Field.TheVariants.{PreciseX, PreciseY, PreciseZ}
use Rattle.sources.specs.declared.Spot.{Spot}
use Rattle.sources.specs.declared.Spot.TheVariants.{InBlock, InBasic, InRender, InDivergence, InPrecise}
use Rattle.sources.specs.Offsets.{no_more, span, offset_at, status_lines, basic_idle, render_idle, basic_lines, distance_lines, zone_lines, extent_lines, screen_lines, render_lines}
use Rattle.sources.specs.Offsets.{block_lines, divergence_lines, precise_lines, offset_in, offset_in_divergence, offset_in_precise, sum_to, span_to, spot_of}

-- before object_basic_info; before object_render_info
abbrev pub basic_at : Bool → Block → ℕ
basic_at begins b = 1 + span (status_lines (basic_idle b) begins 0)

abbrev pub render_at : Bool → Block → ℕ
render_at begins b = basic_at begins b + span_to 5 (basic_lines b.basic) + span (status_lines (render_idle b) begins 0)

abbrev pub in_block : Spot → Bool → Block → ℕ
in_block InBlock begins b = 0
in_block (InBasic line) begins b = basic_at begins b + span_to line (basic_lines b.basic)
in_block (InRender group line) begins b =
    render_at begins b + span_to group (take 6 (render_lines begins 0 b.render)) + offset_at (line ∷ []) (get_or (render_lines begins 0 b.render) group no_more)
in_block (InDivergence line) begins b = 0
in_block (InPrecise line) begins b = 0

in-block : (f : Field) (begins : Bool) (b : Block) → in_block (spot_of f) begins b ≡ offset_in f begins b
unfolding offset_in offset_at block_lines span sum_to basic_lines render_lines distance_lines zone_lines extent_lines screen_lines
in-block NotActive begins b = refl
in-block GainIdx begins b = omega arith
in-block GainBits begins b = omega arith
in-block DefaultPriority begins b = omega arith
in-block PriorityBits begins b = omega arith
in-block DiffX begins b = omega arith
in-block DiffY begins b = omega arith
in-block DiffZ begins b = omega arith
in-block PosX begins b = omega arith
in-block PosY begins b = omega arith
in-block PosZ begins b = omega arith
in-block DistanceSpecified begins b = omega arith
in-block AtInfinity begins b = omega arith
in-block DistanceIdx begins b = omega arith
in-block ZoneIdx begins b = omega arith
in-block Elevation begins b = omega arith
in-block SizeIdx begins b = omega arith
in-block SizeBits begins b = omega arith
in-block Width begins b = omega arith
in-block Depth begins b = omega arith
in-block Height begins b = omega arith
in-block ScreenRef begins b = omega arith
in-block ScreenFactor begins b = omega arith
in-block DepthIdx begins b = omega arith
in-block Snap begins b = omega arith
in-block ObjectDivergence begins b = refl
in-block DivMode begins b = refl
in-block DivTable begins b = refl
in-block DivCode begins b = refl
in-block Presence begins b = refl
in-block PreciseX begins b = refl
in-block PreciseY begins b = refl
in-block PreciseZ begins b = refl

abbrev pub in_div : Spot → Divergence → ℕ
in_div InBlock d = 0
in_div (InBasic line) d = 0
in_div (InRender group line) d = 0
in_div (InDivergence line) d = span_to line (divergence_lines d 0 0)
in_div (InPrecise line) d = 0

abbrev pub in_prec : Spot → Precise → ℕ
in_prec InBlock p = 0
in_prec (InBasic line) p = 0
in_prec (InRender group line) p = 0
in_prec (InDivergence line) p = 0
in_prec (InPrecise line) p = span_to line (precise_lines p)

in-divergence : (f : Field) (d : Divergence) → in_div (spot_of f) d ≡ offset_in_divergence f d
unfolding offset_in_divergence offset_at span sum_to divergence_lines
in-divergence NotActive d = refl
in-divergence GainIdx d = refl
in-divergence GainBits d = refl
in-divergence DefaultPriority d = refl
in-divergence PriorityBits d = refl
in-divergence DiffX d = refl
in-divergence DiffY d = refl
in-divergence DiffZ d = refl
in-divergence PosX d = refl
in-divergence PosY d = refl
in-divergence PosZ d = refl
in-divergence DistanceSpecified d = refl
in-divergence AtInfinity d = refl
in-divergence DistanceIdx d = refl
in-divergence ZoneIdx d = refl
in-divergence Elevation d = refl
in-divergence SizeIdx d = refl
in-divergence SizeBits d = refl
in-divergence Width d = refl
in-divergence Depth d = refl
in-divergence Height d = refl
in-divergence ScreenRef d = refl
in-divergence ScreenFactor d = refl
in-divergence DepthIdx d = refl
in-divergence Snap d = refl
in-divergence ObjectDivergence d = refl
in-divergence DivMode d = refl
in-divergence DivTable d = refl
in-divergence DivCode d = refl
in-divergence Presence d = refl
in-divergence PreciseX d = refl
in-divergence PreciseY d = refl
in-divergence PreciseZ d = refl

in-precise : (f : Field) (p : Precise) → in_prec (spot_of f) p ≡ offset_in_precise f p
unfolding offset_in_precise offset_at span sum_to precise_lines
in-precise NotActive p = refl
in-precise GainIdx p = refl
in-precise GainBits p = refl
in-precise DefaultPriority p = refl
in-precise PriorityBits p = refl
in-precise DiffX p = refl
in-precise DiffY p = refl
in-precise DiffZ p = refl
in-precise PosX p = refl
in-precise PosY p = refl
in-precise PosZ p = refl
in-precise DistanceSpecified p = refl
in-precise AtInfinity p = refl
in-precise DistanceIdx p = refl
in-precise ZoneIdx p = refl
in-precise Elevation p = refl
in-precise SizeIdx p = refl
in-precise SizeBits p = refl
in-precise Width p = refl
in-precise Depth p = refl
in-precise Height p = refl
in-precise ScreenRef p = refl
in-precise ScreenFactor p = refl
in-precise DepthIdx p = refl
in-precise Snap p = refl
in-precise ObjectDivergence p = refl
in-precise DivMode p = refl
in-precise DivTable p = refl
in-precise DivCode p = refl
in-precise Presence p = refl
in-precise PreciseX p = refl
in-precise PreciseY p = refl
in-precise PreciseZ p = refl

-- as the code tells that nothing is sent in object_render_info
pub either-is : (a b : Bool) → (a || b) ≡ pick a true b
either-is true b = refl
either-is false b = refl

-- by what the code found the line to be, k, and by what stands before it there
pub of-block : {s k : Spot} (f : Field) → s ≡ spot_of f → s ≡ k → (begins : Bool) (b : Block) → in_block k begins b ≡ offset_in f begins b
of-block f e is begins b = ap (λ (x : Spot). in_block x begins b) (sym is ∙ e) ∙ in-block f begins b

pub of-divergence : {s k : Spot} (f : Field) → s ≡ spot_of f → s ≡ k → (d : Divergence) → in_div k d ≡ offset_in_divergence f d
of-divergence f e is d = ap (λ (x : Spot). in_div x d) (sym is ∙ e) ∙ in-divergence f d

pub of-precise : {s k : Spot} (f : Field) → s ≡ spot_of f → s ≡ k → (p : Precise) → in_prec k p ≡ offset_in_precise f p
of-precise f e is p = ap (λ (x : Spot). in_prec x p) (sym is ∙ e) ∙ in-precise f p

-- a line of another clause
pub no-block : (s : Spot) (begins : Bool) (b : Block) → ((line : ℕ) → s ≡ InBasic line → ⊥) → ((group line : ℕ) → s ≡ InRender group line → ⊥) → 0 ≡ in_block s begins b
no-block InBlock begins b x y = refl
no-block (InBasic line) begins b x y = absurd (x line refl)
no-block (InRender group line) begins b x y = absurd (y group line refl)
no-block (InDivergence line) begins b x y = refl
no-block (InPrecise line) begins b x y = refl

pub no_divergence : (s : Spot) (d : Divergence) → ((line : ℕ) → s ≡ InDivergence line → ⊥) → 0 ≡ in_div s d
no_divergence InBlock d x = refl
no_divergence (InBasic line) d x = refl
no_divergence (InRender group line) d x = refl
no_divergence (InDivergence line) d x = absurd (x line refl)
no_divergence (InPrecise line) d x = refl

pub no-precise : (s : Spot) (p : Precise) → ((line : ℕ) → s ≡ InPrecise line → ⊥) → 0 ≡ in_prec s p
no-precise InBlock p x = refl
no-precise (InBasic line) p x = refl
no-precise (InRender group line) p x = refl
no-precise (InDivergence line) p x = refl
no-precise (InPrecise line) p x = absurd (x line refl)

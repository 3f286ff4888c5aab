-- The reserved values by the table of the standard and by the test of the readers.
use Rattle.std.specs.Prelude.{◌≡◌, refl, Bool, true, false, ℕ, zero, suc, ◌+◌, ◌-◌, ◌≤◌, ◌<◌, leb}
use Rattle.std.proofs.Common.{sym, subst, inl, inr, arith, leb-true, le-leb}
use Rattle.std.proofs.lemmas.Bool.{false≢true}
use Rattle.bits.specs.Language.{both, from}
use Rattle.bits.specs.Steps.{by_order}
use Rattle.oamd.specs.Reserved.{Field, IntermediateSpatialFormatIdx, SampleOffsetCode, ZoneConstraintsIdx, ObjectSizeIdx, WarpMode, GlobalTrimMode, TrimSurround, TrimHeight}
use Rattle.oamd.specs.Reserved.{ObjectDivMode, ObjectDivCode, width_of, first_reserved, last_reserved, is_reserved}
use Rattle.demands.specs.Stops.{OneOf, bits_in, reserved_values}

-- one of the n numbers from i on
one_from : (v i n : ℕ) → OneOf v (from i n) → (i ≤ v) × (v < i + n)
unfolding from
one_from v i zero h = absurd h
one_from v i (suc n) (inl h) = omega arith
one_from v i (suc n) (inr h) = let x = one_from v (suc i) n h in omega arith

from_one : (v i n : ℕ) → i ≤ v → v < i + n → OneOf v (from i n)
unfolding from
from_one v i zero l g = omega arith
from_one v i (suc n) l g = by_order v i (λ h. inl (omega arith)) (λ h. inr (from_one v (suc i) n h (omega arith)))

-- the values are those from the first to the last
values : (f : Field) → reserved_values f ≡ from (first_reserved f) (suc (last_reserved f) - first_reserved f)
unfolding from
values IntermediateSpatialFormatIdx = refl
values SampleOffsetCode = refl
values ZoneConstraintsIdx = refl
values ObjectSizeIdx = refl
values WarpMode = refl
values GlobalTrimMode = refl
values TrimSurround = refl
values TrimHeight = refl
values ObjectDivMode = refl
values ObjectDivCode = refl

pub widths : (f : Field) → width_of f ≡ bits_in f
widths IntermediateSpatialFormatIdx = refl
widths SampleOffsetCode = refl
widths ZoneConstraintsIdx = refl
widths ObjectSizeIdx = refl
widths WarpMode = refl
widths GlobalTrimMode = refl
widths TrimSurround = refl
widths TrimHeight = refl
widths ObjectDivMode = refl
widths ObjectDivCode = refl

both_true : (s t : Bool) → both s t ≡ true → (s ≡ true) × (t ≡ true)
both_true true t h = (refl, h)
both_true false t h = absurd (false≢true h)

-- a value that the readers refuse is one of the table's
pub in_table : (f : Field) (v : ℕ) → is_reserved f v ≡ true → OneOf v (reserved_values f)
in_table f v h =
    let x = both_true (leb (first_reserved f) v) (leb v (last_reserved f)) h in
    let low = leb-true (first_reserved f) v x.0 in
    let high = leb-true v (last_reserved f) x.1 in
    subst (OneOf v) (sym (values f)) (from_one v (first_reserved f) (suc (last_reserved f) - first_reserved f) low (omega arith))

-- and back
pub by-test : (f : Field) (v : ℕ) → OneOf v (reserved_values f) → is_reserved f v ≡ true
by-test f v h =
    let x = one_from v (first_reserved f) (suc (last_reserved f) - first_reserved f) (subst (OneOf v) (values f) h) in
    rw (le-leb (first_reserved f) v x.0, le-leb v (last_reserved f) (omega arith))

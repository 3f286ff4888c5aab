-- A group as one number of one width, chosen by tests: its bits are those of the fields that the definition has one by one. Assumes nothing.
use mathlib.Core.Path.{◌≡◌, refl, ap, ap₂, ◌∙◌}
use mathlib.Core.Bool.{Bool, true, false}
use mathlib.Core.List.{List, ◌∷◌, ◌++◌}
use Prim.Native.Nat.{ℕ, suc, ◌+◌, ◌-◌, ◌*◌, ◌%◌, ◌^◌}
use native.Mathlib.Nat.{mod-lt, div-eq_of_lt, pow-suc}
use native.Mathlib.Omega.{arith}
use lib.Dec.{T, leb, ltb, eqb, lit≤, lit<}
use lib.Pow.{pow_pos}
use borrow.Author.Tests.{eqb-true}
use Rattle.bits.specs.Language.{pick, both, as_flag}
use Rattle.bits.specs.Writes.{to_bits, only}
use Rattle.oamd.specs.declared.Location.{Location}
use Rattle.oamd.specs.declared.Volume.{Volume}
use Rattle.oamd.specs.declared.Screen.{Screen}
use Rattle.form.specs.Coded.{gain_index, coded_gain, coded_priority, z_sign, z_bits, coded_distance, size_index, coded_extent}
use Rattle.form.specs.Form.{gain_bits, priority_bits, position_bits, distance_bits, extent_bits, screen_bits}
use Rattle.coding.specs.declared.Packed.{Packed}
use Rattle.coding.specs.Packing.{Packs, PacksIn, Room, Whole, Behind}
use Rattle.coding.proofs.Joins.{joined-bits, joined_small, same_bits}

-- w bits of v
abbrev pub packed : ℕ → ℕ → Packed
packed w v = record { width = record { 0 = w }; value = v }

-- what `either` asks of such a group, and what it gives
module _ {i j w v : ℕ} {l : List ℕ} {p : Packed} where
  pub room_for : PacksIn (suc i) j (packed w v) l → Room j p → Whole w v p
  room_for g h = record { room = record { some = omega (arith, g.least); fits = omega (arith, g.most, h.fits); small = h.small }; all = g.packs.small }

  pub group-behind : {r : Packed} → PacksIn i j (packed w v) l → Behind w w p r (to_bits w v) → Behind i j p r l
  group-behind g h = record {
    same = h.same ∙ ap (λ (x : List ℕ). to_bits p.width.0 p.value ++ x) g.packs.same;
    small = h.small;
    least = omega (arith, g.least, h.least);
    most = omega (arith, g.most, h.most);
  }

-- ---- one number out of fields

-- the low bits of v
field : (w v : ℕ) → Packs (packed w (v % 2 ^ w)) (to_bits w v)
field w v = record { same = same_bits w v; small = mod-lt v (pow_pos w) }

-- and behind a number those of another
beside : {w u : ℕ} {l : List ℕ} (n v : ℕ) → Packs (packed w u) l → Packs (packed (w + n) (u * 2 ^ n + v % 2 ^ n)) (l ++ to_bits n v)
beside {w} {u} n v h = record {
  same = joined-bits w n u (v % 2 ^ n) h.small (mod-lt v (pow_pos n)) ∙ ap₂ ◌++◌ h.same (same_bits n v);
  small = joined_small w n u (v % 2 ^ n) h.small (mod-lt v (pow_pos n));
}

-- a number that is written in the code
known : (w v : ℕ) → T (ltb v (2 ^ w)) → Packs (packed w v) (to_bits w v)
known w v h = record { same = refl; small = lit< h }

-- and a 0 in front
led : {w v : ℕ} {l : List ℕ} → Packs (packed w v) l → Packs (packed (suc w) v) (0 ∷ l)
unfolding to_bits
led {w} {v} h = record {
  same = ap₂ ◌∷◌ (ap (λ (n : ℕ). n % 2) (div-eq_of_lt h.small)) h.same;
  small = rw (pow-suc 2 w) (omega (arith, h.small));
}

-- within bounds
within : {i j w v : ℕ} {l : List ℕ} → Packs (packed w v) l → T (leb i w) → T (leb w j) → PacksIn i j (packed w v) l
within h least most = record { packs = h; least = lit≤ least; most = lit≤ most }

-- ---- the groups, by the tests and values of the code

gain_by : (level mute up : Bool) (v : ℕ)
    → PacksIn 2 8 (packed (pick level 2 (pick mute 2 8)) (pick level 0 (pick mute 1 (128 + (pick up 65 64 - v) % 64))))
    (gain_bits (record {
      index = pick level 0 (pick mute 1 2);
      bits = pick (eqb (pick level 0 (pick mute 1 2)) 2) (pick up (65 - v) (64 - v)) 0;
    }))
unfolding gain_bits to_bits
gain_by true mute up v = within (known 2 0 tt) tt tt
gain_by false true up v = within (known 2 1 tt) tt tt
gain_by false false true v = within (beside 6 (65 - v) (known 2 2 tt)) tt tt
gain_by false false false v = within (beside 6 (64 - v) (known 2 2 tt)) tt tt

pub gain_is : (v : ℕ) {most below width value : ℕ} → most ≡ pick (ltb 50 v) 65 64 → below ≡ most - v → width ≡ pick (eqb v 0) 2 8
    → value ≡ pick (eqb v 0) 1 (128 + below % 64) → PacksIn 2 8 (packed (pick (eqb v 50) 2 width) (pick (eqb v 50) 0 value)) (gain_bits (coded_gain v))
unfolding coded_gain gain_index
gain_is v e f g h = rw (h, g, f, e) (gain_by (eqb v 50) (eqb v 0) (ltb 50 v) v)

priority_by : (on : Bool) (v : ℕ) → PacksIn 1 6 (packed (pick on 1 6) (pick on 1 (v % 32))) (priority_bits (record { bydefault = as_flag on; bits = pick on 0 v }))
unfolding priority_bits to_bits
priority_by true v = within (known 1 1 tt) tt tt
priority_by false v = within (led (field 5 v)) tt tt

pub priority_is : (v : ℕ) → PacksIn 1 6 (packed (pick (eqb v 32) 1 6) (pick (eqb v 32) 1 (v % 32))) (priority_bits (coded_priority v))
unfolding coded_priority
priority_is v = priority_by (eqb v 32) v

-- x, y, sign and size, as one number
abbrev placed : ℕ → ℕ → ℕ → ℕ → ℕ
placed x y sign size = ((x % 64 * 64 + y % 64) * 2 + sign % 2) * 16 + size % 16

pub position_is : (first : Bool) (l : Location) {sign size : ℕ} → sign ≡ z_sign l.z → size ≡ z_bits l.z
    → PacksIn 17 18 (packed (pick first 17 18) (pick first (placed l.x l.y sign size) (placed l.x l.y sign size))) (position_bits first l)
unfolding position_bits to_bits
position_is true l {sign} {size} e f = rw (← e, ← f) (within (beside 4 size (beside 1 sign (beside 6 l.y (field 6 l.x)))) tt tt)
position_is false l {sign} {size} e f = rw (← e, ← f) (within (led (beside 4 size (beside 1 sign (beside 6 l.y (field 6 l.x))))) tt tt)

distance_by : (given far : Bool) (n : ℕ)
    → PacksIn 1 6 (packed (pick given (pick far 2 6) 1) (pick given (pick far 3 (32 + n % 16)) 0))
    (distance_bits (record { given = as_flag given; infinite = as_flag far; index = n }))
unfolding distance_bits to_bits
distance_by true true n = within (known 2 3 tt) tt tt
distance_by true false n = within (beside 4 n (known 2 2 tt)) tt tt
distance_by false far n = within (known 1 0 tt) tt tt

pub distance_is : (v : ℕ) {index width value : ℕ} → index ≡ v - 2 → width ≡ pick (eqb v 1) 2 6 → value ≡ pick (eqb v 1) 3 (32 + index % 16)
    → PacksIn 1 6 (packed (pick (ltb 0 v) width 1) (pick (ltb 0 v) value 0)) (distance_bits (coded_distance v))
unfolding coded_distance
distance_is v e f g = rw (g, f, e) (distance_by (ltb 0 v) (eqb v 1) (v - 2))

-- three sizes behind index 2, as one number
abbrev sized : Volume → ℕ
sized v = ((64 + v.width % 32) * 32 + v.depth % 32) * 32 + v.height % 32

extent_by : (even none : Bool) (v : Volume) {index : ℕ} → index ≡ pick even (pick none 0 1) 2
    → PacksIn 2 22 (packed (pick even (pick none 2 7) 17) (pick even (pick none 0 (32 + v.width % 32)) (sized v)))
    (extent_bits (record {
      index = index;
      all = pick (eqb index 1) v.width 0;
      width = pick (eqb index 2) v.width 0;
      depth = pick (eqb index 2) v.depth 0;
      height = pick (eqb index 2) v.height 0;
    }))
unfolding extent_bits to_bits
extent_by true true v e = rw e (within (known 2 0 tt) tt tt)
extent_by true false v e = rw e (within (beside 5 v.width (known 2 1 tt)) tt tt)
extent_by false none v e = rw e (within (beside 5 v.height (beside 5 v.depth (beside 5 v.width (known 2 2 tt)))) tt tt)

pub extent_is : (v : Volume) {even : Bool} {width value : ℕ} → even ≡ both (eqb v.width v.depth) (eqb v.width v.height)
    → width ≡ pick (eqb v.width 0) 2 7 → value ≡ pick (eqb v.width 0) 0 (32 + v.width % 32)
    → PacksIn 2 22 (packed (pick even width 17) (pick even value (sized v))) (extent_bits (coded_extent v))
unfolding coded_extent size_index
extent_is v e f g = rw (g, f, e) (extent_by (both (eqb v.width v.depth) (eqb v.width v.height)) (eqb v.width 0) v refl)

screen_by : (on : Bool) (s : Screen) → eqb s.used 1 ≡ on
    → PacksIn 1 6 (packed (pick on 6 1) (pick on ((8 + s.factor % 8) * 4 + s.depth % 4) (s.used % 2)))
    (to_bits 1 s.used ++ (only on (to_bits 3 s.factor) ++ only on (to_bits 2 s.depth)))
unfolding to_bits
screen_by true s e = rw (eqb-true s.used 1 e) (within (beside 2 s.depth (beside 3 s.factor (known 1 1 tt))) tt tt)
screen_by false s e = within (field 1 s.used) tt tt

pub screen_is : (s : Screen)
    → PacksIn 1 6 (packed (pick (eqb s.used 1) 6 1) (pick (eqb s.used 1) ((8 + s.factor % 8) * 4 + s.depth % 4) (s.used % 2))) (screen_bits s)
unfolding screen_bits
screen_is s = screen_by (eqb s.used 1) s refl

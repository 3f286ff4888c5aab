-- Widths in a row, and how far a line of them lies behind the first. Assumes nothing.
use mathlib.Core.Path.{◌≡◌, refl, sym, ap, ◌∙◌}
use mathlib.Core.Bool.{Bool, true, false}
use mathlib.Core.List.{List, [], ◌∷◌, map}
use Prim.Native.Nat.{ℕ, zero, suc, ◌+◌, ◌≤◌}
use native.Mathlib.Omega.{arith}
use lib.ListN.{length, get_or, take}
use Rattle.std.specs.Prelude.{sum}
use Rattle.std.proofs.lemmas.List.Sums.{sum_by-cons}
use lib.Dec.{lit≤}
use Rattle.oamd.specs.declared.Position.{Position}
use Rattle.oamd.specs.declared.Position.TheVariants.{Absolute, Moved}
use Rattle.oamd.specs.declared.Render.{Render}
use Rattle.bits.specs.Language.{pick}
use Rattle.oamd.specs.Block.{has_position, has_zone, has_size, has_screen}
use Rattle.sources.specs.Offsets.{Lines, no_more, span, offset_at, in_row, is_mixed, position_lines, distance_lines, zone_lines, extent_lines, screen_lines}
use Rattle.sources.specs.Offsets.{render_lines, sum_to, span_to}

-- ---- sums

-- as the code has them: the first n of them
pub sum-to : (n : ℕ) (ws : List ℕ) → sum_to n ws ≡ sum (take n ws)
unfolding sum_to
sum-to zero ws = refl
sum-to (suc n) [] = refl
sum-to (suc n) (w ∷ ws) = ap (λ (x : ℕ). w + x) (sum-to n ws) ∙ sym (sum_by-cons (λ x. x) w (take n ws))

-- ---- lines

pub row-offset : (n : ℕ) (ls : List Lines) → offset_at (n ∷ []) (in_row ls) ≡ span_to n ls
unfolding offset_at sum_to
row-offset zero [] = refl
row-offset zero (l ∷ ls) = refl
row-offset (suc n) [] = refl
row-offset (suc n) (l ∷ ls) = ap (λ (x : ℕ). span l + x) (row-offset n ls)

-- past the last line, the width of all
pub whole : (n : ℕ) (ls : List Lines) → length ls ≤ n → offset_at (n ∷ []) (in_row ls) ≡ span (in_row ls)
unfolding offset_at span
whole zero [] h = refl
whole (suc n) [] h = refl
whole zero (l ∷ ls) h = absurd (omega arith)
whole (suc n) (l ∷ ls) h = ap (λ (x : ℕ). span l + x) (whole n ls (omega arith))

-- ---- object_render_info

position-length : (on begins : Bool) (p : Position) → length (position_lines on begins 0 p) ≤ 5
unfolding position_lines
position-length false begins p = lit≤ tt
position-length true begins (Absolute x y sign z) = lit≤ tt
position-length true begins (Moved x y z) = lit≤ tt

-- the parts and five groups: each group past its last line
pub groups : (begins : Bool) (n : Render) → (parts position distance zone extent screen : ℕ) → parts ≡ pick (is_mixed n.status) 4 0
    → position ≡ offset_at (5 ∷ []) (get_or (render_lines begins 0 n) 1 no_more) → distance ≡ offset_at (3 ∷ []) (get_or (render_lines begins 0 n) 2 no_more)
    → zone ≡ offset_at (2 ∷ []) (get_or (render_lines begins 0 n) 3 no_more) → extent ≡ offset_at (5 ∷ []) (get_or (render_lines begins 0 n) 4 no_more)
    → screen ≡ offset_at (3 ∷ []) (get_or (render_lines begins 0 n) 5 no_more)
    → parts ∷ position ∷ distance ∷ zone ∷ extent ∷ screen ∷ [] ≡ map span (take 6 (render_lines begins 0 n))
unfolding span render_lines distance_lines zone_lines extent_lines screen_lines
groups begins n parts position distance zone extent screen p q d z e s =
    let on = has_position n.parts in
    rw (p, q ∙ whole 5 (position_lines on begins 0 n.position) (position-length on begins n.position))
    (rw (d ∙ whole 3 (distance_lines on n.distance) (lit≤ tt), z ∙ whole 2 (zone_lines (has_zone n.parts) n.zone) (lit≤ tt))
    (rw (e ∙ whole 5 (extent_lines (has_size n.parts) n.extent) (lit≤ tt), s ∙ whole 3 (screen_lines (has_screen n.parts) n.screen) (lit≤ tt))))

-- the lines that are no group hold no line
pub no-group : (begins : Bool) (n : Render) (group line : ℕ) → (group ≡ 1 → ⊥) → (group ≡ 2 → ⊥) → (group ≡ 3 → ⊥) → (group ≡ 4 → ⊥) → (group ≡ 5 → ⊥)
    → 0 ≡ offset_at (line ∷ []) (get_or (render_lines begins 0 n) group no_more)
unfolding render_lines offset_at
no-group begins n zero line a b c d e = refl
no-group begins n (suc zero) line a b c d e = absurd (a refl)
no-group begins n (suc (suc zero)) line a b c d e = absurd (b refl)
no-group begins n (suc (suc (suc zero))) line a b c d e = absurd (c refl)
no-group begins n (suc (suc (suc (suc zero)))) line a b c d e = absurd (d refl)
no-group begins n (suc (suc (suc (suc (suc zero))))) line a b c d e = absurd (e refl)
no-group begins n (suc (suc (suc (suc (suc (suc zero)))))) line a b c d e = refl
no-group begins n (suc (suc (suc (suc (suc (suc (suc k))))))) line a b c d e = refl

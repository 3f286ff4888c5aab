-- A record whose render info is sent: the limits of its bytes, held all at once, and what they do not tell are together the whole test. Assumes nothing.
use mathlib.Core.Path.{◌≡◌, refl, sym, ◌∙◌}
use mathlib.Core.Bool.{Bool, true, false, true≢false, ◌&&◌, ◌||◌}
use Prim.Native.Nat.{ℕ, ◌-◌, ◌<◌}
use native.Mathlib.Omega.{arith}
use lib.Bits.{bit_or, or_zero_l, or_add_and, and_le_r}
use lib.Dec.{leb, eqb, leb-zero}
use borrow.Author.Tests.{eqb-true, eq-eqb, ne_eqb, le-leb, lt-leb}
use Rattle.bits.specs.Language.{pick, both, between}
use Rattle.bits.specs.Steps.{by_order}
use Rattle.oamd.specs.declared.Divergence.{Divergence}
use Rattle.oamd.specs.declared.Screen.{Screen}
use Rattle.oamd.specs.Record.{Record, carries}
use Rattle.oamd.specs.Programme.{set?, dynamic_class}
use Rattle.form.specs.Valid.{between_if, location_valid, volume_valid, zone_valid, screen_valid, scene_valid, divergence_valid, precise_valid, record_valid}
use Rattle.valid.specs.Parts.{within_limits}
use Rattle.valid.proofs.Entries.{both-assoc, both_true}

-- ---- what `|` and a difference tell

-- a number is 0, or is told from 0
pub by_zero : {P : Type 0} (v : ℕ) → (v ≡ 0 → P) → (0 < v → eqb v 0 ≡ false → P) → P
by_zero v f g = by_order v 0 (λ h. f (omega arith)) (λ h. g h (ne_eqb v 0 (λ e. omega arith)))

-- no bit of either is set
pub or-zero : (a b : ℕ) → eqb (bit_or a b) 0 ≡ both (eqb a 0) (eqb b 0)
or-zero a b = by_zero a (λ e. rw (e, or_zero_l b)) (λ h e. rw (e, ne_eqb (bit_or a b) 0 (λ z. omega (arith, or_add_and a b, and_le_r a b))))

-- nothing too much
pub under : (v most : ℕ) → eqb (v - most) 0 ≡ leb v most
under v most = by_order v most
    (λ h. rw (le-leb v most h) (eq-eqb (v - most) 0 (omega arith)))
    (λ h. rw (lt-leb v most h) (ne_eqb (v - most) 0 (λ e. omega arith)))

-- no bit of three
pub or-zeros : (a b c : ℕ) → eqb (bit_or (bit_or a b) c) 0 ≡ both (eqb a 0) (both (eqb b 0) (eqb c 0))
or-zeros a b c = rw (or-zero (bit_or a b) c, or-zero a b) (both-assoc (eqb a 0) (eqb b 0) (eqb c 0))

-- beside the test that m is 0, nothing else is asked of m
pub at_zero : (f : ℕ → Bool) (m : ℕ) → both (eqb m 0) (f m) ≡ both (eqb m 0) (f 0)
at_zero f m = by_zero m (λ e. rw e) (λ h e. rw e)

-- a screen that is not sent
pub screen-unsent : (n : Screen) → eqb (bit_or (bit_or n.used n.factor) n.depth) 0 ≡ screen_valid false n
unfolding screen_valid between_if
screen-unsent n =
    or-zeros n.used n.factor n.depth
    ∙ sym (at_zero (λ used. both (between_if (set? used) 0 7 n.factor) (between_if (set? used) 0 3 n.depth)) n.used)

-- ---- a test is a limit, and what hangs beside it

record Split (test limit rest : Bool) : Type 0 where
  same : test ≡ both limit rest

pub both_false : (b : Bool) → both b false ≡ false
both_false true = refl
both_false false = refl

swapped : (a b : Bool) → both a b ≡ both b a
swapped true b = sym (both_true b)
swapped false b = sym (both_false b)

-- of two tests: their limits together, and what hangs beside them together
exchanged : (u h v k : Bool) → both (both u h) (both v k) ≡ both (both u v) (both h k)
exchanged true h true k = refl
exchanged true h false k = both_false h
exchanged false h v k = refl

infixr 20 ◌⊗◌
◌⊗◌ : {s t u v h k : Bool} → Split s u h → Split t v k → Split (both s t) (both u v) (both h k)
◌⊗◌ {u = u} {v} {h} {k} f g = record { same = rw (f.same, g.same) (exchanged u h v k) }

ranged : (low high v : ℕ) → Split (between low high v) (leb v high) (leb low v)
ranged low high v = record { same = swapped (leb low v) (leb v high) }

limited : (high v : ℕ) → Split (between 0 high v) (leb v high) true
limited high v = record { same = rw (leb-zero v) (sym (both_true (leb v high))) }

-- a value that may not be carried
hung : (on : Bool) (high v : ℕ) → Split (between_if on 0 high v) (leb v high) (pick on true (eqb v 0))
unfolding between_if
hung true high v = limited high v
hung false high v = record { same = by_zero v (λ e. rw (e, leb-zero high)) (λ h e. rw e (sym (both_false (leb v high)))) }

-- two of them
both-hung : (on : Bool) (a b : ℕ) → both (pick on true (eqb a 0)) (pick on true (eqb b 0)) ≡ pick on true (eqb (bit_or a b) 0)
both-hung true a b = refl
both-hung false a b = sym (or-zero a b)

-- no limit
free : (t : Bool) → Split t true t
free t = record { same = refl }

-- ---- the whole record

-- a test of two parts, of which both hold
first_of : (a b : Bool) → both a b ≡ true → a ≡ true
first_of true b e = refl
first_of false b e = e

second_of : (a b : Bool) → both a b ≡ true → b ≡ true
second_of true b e = e
second_of false b e = absurd (true≢false (sym e))

-- a divergence whose flag is a flag
used-limited : (d : Divergence) → Split (divergence_valid true d) (leb d.used 1) (divergence_valid true d)
unfolding divergence_valid between_if
used-limited d = record { same = rw (leb-zero d.used) (twice (leb d.used 1) _) }
  where
    twice : (a b : Bool) → both a b ≡ both a (both a b)
    twice true b = refl
    twice false b = refl

limits_is : (class : ℕ) (r : Record) → carries r.scene ≡ true
    → both (within_limits r)
    (both (both (eqb dynamic_class class) (both (leb 49 r.scene.location.z)
    (pick (set? r.scene.screen.used) true (eqb (bit_or r.scene.screen.factor r.scene.screen.depth) 0))))
    (both (divergence_valid true r.divergence) (precise_valid true r.precise)))
    ≡ record_valid class r
unfolding record_valid scene_valid within_limits location_valid volume_valid zone_valid screen_valid between_if
limits_is class r e =
    let s = r.scene in
    let l = s.location in
    let v = s.volume in
    let n = s.screen in
    let active = eqb-true s.active 1 (first_of (set? s.active) (eqb s.class dynamic_class) e) in
    let dynamic = eqb-true s.class dynamic_class (second_of (set? s.active) (eqb s.class dynamic_class) e) in
    let split =
    (free (eqb dynamic_class class)
    ⊗ limited 65 s.gain
    ⊗ limited 32 s.priority
    ⊗ (limited 62 l.x ⊗ limited 62 l.y ⊗ ranged 49 79 l.z ⊗ limited 17 l.distance)
    ⊗ (limited 31 v.width ⊗ limited 31 v.depth ⊗ limited 31 v.height)
    ⊗ (limited 5 s.zone.index ⊗ limited 1 s.zone.elevation)
    ⊗ (limited 1 n.used ⊗ hung (set? n.used) 7 n.factor ⊗ hung (set? n.used) 3 n.depth)
    ⊗ limited 1 s.snap)
    ⊗ used-limited r.divergence
    ⊗ free (precise_valid true r.precise) in
    let screened : Bool = pick (set? n.used) true (eqb (bit_or n.factor n.depth) 0) in
    rw (active, dynamic) (sym (split.same ∙ rw (both_true (leb r.divergence.used 1), both_true (leb 49 l.z), both-hung (set? n.used) n.factor n.depth, both_true screened)))

-- as code joins them
pub sent_is : (class : ℕ) (r : Record) → carries r.scene ≡ true
    → (within_limits r
    && (eqb dynamic_class class && leb 49 r.scene.location.z && (set? r.scene.screen.used || eqb (bit_or r.scene.screen.factor r.scene.screen.depth) 0))
    && divergence_valid true r.divergence
    && precise_valid true r.precise)
    ≡ record_valid class r
sent_is class r e =
    gathered (within_limits r) (eqb dynamic_class class) (leb 49 r.scene.location.z) (set? r.scene.screen.used)
    (eqb (bit_or r.scene.screen.factor r.scene.screen.depth) 0) (divergence_valid true r.divergence) (precise_valid true r.precise)
    ∙ limits_is class r e
  where
    gathered : (a b c d e f g : Bool) → (a && (b && c && (d || e)) && f && g) ≡ both a (both (both b (both c (pick d true e))) (both f g))
    gathered false b c d e f g = refl
    gathered true false c d e f g = refl
    gathered true true false d e f g = refl
    gathered true true true true e f g = refl
    gathered true true true false false f g = refl
    gathered true true true false true f g = refl

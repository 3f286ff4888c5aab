-- 5.5.9 to 5.5.11: the blocks of every accepted payload mean valid records.
use Rattle.std.specs.Prelude.{◌≡◌, refl, Bool, true, false, not, ℕ, suc, ◌≤◌, ◌<◌, eqb}
use Rattle.std.proofs.Common.{sym, ◌∙◌, arith}
use Rattle.std.proofs.lemmas.Bool.{false≢true}
use Rattle.bits.specs.Language.{pick, both}
use Rattle.bits.specs.Ensures.{e-give, e-bits, e-bind, e-any, e-then, e-pick, e_if}
use Rattle.bits.specs.Terms.{Ensures}
use Rattle.oamd.specs.declared.Status.{Status}
use Rattle.oamd.specs.declared.Status.TheVariants.{Default}
use Rattle.oamd.specs.declared.Basic.{Basic}
use Rattle.oamd.specs.declared.Render.{Render}
use Rattle.oamd.specs.declared.Block.{Block}
use Rattle.oamd.specs.Programme.{set?, clear?, dynamic_class}
use Rattle.oamd.specs.Reserved.{ZoneConstraintsIdx}
use Rattle.oamd.specs.Block.{status_idx, object_basic_info, zone, extent, screen, object_render_info, object_info_block, has_zone, has_size, has_screen, has_priority, sends}
use Rattle.form.specs.Valid.{between_if, zone_valid, screen_valid}
use Rattle.form.specs.Lemmas.Tests.{whole, by-test, by_flag, always}
use Rattle.roundtrip.specs.Lemmas.Unreserved.{under, e-unreserved}
use Rattle.roundtrip.specs.Lemmas.AcceptedProgramme.{read-ranged}

-- ---- what is read

-- no status but the default where nothing can be sent
status-ensures : (none first : Bool) → Ensures (status_idx none first) (λ s. none ≡ true → s ≡ Default)
unfolding status_idx
status-ensures none first =
    e-pick none _ _ _ (λ q. e-give _ _ (λ p. refl)) (λ q. e-any _ _ (λ s p. absurd (false≢true (sym q ∙ p))))

small : (t : Bool) (v n : ℕ) → (t ≡ true → v < suc n) → (t ≡ false → 0 ≡ v) → v ≤ n
small t v n f g = by-test t (λ q. let x = f q in omega arith) (λ q. let x = g q in omega arith)

record BasicRead (status : Status) (b : Basic) : Type 0 where
  same : b.status ≡ status
  priority : b.priority.bits ≤ 31

basic-ensures : (status : Status) → Ensures (object_basic_info status) (BasicRead status)
unfolding object_basic_info
basic-ensures status =
    e-bind _ _ _ (e-any _ _ λ parts.
    e-bind _ _ _ (e-any _ _ λ index.
    e-bind _ _ _ (e-any _ _ λ gain.
    e-bind _ _ _ (e-any _ _ λ bydefault.
    e-bind _ _ _ (e_if (both (has_priority parts) (clear? bydefault)) 5 _ λ n b b'.
    e-give _ _ (record { same = refl; priority = small _ n 31 b b' }))))))

zone-ensures : (on : Bool) → Ensures (zone on) (λ z. zone_valid true z ≡ true)
unfolding zone zone_valid between_if
zone-ensures on =
    e-bind _ _ _ (e-unreserved on ZoneConstraintsIdx _ λ index i i'.
    e-bind _ _ _ (e_if on 1 _ λ elevation e e'.
    let l = small on index 5 (λ q. under ZoneConstraintsIdx index (omega arith) (i q)) i' in
    e-give _ _ (whole _ _ (always 0 5 index (omega arith) l) (always 0 1 elevation (omega arith) (small on elevation 1 e e')))))

extent-ensures : (on : Bool) → Ensures (extent on) (λ e. (e.all ≤ 31) × (e.width ≤ 31) × (e.depth ≤ 31) × (e.height ≤ 31))
unfolding extent
extent-ensures on =
    e-bind _ _ _ (e-any _ _ λ index.
    e-bind _ _ _ (e_if (eqb index 1) 5 _ λ n a a'.
    e-bind _ _ _ (e_if (eqb index 2) 5 _ λ w b b'.
    e-bind _ _ _ (e_if (eqb index 2) 5 _ λ d c c'.
    e-bind _ _ _ (e_if (eqb index 2) 5 _ λ h e e'.
    e-give _ _ (small _ n 31 a a', small _ w 31 b b', small _ d 31 c c', small _ h 31 e e'))))))

screen-ensures : (on : Bool) → Ensures (screen on) (λ s. screen_valid true s ≡ true)
unfolding screen screen_valid between_if
screen-ensures on =
    e-bind _ _ _ (e_if on 1 _ λ used u u'.
    e-bind _ _ _ (e_if (set? used) 3 _ λ factor f f'.
    e-bind _ _ _ (e_if (set? used) 2 _ λ depth d d'.
    e-give _ _ (whole _ _ (always 0 1 used (omega arith) (small on used 1 u u')) (whole _ _ (read-ranged (set? used) 7 factor f f')
    (read-ranged (set? used) 3 depth d d'))))))

record RenderRead (status : Status) (r : Render) : Type 0 where
  same : r.status ≡ status
  zone : zone_valid true r.zone ≡ true
  extent : (r.extent.all ≤ 31) × (r.extent.width ≤ 31) × (r.extent.depth ≤ 31) × (r.extent.height ≤ 31)
  screen : screen_valid true r.screen ≡ true
  snap : r.snap ≤ 1

render-ensures : (status : Status) (first : Bool) → Ensures (object_render_info status first) (RenderRead status)
unfolding object_render_info
render-ensures status first =
    e-bind _ _ _ (e-any _ _ λ parts.
    e-bind _ _ _ (e-any _ _ λ position.
    e-bind _ _ _ (e-any _ _ λ distance.
    e-bind _ _ _ (e-then _ _ _ (zone-ensures (has_zone parts)) λ zone z.
    e-bind _ _ _ (e-then _ _ _ (extent-ensures (has_size parts)) λ extent e.
    e-bind _ _ _ (e-then _ _ _ (screen-ensures (has_screen parts)) λ screen s.
    e-bind _ _ _ (e_if (sends status) 1 _ λ snap n n'.
    e-give _ _ (record { same = refl; zone = z; extent = e; screen = s; snap = small _ snap 1 n n' }))))))))

-- a block of an object of a class, as it was read
pub record BlockRead (class : ℕ) (b : Block) : Type 0 where
  pub kind : b.class ≡ class
  pub active : b.active ≤ 1
  pub idle : set? b.active ≡ false → b.basic.status ≡ Default
  pub unsent : both (set? b.active) (eqb class dynamic_class) ≡ false → b.render.status ≡ Default
  pub priority : b.basic.priority.bits ≤ 31
  pub zone : zone_valid true b.render.zone ≡ true
  pub extent : (b.render.extent.all ≤ 31) × (b.render.extent.width ≤ 31) × (b.render.extent.depth ≤ 31) × (b.render.extent.height ≤ 31)
  pub screen : screen_valid true b.render.screen ≡ true
  pub snap : b.render.snap ≤ 1

pub block-ensures : (class blk : ℕ) → Ensures (object_info_block class blk) (BlockRead class)
unfolding object_info_block
block-ensures class blk =
    e-bind _ _ _ (e-bits 1 _ λ idle l.
    e-bind _ _ _ (e-then _ _ _ (status-ensures (set? idle) (eqb blk 0)) λ s none.
    e-bind _ _ _ (e-then _ _ _ (basic-ensures s) λ basic b.
    e-bind _ _ _ (e-then _ _ _ (status-ensures (pick (set? idle) true (not (eqb class dynamic_class))) (eqb blk 0)) λ t unsent.
    e-bind _ _ _ (e-then _ _ _ (render-ensures t (eqb blk 0)) λ render r.
    e-bind _ _ _ (e-any _ _ λ additional.
    e-give _ _ (record {
      kind = refl;
      active = omega arith;
      idle = λ q. by_flag idle (omega arith) (λ e. absurd (false≢true (sym (rw e at q)))) (λ e. b.same ∙ none (rw e refl));
      unsent = λ q. by_flag idle (omega arith) (λ e. r.same ∙ unsent (rw e (other (eqb class dynamic_class) (rw e at q))))
          (λ e. r.same ∙ unsent (rw e refl));
      priority = b.priority;
      zone = r.zone;
      extent = r.extent;
      screen = r.screen;
      snap = r.snap;
    })))))))
  where
    other : (t : Bool) → t ≡ false → not t ≡ true
    other true q = absurd (false≢true (sym q))
    other false q = refl

-- A scene's bytes are what their sources give, where these are no block and no object before.
use Rattle.std.specs.Prelude.{◌≡◌, refl, Bool, true, false, ℕ, ◌≤◌, ◌<◌, eqb, get_or}
use Rattle.std.proofs.Common.{◌∙◌, arith}
use Rattle.oamd.specs.declared.Position.{Position}
use Rattle.oamd.specs.declared.Position.TheVariants.{Absolute, Moved}
use Rattle.oamd.specs.declared.Status.{Status}
use Rattle.oamd.specs.declared.Location.{Location}
use Rattle.oamd.specs.declared.Block.{Block}
use Rattle.oamd.specs.declared.Divergence.{Divergence}
use Rattle.oamd.specs.declared.Precise.{Precise}
use Rattle.oamd.specs.declared.Scene.{Scene}
use Rattle.oamd.specs.Programme.{set?}
use Rattle.oamd.specs.Meaning.{zero_db, gain_of, priority_of, distance_of, location_of, volume_of, resolve}
use Rattle.sources.specs.declared.Source.{Source}
use Rattle.sources.specs.declared.Source.TheVariants.{ByNothing}
use Rattle.sources.specs.Sources.{gain_source, priority_source, x_source, y_source, z_source, distance_source, size_source, screen_source, scene_sources}
use Rattle.sources.specs.Given.{scene_count, scene_byte, Gives}
use Rattle.sources.specs.Lemmas.BySource.{listed, all, ◌▸◌, with_render, by-pick, by-gain, by-sources}

-- what is known of a block of a class, as it is read
pub record Read (class : ℕ) (b : Block) : Type 0 where
  pub same : b.class ≡ class
  pub active : b.active ≤ 1
  pub factor : set? b.render.screen.used ≡ false → b.render.screen.factor ≡ b.render.screen.used
  pub depth : set? b.render.screen.used ≡ false → b.render.screen.depth ≡ b.render.screen.used

location-gives : (status : Status) (position : Position) (b : Block) (d : Divergence) (p : Precise) (class distance : ℕ) (before : Location)
    → Gives (with_render status position b) d p class 4 (location_of position distance before).x (x_source position)
    × Gives (with_render status position b) d p class 5 (location_of position distance before).y (y_source position)
    × Gives (with_render status position b) d p class 6 (location_of position distance before).z (z_source position)
    × ((location_of position distance before).distance ≡ distance)
unfolding location_of x_source y_source z_source
location-gives status (Absolute x y sign z) b d p class distance before = (refl, refl, refl, refl)
location-gives status (Moved x y z) b d p class distance before = (refl, refl, refl, refl)

pub scene-gives : (before : Scene) (up : ℕ) (first : Bool) (class : ℕ) (b : Block) (d : Divergence) (p : Precise) → (first ≡ true → up ≡ zero_db) → Read class b
    → (byte : ℕ) → byte < scene_count → Gives b d p class byte (scene_byte byte (resolve before up b)) (get_or (scene_sources first b) byte ByNothing)
unfolding resolve scene_sources gain_source gain_of priority_source priority_of distance_source distance_of location_of x_source y_source z_source size_source volume_of screen_source
scene-gives before up first class b d p h read =
    let r = b.render in
    let n = read.active in
    let there = location-gives _ r.position b d p class (distance_of r.distance) before.location in
    let Q : ℕ → ℕ → ℕ → ℕ → Source → Type 0 = λ byte past own now x. Gives b d p class byte now x in
    by-sources Q before up first b (λ byte. refl) (λ byte. refl) (λ t byte. tt) (λ t byte. tt)
    (listed {n = scene_count}
    ((omega arith)
    ▸ read.same
    ▸ by-gain (λ x own now. Q 2 0 0 now x) b.basic.gain first up (λ e. rw e) (λ e. rw e) (λ v e. e) (λ f e. rw e (h f)) (λ f. tt)
    ▸ by-pick (Q 3 0 0 _) (set? b.basic.priority.bydefault) (λ q. rw q) (λ q. rw q)
    ▸ there.0
    ▸ there.1
    ▸ there.2
    ▸ by-pick (Q 7 0 0 _) (set? r.distance.given) (λ q. by-pick (Q 7 0 0 _) (set? r.distance.infinite) (λ u. there.3 ∙ rw (q, u)) (λ u. there.3 ∙ rw (q, u))) (λ q. there.3 ∙ rw q)
    ▸ by-pick (Q 8 0 0 _) (eqb r.extent.index 2) (λ q. rw q) (λ q. by-pick (Q 8 0 0 _) (eqb r.extent.index 1) (λ u. rw (q, u)) (λ u. rw (q, u)))
    ▸ by-pick (Q 9 0 0 _) (eqb r.extent.index 2) (λ q. rw q) (λ q. by-pick (Q 9 0 0 _) (eqb r.extent.index 1) (λ u. rw (q, u)) (λ u. rw (q, u)))
    ▸ by-pick (Q 10 0 0 _) (eqb r.extent.index 2) (λ q. rw q) (λ q. by-pick (Q 10 0 0 _) (eqb r.extent.index 1) (λ u. rw (q, u)) (λ u. rw (q, u)))
    ▸ refl
    ▸ refl
    ▸ refl
    ▸ by-pick (Q 14 0 0 _) (set? r.screen.used) (λ q. refl) (λ q. read.factor q)
    ▸ by-pick (Q 15 0 0 _) (set? r.screen.used) (λ q. refl) (λ q. read.depth q)
    ▸ refl
    ▸ all))

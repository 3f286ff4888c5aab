-- The public function of scenes.
use Rattle.std.specs.Prelude.{refl}
use Rattle.oamd.specs.contracts.Scene as scene
use Rattle.scenes.specs.contracts.read_scene as read-scene
use Rattle.scenes.specs.Resolved.{resolved_block}
use Rattle.unique.specs.OneAnswer.{OneAnswer, by_relation, said, ◌beside◌}
use Rattle.unique.specs.Readings.{giving, GaveBy, gave-once, reading-set}

pub one-read_scene : OneAnswer read-scene.ended (λ M 𝓤 𝓛. read-scene.clauses 𝓛) (λ M 𝓤 𝓛. read-scene.spec 𝓛)
    (λ κs a. a.0.now beside a.1) (λ κs a r z. giving r.value r.cur)
one-read_scene =
    by_relation (λ κs. reading-set (scene.the_row).coded) (λ w. refl) (GaveBy _)
    (gave-once (λ i. let of = i.1.1.1 in resolved_block of.0 of.1.0 of.1.1.0 of.1.1.1.0))
    (λ w κs a r z p. said (λ h. (r.value, r.cur, h, refl)) p.holds)

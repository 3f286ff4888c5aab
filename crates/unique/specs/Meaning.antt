-- The public functions of meaning.
use Rattle.std.specs.Prelude.{refl}
use Rattle.oamd.specs.Payload.{no_timing}
use Rattle.meaning.specs.contracts.agrees as agrees
use Rattle.meaning.specs.contracts.class_of as class_of
use Rattle.meaning.specs.contracts.default_shown as default-shown
use Rattle.meaning.specs.contracts.distance_of as distance-of
use Rattle.meaning.specs.contracts.gain_of as gain-of
use Rattle.meaning.specs.contracts.idle as idle
use Rattle.meaning.specs.contracts.location_of as location-of
use Rattle.meaning.specs.contracts.mixed_shown as mixed-shown
use Rattle.meaning.specs.contracts.no_timing as no-timing
use Rattle.meaning.specs.contracts.priority_of as priority-of
use Rattle.meaning.specs.contracts.resolved as resolved
use Rattle.meaning.specs.contracts.shares as shares
use Rattle.meaning.specs.contracts.shown_before as shown-before
use Rattle.meaning.specs.contracts.update_of as update-of
use Rattle.meaning.specs.contracts.volume_of as volume-of
use Rattle.meaning.specs.Shown.{default_shown}
use Rattle.unique.specs.OneAnswer.{OneAnswer, by_equation, said, result-set}

pub one-agrees : OneAnswer agrees.ended (λ M 𝓤 𝓛. agrees.clauses 𝓛) (λ M 𝓤 𝓛. agrees.spec 𝓛) (λ κs a. a) (λ κs a r z. r)
one-agrees = by_equation (result-set agrees.ended) (λ w. refl) _ (λ w κs a r z p. said (λ h. h) p.holds)

pub one-shares : OneAnswer shares.ended (λ M 𝓤 𝓛. shares.clauses 𝓛) (λ M 𝓤 𝓛. shares.spec 𝓛) (λ κs a. a) (λ κs a r z. r)
one-shares = by_equation (result-set shares.ended) (λ w. refl) _ (λ w κs a r z p. said (λ h. h.0) p.holds)

pub one-class_of : OneAnswer class_of.ended (λ M 𝓤 𝓛. class_of.clauses 𝓛) (λ M 𝓤 𝓛. class_of.spec 𝓛) (λ κs a. a) (λ κs a r z. r)
one-class_of = by_equation (result-set class_of.ended) (λ w. refl) _ (λ w κs a r z p. said (λ h. h) p.holds)

pub one-idle : OneAnswer idle.ended (λ M 𝓤 𝓛. idle.clauses 𝓛) (λ M 𝓤 𝓛. idle.spec 𝓛) (λ κs a. a) (λ κs a r z. r)
one-idle = by_equation (result-set idle.ended) (λ w. refl) _ (λ w κs a r z p. said (λ h. h) p.holds)

pub one-resolved : OneAnswer resolved.ended (λ M 𝓤 𝓛. resolved.clauses 𝓛) (λ M 𝓤 𝓛. resolved.spec 𝓛) (λ κs a. a) (λ κs a r z. r)
one-resolved = by_equation (result-set resolved.ended) (λ w. refl) _ (λ w κs a r z p. said (λ h. h) p.holds)

pub one-update_of : OneAnswer update-of.ended (λ M 𝓤 𝓛. update-of.clauses 𝓛) (λ M 𝓤 𝓛. update-of.spec 𝓛) (λ κs a. a) (λ κs a r z. r)
one-update_of = by_equation (result-set update-of.ended) (λ w. refl) _ (λ w κs a r z p. said (λ h. h) p.holds)

pub one-no_timing : OneAnswer no-timing.ended (λ M 𝓤 𝓛. no-timing.clauses 𝓛) (λ M 𝓤 𝓛. no-timing.spec 𝓛) (λ κs a. a) (λ κs a r z. r)
one-no_timing = by_equation (result-set no-timing.ended) (λ w. refl) (λ a. no_timing) (λ w κs a r z p. said (λ h. h) p.holds)

pub one-gain_of : OneAnswer gain-of.ended (λ M 𝓤 𝓛. gain-of.clauses 𝓛) (λ M 𝓤 𝓛. gain-of.spec 𝓛) (λ κs a. a) (λ κs a r z. r)
one-gain_of = by_equation (result-set gain-of.ended) (λ w. refl) _ (λ w κs a r z p. said (λ h. h) p.holds)

pub one-priority_of : OneAnswer priority-of.ended (λ M 𝓤 𝓛. priority-of.clauses 𝓛) (λ M 𝓤 𝓛. priority-of.spec 𝓛) (λ κs a. a) (λ κs a r z. r)
one-priority_of = by_equation (result-set priority-of.ended) (λ w. refl) _ (λ w κs a r z p. said (λ h. h) p.holds)

pub one-distance_of : OneAnswer distance-of.ended (λ M 𝓤 𝓛. distance-of.clauses 𝓛) (λ M 𝓤 𝓛. distance-of.spec 𝓛) (λ κs a. a) (λ κs a r z. r)
one-distance_of = by_equation (result-set distance-of.ended) (λ w. refl) _ (λ w κs a r z p. said (λ h. h) p.holds)

pub one-location_of : OneAnswer location-of.ended (λ M 𝓤 𝓛. location-of.clauses 𝓛) (λ M 𝓤 𝓛. location-of.spec 𝓛) (λ κs a. a) (λ κs a r z. r)
one-location_of = by_equation (result-set location-of.ended) (λ w. refl) _ (λ w κs a r z p. said (λ h. h) p.holds)

pub one-volume_of : OneAnswer volume-of.ended (λ M 𝓤 𝓛. volume-of.clauses 𝓛) (λ M 𝓤 𝓛. volume-of.spec 𝓛) (λ κs a. a) (λ κs a r z. r)
one-volume_of = by_equation (result-set volume-of.ended) (λ w. refl) _ (λ w κs a r z p. said (λ h. h) p.holds)

pub one-default_shown : OneAnswer default-shown.ended (λ M 𝓤 𝓛. default-shown.clauses 𝓛) (λ M 𝓤 𝓛. default-shown.spec 𝓛) (λ κs a. a) (λ κs a r z. r)
one-default_shown = by_equation (result-set default-shown.ended) (λ w. refl) (λ a. default_shown) (λ w κs a r z p. said (λ h. h) p.holds)

pub one-shown_before : OneAnswer shown-before.ended (λ M 𝓤 𝓛. shown-before.clauses 𝓛) (λ M 𝓤 𝓛. shown-before.spec 𝓛) (λ κs a. a) (λ κs a r z. r)
one-shown_before = by_equation (result-set shown-before.ended) (λ w. refl) _ (λ w κs a r z p. said (λ h. h) p.holds)

pub one-mixed_shown : OneAnswer mixed-shown.ended (λ M 𝓤 𝓛. mixed-shown.clauses 𝓛) (λ M 𝓤 𝓛. mixed-shown.spec 𝓛) (λ κs a. a) (λ κs a r z. r)
one-mixed_shown = by_equation (result-set mixed-shown.ended) (λ w. refl) _ (λ w κs a r z p. said (λ h. h) p.holds)

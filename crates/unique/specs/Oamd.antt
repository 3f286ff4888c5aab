-- The public functions of oamd.
use Rattle.std.specs.Prelude.{refl}
use Rattle.oamd.specs.contracts.bed_labels as bed-labels
use Rattle.oamd.specs.contracts.distance_code as distance-code
use Rattle.oamd.specs.contracts.has_beds as has-beds
use Rattle.oamd.specs.contracts.has_centre as has-centre
use Rattle.oamd.specs.contracts.has_dynamic as has-dynamic
use Rattle.oamd.specs.contracts.has_gain as has-gain
use Rattle.oamd.specs.contracts.has_height as has-height
use Rattle.oamd.specs.contracts.has_isf as has-isf
use Rattle.oamd.specs.contracts.has_lis as has-lis
use Rattle.oamd.specs.contracts.has_position as has-position
use Rattle.oamd.specs.contracts.has_priority as has-priority
use Rattle.oamd.specs.contracts.has_reserved as has-reserved
use Rattle.oamd.specs.contracts.has_screen as has-screen
use Rattle.oamd.specs.contracts.has_size as has-size
use Rattle.oamd.specs.contracts.has_surround as has-surround
use Rattle.oamd.specs.contracts.has_tb as has-tb
use Rattle.oamd.specs.contracts.has_x as has-x
use Rattle.oamd.specs.contracts.has_y as has-y
use Rattle.oamd.specs.contracts.has_z as has-z
use Rattle.oamd.specs.contracts.has_zone as has-zone
use Rattle.oamd.specs.contracts.isf_objects as isf-objects
use Rattle.oamd.specs.contracts.kind_of as kind-of
use Rattle.oamd.specs.contracts.ramp_code as ramp-code
use Rattle.oamd.specs.contracts.ramp_duration as ramp-duration
use Rattle.oamd.specs.contracts.sample_offset as sample_offset
use Rattle.unique.specs.OneAnswer.{OneAnswer, by_equation, said, result-set}

pub one-kind_of : OneAnswer kind-of.ended (λ M 𝓤 𝓛. kind-of.clauses 𝓛) (λ M 𝓤 𝓛. kind-of.spec 𝓛) (λ κs a. a) (λ κs a r z. r)
one-kind_of = by_equation (result-set kind-of.ended) (λ w. refl) _ (λ w κs a r z p. said (λ h. h) p.holds)

pub one-bed_labels : OneAnswer bed-labels.ended (λ M 𝓤 𝓛. bed-labels.clauses 𝓛) (λ M 𝓤 𝓛. bed-labels.spec 𝓛) (λ κs a. a) (λ κs a r z. r)
one-bed_labels = by_equation (result-set bed-labels.ended) (λ w. refl) _ (λ w κs a r z p. said (λ h. h.0) p.holds)

pub one-isf_objects : OneAnswer isf-objects.ended (λ M 𝓤 𝓛. isf-objects.clauses 𝓛) (λ M 𝓤 𝓛. isf-objects.spec 𝓛) (λ κs a. a) (λ κs a r z. r)
one-isf_objects = by_equation (result-set isf-objects.ended) (λ w. refl) _ (λ w κs a r z p. said (λ h. h) p.holds)

pub one-distance_code : OneAnswer distance-code.ended (λ M 𝓤 𝓛. distance-code.clauses 𝓛) (λ M 𝓤 𝓛. distance-code.spec 𝓛) (λ κs a. a) (λ κs a r z. r)
one-distance_code = by_equation (result-set distance-code.ended) (λ w. refl) _ (λ w κs a r z p. said (λ h. h) p.holds)

pub one-ramp_code : OneAnswer ramp-code.ended (λ M 𝓤 𝓛. ramp-code.clauses 𝓛) (λ M 𝓤 𝓛. ramp-code.spec 𝓛) (λ κs a. a) (λ κs a r z. r)
one-ramp_code = by_equation (result-set ramp-code.ended) (λ w. refl) _ (λ w κs a r z p. said (λ h. h) p.holds)

pub one-ramp_duration : OneAnswer ramp-duration.ended (λ M 𝓤 𝓛. ramp-duration.clauses 𝓛) (λ M 𝓤 𝓛. ramp-duration.spec 𝓛) (λ κs a. a) (λ κs a r z. r)
one-ramp_duration = by_equation (result-set ramp-duration.ended) (λ w. refl) _ (λ w κs a r z p. said (λ h. h) p.holds)

pub one-sample_offset : OneAnswer sample_offset.ended (λ M 𝓤 𝓛. sample_offset.clauses 𝓛) (λ M 𝓤 𝓛. sample_offset.spec 𝓛) (λ κs a. a) (λ κs a r z. r)
one-sample_offset = by_equation (result-set sample_offset.ended) (λ w. refl) _ (λ w κs a r z p. said (λ h. h) p.holds)

pub one-has_beds : OneAnswer has-beds.ended (λ M 𝓤 𝓛. has-beds.clauses 𝓛) (λ M 𝓤 𝓛. has-beds.spec 𝓛) (λ κs a. a) (λ κs a r z. r)
one-has_beds = by_equation (result-set has-beds.ended) (λ w. refl) _ (λ w κs a r z p. said (λ h. h) p.holds)

pub one-has_isf : OneAnswer has-isf.ended (λ M 𝓤 𝓛. has-isf.clauses 𝓛) (λ M 𝓤 𝓛. has-isf.spec 𝓛) (λ κs a. a) (λ κs a r z. r)
one-has_isf = by_equation (result-set has-isf.ended) (λ w. refl) _ (λ w κs a r z p. said (λ h. h) p.holds)

pub one-has_dynamic : OneAnswer has-dynamic.ended (λ M 𝓤 𝓛. has-dynamic.clauses 𝓛) (λ M 𝓤 𝓛. has-dynamic.spec 𝓛) (λ κs a. a) (λ κs a r z. r)
one-has_dynamic = by_equation (result-set has-dynamic.ended) (λ w. refl) _ (λ w κs a r z p. said (λ h. h) p.holds)

pub one-has_reserved : OneAnswer has-reserved.ended (λ M 𝓤 𝓛. has-reserved.clauses 𝓛) (λ M 𝓤 𝓛. has-reserved.spec 𝓛) (λ κs a. a) (λ κs a r z. r)
one-has_reserved = by_equation (result-set has-reserved.ended) (λ w. refl) _ (λ w κs a r z p. said (λ h. h) p.holds)

pub one-has_gain : OneAnswer has-gain.ended (λ M 𝓤 𝓛. has-gain.clauses 𝓛) (λ M 𝓤 𝓛. has-gain.spec 𝓛) (λ κs a. a) (λ κs a r z. r)
one-has_gain = by_equation (result-set has-gain.ended) (λ w. refl) _ (λ w κs a r z p. said (λ h. h) p.holds)

pub one-has_priority : OneAnswer has-priority.ended (λ M 𝓤 𝓛. has-priority.clauses 𝓛) (λ M 𝓤 𝓛. has-priority.spec 𝓛) (λ κs a. a) (λ κs a r z. r)
one-has_priority = by_equation (result-set has-priority.ended) (λ w. refl) _ (λ w κs a r z p. said (λ h. h) p.holds)

pub one-has_position : OneAnswer has-position.ended (λ M 𝓤 𝓛. has-position.clauses 𝓛) (λ M 𝓤 𝓛. has-position.spec 𝓛) (λ κs a. a) (λ κs a r z. r)
one-has_position = by_equation (result-set has-position.ended) (λ w. refl) _ (λ w κs a r z p. said (λ h. h) p.holds)

pub one-has_zone : OneAnswer has-zone.ended (λ M 𝓤 𝓛. has-zone.clauses 𝓛) (λ M 𝓤 𝓛. has-zone.spec 𝓛) (λ κs a. a) (λ κs a r z. r)
one-has_zone = by_equation (result-set has-zone.ended) (λ w. refl) _ (λ w κs a r z p. said (λ h. h) p.holds)

pub one-has_size : OneAnswer has-size.ended (λ M 𝓤 𝓛. has-size.clauses 𝓛) (λ M 𝓤 𝓛. has-size.spec 𝓛) (λ κs a. a) (λ κs a r z. r)
one-has_size = by_equation (result-set has-size.ended) (λ w. refl) _ (λ w κs a r z p. said (λ h. h) p.holds)

pub one-has_screen : OneAnswer has-screen.ended (λ M 𝓤 𝓛. has-screen.clauses 𝓛) (λ M 𝓤 𝓛. has-screen.spec 𝓛) (λ κs a. a) (λ κs a r z. r)
one-has_screen = by_equation (result-set has-screen.ended) (λ w. refl) _ (λ w κs a r z p. said (λ h. h) p.holds)

pub one-has_x : OneAnswer has-x.ended (λ M 𝓤 𝓛. has-x.clauses 𝓛) (λ M 𝓤 𝓛. has-x.spec 𝓛) (λ κs a. a) (λ κs a r z. r)
one-has_x = by_equation (result-set has-x.ended) (λ w. refl) _ (λ w κs a r z p. said (λ h. h) p.holds)

pub one-has_y : OneAnswer has-y.ended (λ M 𝓤 𝓛. has-y.clauses 𝓛) (λ M 𝓤 𝓛. has-y.spec 𝓛) (λ κs a. a) (λ κs a r z. r)
one-has_y = by_equation (result-set has-y.ended) (λ w. refl) _ (λ w κs a r z p. said (λ h. h) p.holds)

pub one-has_z : OneAnswer has-z.ended (λ M 𝓤 𝓛. has-z.clauses 𝓛) (λ M 𝓤 𝓛. has-z.spec 𝓛) (λ κs a. a) (λ κs a r z. r)
one-has_z = by_equation (result-set has-z.ended) (λ w. refl) _ (λ w κs a r z p. said (λ h. h) p.holds)

pub one-has_centre : OneAnswer has-centre.ended (λ M 𝓤 𝓛. has-centre.clauses 𝓛) (λ M 𝓤 𝓛. has-centre.spec 𝓛) (λ κs a. a) (λ κs a r z. r)
one-has_centre = by_equation (result-set has-centre.ended) (λ w. refl) _ (λ w κs a r z p. said (λ h. h) p.holds)

pub one-has_surround : OneAnswer has-surround.ended (λ M 𝓤 𝓛. has-surround.clauses 𝓛) (λ M 𝓤 𝓛. has-surround.spec 𝓛) (λ κs a. a) (λ κs a r z. r)
one-has_surround = by_equation (result-set has-surround.ended) (λ w. refl) _ (λ w κs a r z p. said (λ h. h) p.holds)

pub one-has_height : OneAnswer has-height.ended (λ M 𝓤 𝓛. has-height.clauses 𝓛) (λ M 𝓤 𝓛. has-height.spec 𝓛) (λ κs a. a) (λ κs a r z. r)
one-has_height = by_equation (result-set has-height.ended) (λ w. refl) _ (λ w κs a r z p. said (λ h. h) p.holds)

pub one-has_tb : OneAnswer has-tb.ended (λ M 𝓤 𝓛. has-tb.clauses 𝓛) (λ M 𝓤 𝓛. has-tb.spec 𝓛) (λ κs a. a) (λ κs a r z. r)
one-has_tb = by_equation (result-set has-tb.ended) (λ w. refl) _ (λ w κs a r z p. said (λ h. h) p.holds)

pub one-has_lis : OneAnswer has-lis.ended (λ M 𝓤 𝓛. has-lis.clauses 𝓛) (λ M 𝓤 𝓛. has-lis.spec 𝓛) (λ κs a. a) (λ κs a r z. r)
one-has_lis = by_equation (result-set has-lis.ended) (λ w. refl) _ (λ w κs a r z p. said (λ h. h) p.holds)

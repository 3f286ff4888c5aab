-- Whether an element is the one that is looked for. Assumes nothing.
use mathlib.Core.Path.{◌≡◌, refl}
use mathlib.Core.Bool.{Bool, true, false}
use Rattle.oamd.specs.declared.Kind.{Kind}
use Rattle.oamd.specs.declared.Kind.TheVariants.{Unknown, Object, Trim, Extended}
use Rattle.sources.specs.Lemmas.Seeking.{is_wanted}
use Rattle.sources.specs.Walks.{wanted_by}

pub wanted_by_lem : (extended : Bool) (k : Kind) → wanted_by extended k ≡ is_wanted extended k
wanted_by_lem false Unknown = refl
wanted_by_lem false Object = refl
wanted_by_lem false Trim = refl
wanted_by_lem false Extended = refl
wanted_by_lem true Unknown = refl
wanted_by_lem true Object = refl
wanted_by_lem true Trim = refl
wanted_by_lem true Extended = refl

use Rattle.std.proofs.Common.{Bool, eqb, false, refl, true, ◌≡◌, ℕ}
use Rattle.bits.specs.Language.{pick}
use Rattle.oamd.specs.declared.Volume.{Volume}
use Rattle.oamd.specs.Meaning.{volume_of}
use Rattle.meaning.proofs.values.volume_of.Goals as goal

-- number by number
apart : (each even : Bool) (w d h all : ℕ)
    → ◌≡◌ {A = Volume} (record { width = pick each w (pick even all 0); depth = pick each d (pick even all 0); height = pick each h (pick even all 0) })
    (pick each (record { width = w; depth = d; height = h }) (pick even (record { width = all; depth = all; height = all }) (record { width = 0; depth = 0; height = 0 })))
apart true even w d h all = refl
apart false true w d h all = refl
apart false false w d h all = refl

pub returns : goal.returns
unfolding volume_of
returns c =
    let e = c.args.e in
    rw (c.pick.ensures, c.pick-2.ensures, c.pick-3.ensures, c.pick-all.ensures)
    (apart (eqb e.index 2) (eqb e.index 1) e.width e.depth e.height e.all)

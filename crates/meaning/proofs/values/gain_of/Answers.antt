use Rattle.std.proofs.Common.{Bool, false, ltb, refl, true, ℕ, ◌+◌, ◌-◌, ◌≡◌}
use Rattle.bits.specs.Language.{pick}
use Rattle.oamd.specs.Meaning.{zero_db, gain_of}
use Rattle.meaning.proofs.values.gain_of.Goals as goal

less-of : (t : Bool) (a b n : ℕ) → pick t a b - n ≡ pick t (a - n) (b - n)
less-of true a b n = refl
less-of false a b n = refl

pub returns : goal.returns
unfolding gain_of
returns c =
    let g = c.args.g in
    rw (c.pick-3.ensures, c.pick-2.ensures, c.pick-sent.ensures, c.less-fine.ensures, c.pick.ensures, less-of (ltb g.bits 15) (zero_db + 15) (zero_db + 14) g.bits)

use Rattle.std.proofs.Common.{ap, arith, ℕ, ◌/◌, ◌∙◌}
use Rattle.bits.specs.View.{wide_at}
use Rattle.bits.proofs.Width.{sighted}
use Rattle.bits.proofs.sight.window.Goals as goal

-- `bits::sight::window` meets its contract. Assumes nothing.
pub returns : goal.returns
returns c =
    let s = c.args.s.now in
    let e = c.wide_from.ensures ∙ ap (λ (p : ℕ). wide_at s (p / 8)) c.raw.ensures in
    (e, sighted s (λ j. omega (arith, c.shared_slice_known-1.given j)) _ _ e)

use Rattle.std.proofs.Common.{ap, ℕ}
use Rattle.bits.specs.Writes.{to_bits, only}
use Rattle.form.specs.Form.{precise_bits}
use Rattle.coding.proofs.Joins.{◌▸◌, ◌▹◌, behind_is}
use Rattle.coding.proofs.extras.precise.Goals as goal

pub returns : goal.returns
unfolding precise_bits
returns c =
    c.nothing.ensures ▹ behind_is (ap (λ (k : ℕ). only c.args.sent (to_bits 1 k)) c.as_flag-some.ensures) c.pack_if.ensures ▸ c.pack_if-p.ensures ▸ c.axes.ensures

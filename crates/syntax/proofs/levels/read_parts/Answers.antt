use Rattle.std.proofs.Common.{inl, inr, pow_pos, rules}
use Rattle.bits.proofs.Sticky.{plain'}
use Rattle.syntax.proofs.levels.read_parts.Goals as goal

pub returns-in-Full : goal.returns-in-Full
returns-in-Full c =
    rw (c.in-Full.is, c.with_value.ensures) (record { reads = plain'; small = search rules })

pub returns-in-Default : goal.returns-in-Default
returns-in-Default c =
    rw c.with_value-in-Default.ensures
    (elim c.in-Default.is [ inl e ↦ rw e (record { reads = plain'; small = pow_pos _ }) | inr e ↦ rw e (record { reads = plain'; small = pow_pos _ }) ])

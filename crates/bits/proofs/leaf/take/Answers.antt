use Rattle.std.proofs.Common.{ap, arith, pow_pos, rules, subst, sym, ℕ, ◌/◌, ◌<◌, ◌^◌, ◌∙◌}
use Rattle.bits.specs.Language.{bit, slice, number}
use Rattle.bits.specs.View.{word_at}
use Rattle.bits.proofs.Width.{shifted, bits_lt}
use Rattle.bits.proofs.Sticky.{short, whole}
use Rattle.bits.proofs.leaf.take.Goals as goal

pub returns-then-to-end : goal.returns-then-to-end
returns-then-to-end c =
    let a = c.args in
    let x = c.word-x.ensures ∙ ap (λ (p : ℕ). word_at a.s.now (p / 8)) (sym c.raw-p.ensures) in
    let r = shifted a.s.now (λ j. omega (arith, c.shared_slice_known-1.given j)) c.raw-p.result a.w c.word-x.result (omega arith) x
    ∙ ap (λ (p : ℕ). number (slice (bit a.s.now) p a.w)) c.raw-p.ensures in
    record {
      reads = whole (search rules) (omega arith) (omega arith) (search rules) r;
      small = subst (λ (v : ℕ). v < 2 ^ a.w) (sym r) (bits_lt _ _ _);
    }

pub returns-else-to-end : goal.returns-else-to-end
returns-else-to-end c =
    record { reads = short (search rules) (omega arith) (omega arith) (search rules); small = pow_pos _ }

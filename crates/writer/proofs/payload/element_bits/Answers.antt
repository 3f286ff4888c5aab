use Rattle.std.proofs.Common.{Bool, ap, arith, rules, true, length, sym, ℕ, ◌+◌, ◌∙◌, ◌≡◌}
use Rattle.bits.specs.Language.{pick}
use Rattle.form.specs.Form.{size_bits}
use Rattle.writer.specs.Parts.{framed}
use Rattle.writer.proofs.Widths.{packed-wide}
use Rattle.writer.proofs.payload.element_bits.Goals as goal

pub returns : goal.returns
returns c =
    let n = c.args.n.0 in
    let v = c.size_for-v.ensures in
    let wide = packed-wide c.size.ensures in
    let there : c.args.on ≡ true = search rules in
    let total : c.plus-2.result.0 ≡ 4 + c.size.result.width.0 + c.room_of.result.0 =
    omega (arith, c.plus-2.ensures, c.plus.ensures, c.new-2.ensures, c.room_of.ensures, wide.most, v.most, c.requires) in
    record {
      same =
          omega (arith, total, c.room_of.ensures, wide.same, ap (λ (k : ℕ). length (size_bits k)) v.same, v.same)
          ∙ sym (ap (λ (x : Bool). pick x (framed n) 0) there);
      most = omega (arith, total, c.room_of.ensures, wide.most, v.most);
    }

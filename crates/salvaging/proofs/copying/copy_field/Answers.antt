-- `copy_field` meets its contract: the window's field is the number of the bits, and that number is laid. Assumes nothing.
use Rattle.std.proofs.Common.{ap, arith, ℕ, ◌∙◌, ◌≡◌}
use Rattle.bits.specs.declared.Sighted.{Sighted}
use Rattle.bits.specs.Language.{slice, number, bit}
use Rattle.bits.specs.Writes.{to_bits}
use Rattle.laying.proofs.Laws.{laid_is}
use Rattle.salvaging.proofs.Copies.{copied, seen_in}
use Rattle.salvaging.proofs.copying.copy_field.Goals as goal

pub returns : goal.returns
returns c =
    let a = c.args in
    let s = a.s.now in
    let seen : c.look-seen.result.value ≡ number (slice (bit s) a.from.0 a.w) =
    ap (λ (x : Sighted ℕ). x.value) c.look-seen.ensures.0
    ∙ seen_in s a.from.0 _ a.w c.window-window.ensures.1 (omega (arith, c.raw.ensures)) (omega (arith, c.requires.le_w)) in
    laid_is (ap (to_bits a.w) seen ∙ copied s a.from.0 a.w) c.put.ensures.laid

-- An element around its fields. Assumes nothing.
use mathlib.Core.Path.{◌≡◌, ap, ◌∙◌}
use mathlib.Core.List.{List, ◌++◌, append_assoc}
use Prim.Native.Nat.{ℕ, ◌+◌, ◌-◌, ◌*◌}
use lib.ListN.{replicate}
use Rattle.bits.specs.Writes.{to_bits}
use Rattle.form.specs.Form.{size_bits, size_for, framed_bits, element_bits}
use Rattle.laying.specs.declared.Pen.{Pen}
use Rattle.laying.specs.Laying.{Laid}
use Rattle.laying.proofs.Laws.{laid-bind, laid_is}
use Rattle.writer.specs.Most.{most_front, most_padding, most_element}
use Rattle.writer.specs.Parts.{Inside, Sized}

regroup : (a b c d e : List ℕ) → (a ++ (b ++ c)) ++ (d ++ e) ≡ a ++ (b ++ ((c ++ d) ++ e))
regroup a b c d e = simp append_assoc

module _ {k n v : ℕ} {fields : List ℕ} (i : Inside k n fields) (z : Sized n v) where
  -- what stands before the fields, the fields, and zeros up to the end
  pub framed-laid : {s t u w : List ℕ} {at p q r : Pen} (id : ℕ) → Laid most_front s t at p (to_bits 4 id ++ (size_bits v ++ to_bits 1 0)) → Laid k t u p q fields
      → Laid most_padding u w q r (replicate (8 * (v + 1) - n) 0) → Laid (most_element k) s w at r (element_bits id fields)
  unfolding element_bits framed_bits
  framed-laid id front body zeros =
      let size = z.same in
      laid_is
      (ap (λ (x : ℕ). (to_bits 4 id ++ (size_bits x ++ to_bits 1 0)) ++ (fields ++ replicate (8 * (x + 1) - n) 0)) size
      ∙ regroup (to_bits 4 id) (size_bits (size_for n)) (to_bits 1 0) fields (replicate (8 * (size_for n + 1) - n) 0)
      ∙ ap (λ (x : ℕ). to_bits 4 id ++ (size_bits (size_for x) ++ ((to_bits 1 0 ++ fields) ++ replicate (8 * (size_for x + 1) - x) 0))) i.same)
      (laid-bind front (laid-bind body zeros))
